use Rattle.o2_entries.specs.Tables.{slot_at}
use Rattle.o2_store.specs.Pictures.{HasPicture}
use Rattle.o2_changes.proofs.Marking.{altered_guards, altered_held, altered_live, altered_pictures, altered_told, discard_matches, discards_one, kind_there}
use Rattle.o2_changes.proofs.Segmenting.{told_order}
use Rattle.o2_changes.proofs.segments.discard.Goals as goal

pub discard-requires : goal.discard-requires
discard-requires c = kind_there c.args.id.age (slot_at c.args.store.now.entries c.args.id.key) c.requires.kind

pub settle_moved-requires : goal.settle_moved-requires
settle_moved-requires c =
    let s = c.args.store.now in
    let t = c.discard.new.self in
    let id = c.args.id in
    let live = c.requires.live in
    let a = discards_one s t id live (c.discard.ensures.discarded (c.discard.ensures.live.1 live)) c.discard.ensures.map in
    record {
      live = altered_live s t id live a id live;
      held = altered_held s t id live a c.args.regions.now c.requires.order.held;
      others = altered_told s t id live a c.args.regions.now (c.discard.ensures.discarded (c.discard.ensures.live.1 live)).places c.requires.order.settled;
    }

pub returns : goal.returns
returns c =
    let s = c.args.store.now in
    let t = c.discard.new.self in
    let m = c.args.regions.now in
    let n = c.settle_moved.new.regions in
    let id = c.args.id in
    let live = c.requires.live in
    let d = c.discard.ensures.discarded (c.discard.ensures.live.1 live) in
    let a = discards_one s t id live d c.discard.ensures.map in
    let f = c.settle_moved.ensures.follows in
    let order = told_order t m n (altered_held s t id live a m c.requires.order.held) c.requires.order.tables f.settled f.maps in
    record {
      discards = d;
      maps = f.maps;
      goes_on = record {
        order = order;
        guards = altered_guards s t id live a m n f.maps;
        clean = c.discard.ensures.clean;
        pictures = λ images. altered_pictures s t id live a (HasPicture images);
        map = c.discard.ensures.map;
        unused = c.discard.ensures.unused;
      };
      matches = record { world = discard_matches s t m n id live d c.discard.ensures.map f.maps c.discard.ensures.clean order };
    }
