use Rattle.std.proofs.Common.{true}
use Rattle.o2_store.specs.Pictures.{HasPicture, picture}
use Rattle.o2_changes.proofs.Guarding.{sized_guards, sized_pictures}
use Rattle.o2_changes.proofs.Marking.{no_images, none_there, out_matches, sized_held, sized_live, sized_told}
use Rattle.o2_changes.proofs.Segmenting.{told_order}
use Rattle.o2_changes.proofs.segments.resize_out.Goals as goal

pub settle_moved-requires : goal.settle_moved-requires
settle_moved-requires c =
    let s = c.args.store.now in
    let t = c.resize_out.new.self in
    let r = c.resize_out.ensures.resizes true (picture no_images) none_there in
    record {
      live = sized_live s t c.args.id c.args.size r c.requires.live;
      held = sized_held s t c.args.regions.now c.args.id.key c.args.size r c.requires.order.held;
      others = sized_told s t c.args.regions.now c.args.id.key c.args.size r c.resize_out.ensures.places c.requires.order.settled;
    }

pub returns : goal.returns
returns c =
    let s = c.args.store.now in
    let t = c.resize_out.new.self in
    let m = c.args.regions.now in
    let n = c.settle_moved.new.regions in
    let id = c.args.id in
    let size = c.args.size in
    let e = c.resize_out.ensures in
    let r = e.resizes true (picture no_images) none_there in
    let f = c.settle_moved.ensures.follows in
    let order = told_order t m n (sized_held s t m id.key size r c.requires.order.held) c.requires.order.tables f.settled f.maps in
    record {
      resizes = e.resizes;
      places = e.places;
      kept = e.kept;
      maps = f.maps;
      goes_on = record {
        order = order;
        guards = sized_guards s t m n true no_images none_there none_there id.key size r f.maps;
        clean = e.clean;
        pictures = λ images. sized_pictures s t (HasPicture images) true no_images none_there none_there id.key size r;
        map = e.map;
        unused = e.unused;
      };
      matches = record { world = out_matches s t m n id size c.requires.live e.resizes f.maps e.clean order e.map };
    }
