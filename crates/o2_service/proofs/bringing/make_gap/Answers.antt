use Rattle.std.proofs.Common.{◌∙◌, ap, sym, refl}
use Rattle.o2_swapmap.specs.Piles.{all_of}
use Rattle.o2_store.specs.Shelf.{Shelf}
use Rattle.o2_store.proofs.Keeping.{keeps_refl}
use Rattle.o2_service.proofs.Movings.{follows_refl, gap_never, gap_there, held_moved, moved_room, same_presence, told_before}
use Rattle.o2_service.proofs.bringing.make_gap.Goals as goal

pub returns-then-is_some : goal.returns-then-is_some
returns-then-is_some c =
    let s = c.args.store.now in
    record {
      keeps = λ told pic block. keeps_refl told pic s block;
      clean = λ pic q. q;
      map = refl;
      blocks = refl;
      follows = follows_refl s c.args.regions.now c.requires.held c.requires.settled;
      presence = λ k. refl;
      load = refl;
      alone = λ start f. (refl, refl);
      room = c.requires.room;
      gap = gap_there s.places _ c.gap_for.result c.gap_for.ensures.lowest (sym c.is_some.ensures ∙ c.if-is_some.true);
    }

pub settle_slid-requires : goal.settle_slid-requires
settle_slid-requires c =
    let s = c.args.store.now in
    let t = c.close_gaps-from.new.self in
    let e = c.close_gaps-from.ensures in
    record {
      held = held_moved s t c.args.regions.now c.requires.held e.moved;
      before = told_before s t c.close_gaps-from.result c.args.regions.now c.requires.settled e.moved e.stay;
    }

pub returns : goal.returns
returns c =
    let s = c.args.store.now in
    let t = c.close_gaps-from.new.self in
    let e = c.close_gaps-from.ensures in
    let room = moved_room s t c.args.id.key e.moved c.requires.room in
    record {
      keeps = e.keeps;
      clean = e.clean;
      map = ap (λ (z : Shelf). all_of z.swap) e.moved.shelf;
      blocks = ap (λ (z : Shelf). z.swap) e.moved.shelf;
      follows = c.settle_slid.ensures.follows;
      presence = λ k. same_presence s t k e.moved;
      load = e.moved.load;
      alone = λ start f. absurd (gap_never s _ c.gap_for.result (sym c.is_some.ensures ∙ c.if-is_some.false) c.gap_for.ensures.none start f);
      room = room;
      gap = (_, e.gap _ room);
    }
