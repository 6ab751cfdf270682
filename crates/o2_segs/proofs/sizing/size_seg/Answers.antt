use Rattle.std.proofs.Common.{◌/◌, ◌∙◌, ◌≡◌, Some, ap, sym, subst}
use Rattle.o2_regions.specs.Maps.{Maps, held_at}
use Rattle.o2_store.specs.Shelf.{Shelf, entry}
use Rattle.o2_stands.specs.Knows.{known_in}
use Rattle.o2_world.specs.Rulings.{sizing}
use Rattle.o2_segs.specs.Answers.{Answers}
use Rattle.o2_segs.proofs.Rows.{at_maps, size_none, size_some}
use Rattle.o2_segs.proofs.Selecting.{named_in, size_is, size_there, under_held}
use Rattle.o2_segs.proofs.sizing.size_seg.Goals as goal

pub returns-in-Some-size-clause-answer : goal.returns-in-Some-size-clause-answer
returns-in-Some-size-clause-answer c = λ p o es em.
    (let m = c.args.regions.now in
    let h = c.in-Some.held in
    let e = sym c.in-Some.ensures in
    let at = (under_held m c.args.pid c.args.sel h e).1 in
    subst (Answers (sizing (known_in p o) c.args.pid c.args.sel)) (sym c.done.ensures)
    (size_some p o c.args.pid c.args.sel h c.in-Some-size.size (named_in p c.args.store.now m es em c.requires.named) (at_maps p m c.args.pid c.args.sel (Some h) em e)
    (subst (λ (x : Maps). held_at x c.args.pid (c.args.sel / 8) ≡ Some h) (sym em) at)
    (size_is c.args.store.now m c.requires.named c.args.pid (c.args.sel / 8) h c.in-Some-size.size at (sym c.in-Some-size.ensures) ∙ ap (λ (x : Shelf). (entry x h.id.key).size) (sym es))))

pub returns-in-None-size-clause-answer : goal.returns-in-None-size-clause-answer
returns-in-None-size-clause-answer c = λ p o es em.
    (let at = (under_held c.args.regions.now c.args.pid c.args.sel c.in-Some.held (sym c.in-Some.ensures)).1 in
    absurd (size_there c.args.store.now c.args.regions.now c.requires.named c.args.pid (c.args.sel / 8) c.in-Some.held at (sym c.in-None-size.ensures)))

pub returns-in-None-clause-answer : goal.returns-in-None-clause-answer
returns-in-None-clause-answer c = λ p o es em.
    subst (Answers (sizing (known_in p o) c.args.pid c.args.sel)) (sym c.refusal-in-None.ensures) (size_none p o c.args.pid c.args.sel (at_maps p c.args.regions.now c.args.pid c.args.sel _ em (sym c.in-None.ensures)))
