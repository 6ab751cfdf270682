use Rattle.std.proofs.Common.{◌∙◌, sym, subst}
use Rattle.o2_regions.specs.Maps.{Maps}
use Rattle.o2_service.specs.Learned.{Learns}
use Rattle.o2_service.proofs.Clocks.{learns_one, used_read}
use Rattle.o2_service.proofs.learning.learn_at.Goals as goal

pub returns-then-is_accessed-clause-learned : goal.returns-then-is_accessed-clause-learned
returns-then-is_accessed-clause-learned c =
    let s = c.args.store.now in
    let m = c.args.regions.now in
    let h = c.in-Some.held in
    let here = sym c.held.ensures.held ∙ c.in-Some.is in
    let was = used_read m c.args.pid c.args.index h c.in-Some-descriptor.descriptor here (sym c.descriptor.ensures ∙ c.in-Some-descriptor.is) (sym c.is_accessed.ensures ∙ c.if-is_accessed.true) in
    subst (λ (n : Maps). Learns s c.touch.new.store m n) (sym c.unmark.ensures)
    (learns_one s c.touch.new.store m c.args.pid c.args.index h c.law.ensures.shelf (c.requires.held.live c.args.pid c.args.index h here) here was c.touch.ensures)
