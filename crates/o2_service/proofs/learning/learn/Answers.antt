use Rattle.std.proofs.Common.{sym, subst}
use Rattle.o2_regions.specs.Maps.{Maps}
use Rattle.o2_service.specs.Learned.{Learns}
use Rattle.o2_service.proofs.Clocks.{learns_trans, none_unused, settled_learned, unused_none}
use Rattle.o2_service.proofs.learning.learn.Goals as goal

pub list_anew-requires : goal.list_anew-requires
list_anew-requires c =
    let s = c.args.store.now in
    let t = c.learn_listed.new.store in
    let m = c.args.regions.now in
    let n = c.learn_listed.new.regions in
    unused_none c.learn_held.new.store c.learn_held.new.regions
    (settled_learned t c.learn_held.new.store n c.learn_held.new.regions c.learn_held.ensures.learned (settled_learned s t m n c.learn_listed.ensures.learned c.requires.settled))
    c.learn_held.ensures.clear

pub returns-then-learn_listed-clause-clear : goal.returns-then-learn_listed-clause-clear
returns-then-learn_listed-clause-clear c = none_unused c.learn_listed.new.regions (c.learn_listed.ensures.clear c.if-learn_listed.true)

pub returns-clause-learned : goal.returns-clause-learned
returns-clause-learned c =
    subst (λ (z : Maps). Learns c.args.store.now c.learn_held.new.store c.args.regions.now z) (sym c.list_anew.ensures)
    (learns_trans c.args.store.now c.learn_listed.new.store c.learn_held.new.store c.args.regions.now c.learn_listed.new.regions c.learn_held.new.regions c.learn_listed.ensures.learned c.learn_held.ensures.learned)
