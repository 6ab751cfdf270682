use Rattle.o2_ends.specs.LetsGo.{FreesShared}
use Rattle.o2_ends.proofs.Dropping.{is_below}
use Rattle.o2_ends.proofs.drops.release_stretch.Given as goal

abbrev pub invariant-loop-index : goal.invariant-loop-index
invariant-loop-index l = FreesShared l.initial.regions l.regions (λ j. is_below l.initial.regions l.from l.index j)
