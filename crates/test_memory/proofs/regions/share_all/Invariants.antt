use Rattle.std.proofs.Common.{◌≡◌, true}
use Rattle.o2_regions.specs.declared.held.Region.TheVariants.{Shared}
use Rattle.o2_regions.specs.Maps.{is_reserved}
use Rattle.test_memory.proofs.regions.share_all.Given as goal

abbrev pub invariant-loop-back : goal.invariant-loop-back
invariant-loop-back l = (l.back-end ≡ l.regions.processes) × (is_reserved l.regions Shared 4096 ≡ true)
