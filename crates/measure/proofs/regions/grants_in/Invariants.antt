use Rattle.std.proofs.Common.{◌≡◌, true}
use Rattle.o2_regions.specs.declared.held.Region.TheVariants.{Shared}
use Rattle.o2_regions.specs.Maps.{is_reserved}
use Rattle.measure.proofs.regions.grants_in.Given as goal

abbrev pub invariant-loop-round : goal.invariant-loop-round
invariant-loop-round l = (l.regions.processes ≡ 64) × (is_reserved l.regions Shared 4096 ≡ true)
