use Rattle.std.proofs.Common.{◌≡◌, take}
use Rattle.o2_boundless.proofs.world.copied_reserves.Given as goal

abbrev pub invariant-loop-reserve : goal.invariant-loop-reserve
invariant-loop-reserve l = l.copy.items ≡ take l.reserve-index l.reserves
