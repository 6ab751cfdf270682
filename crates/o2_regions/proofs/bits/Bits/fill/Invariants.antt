use Rattle.std.proofs.Common.{◌≡◌, ℕ, ◌+◌}
use Rattle.o2_regions.specs.Maps.{fill}
use Rattle.o2_regions.proofs.bits.Bits.fill.Given as goal

abbrev pub invariant-loop-i : goal.invariant-loop-i
invariant-loop-i l = (n : ℕ) → l.from + n ≡ l.i → l.self ≡ fill l.initial.self l.from n l.mark
