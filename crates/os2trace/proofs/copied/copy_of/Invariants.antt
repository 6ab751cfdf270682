use Rattle.std.proofs.Common.{◌≡◌}
use Rattle.o2_outer.specs.Devices.{swap_blocks}
use Rattle.os2trace.proofs.copied.copy_of.Given as goal

abbrev pub invariant-loop-index : goal.invariant-loop-index
invariant-loop-index l = record { blocks : swap_blocks l.swap ≡ swap_blocks l.fn.swap }
