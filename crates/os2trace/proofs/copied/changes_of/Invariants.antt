use Rattle.std.proofs.Common.{◌≡◌}
use Rattle.o2_outer.specs.Devices.{swap_blocks}
use Rattle.os2trace.proofs.copied.changes_of.Given as goal

abbrev pub invariant-loop-name : goal.invariant-loop-name
invariant-loop-name l = record { blocks : swap_blocks l.swap ≡ swap_blocks l.fn.swap }
