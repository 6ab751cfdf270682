use Rattle.std.proofs.Common.{◌≡◌}
use Rattle.os2trace.proofs.reading.from_blocks.Given as goal

abbrev pub invariant-loop-k : goal.invariant-loop-k
invariant-loop-k g l = record { blocks : g.S.SwapDevice.blocks l.swap ≡ g.S.SwapDevice.blocks l.fn.swap }
