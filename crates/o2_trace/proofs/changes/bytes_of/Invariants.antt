use Rattle.std.proofs.Common.{◌≡◌, ◌++◌, drop}
use Rattle.o2_trace.specs.Bytes.{bytes_of}
use Rattle.o2_trace.proofs.changes.bytes_of.Given as goal

abbrev pub invariant-loop-change : goal.invariant-loop-change
invariant-loop-change l = l.out.items ++ bytes_of l.is_new (drop l.change-index l.run) ≡ bytes_of l.is_new l.run
