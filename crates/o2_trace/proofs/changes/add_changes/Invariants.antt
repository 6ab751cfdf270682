use Rattle.std.proofs.Common.{◌≡◌, ◌++◌, drop}
use Rattle.o2_trace.specs.Bytes.{changes_of}
use Rattle.o2_trace.proofs.changes.add_changes.Given as goal

abbrev pub invariant-loop-at : goal.invariant-loop-at
invariant-loop-at l = l.out.items ++ changes_of l.selector l.at (drop l.at l.old) (drop l.at l.new) ≡ l.initial.out.items ++ changes_of l.selector 0 l.old l.new
