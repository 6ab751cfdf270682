use Rattle.std.proofs.Common.{◌≡◌, ◌++◌, drop, map}
use Rattle.o2_dynlink.specs.Marks.{next_marks}
use Rattle.o2_dynlink.proofs.reached.next_marks.Given as goal

abbrev pub invariant-loop-i : goal.invariant-loop-i
invariant-loop-i l =
    l.next.items ++ next_marks (drop l.i l.first) (drop l.i (map (λ c. c.items) l.columns)) l.marks ≡ next_marks l.first (map (λ c. c.items) l.columns) l.marks
