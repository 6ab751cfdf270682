use Rattle.std.proofs.Common.{◌≡◌, ◌≤◌, ◌+◌, ◌*◌, ◌^◌, length, sum_by, take}
use Rattle.o2_machine.proofs.begin.line_count.Given as goal

abbrev pub invariant-loop-selectors : goal.invariant-loop-selectors
invariant-loop-selectors l = record {
  so_far : l.count ≡ sum_by (λ v. length v.items + 1) (take l.selectors-index l.starts);
  few : l.count ≤ 2 ^ 64 * l.selectors-index;
}
