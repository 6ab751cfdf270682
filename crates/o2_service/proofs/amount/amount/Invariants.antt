use Rattle.std.proofs.Common.{◌≡◌, ◌≤◌, ◌+◌, ◌*◌, length, take}
use Rattle.o2_service.specs.Needs.{all_needed}
use Rattle.o2_service.proofs.amount.amount.Given as goal

abbrev pub invariant-loop-k : goal.invariant-loop-k
invariant-loop-k l = record {
  total : l.total ≡ all_needed l.store (take l.k l.need);
  small : l.total ≤ 65536 * length l.store.entries + l.k * 8589934592;
}
