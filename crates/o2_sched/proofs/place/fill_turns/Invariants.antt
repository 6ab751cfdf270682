use Rattle.std.proofs.Common.{◌≡◌, ℕ, ◌≤◌, ◌<◌, ◌+◌, length, slice_index_or}
use Rattle.o2_conf.specs.Dispatch.{turn_after}
use Rattle.o2_sched.proofs.place.fill_turns.Given as goal

abbrev pub invariant-loop-number : goal.invariant-loop-number
invariant-loop-number l = record {
  count : length l.turns.items ≡ length l.flags + 1;
  turn : (k : ℕ) → k < l.number → slice_index_or l.turns.items k 0 ≡ turn_after l.flags k;
  bound : (k : ℕ) → k < l.number → slice_index_or l.turns.items k 0 ≤ length l.flags;
}
