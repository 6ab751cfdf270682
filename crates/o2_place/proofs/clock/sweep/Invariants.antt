use Rattle.std.proofs.Common.{◌≡◌, ◌⊎◌, ℕ, ◌<◌, ◌≤◌, length, slice_index}
use Rattle.o2_place.specs.Marks.{OnlyUnmarks, HasPassed, mark_of}
use Rattle.o2_place.proofs.clock.sweep.Given as goal

abbrev pub invariant-loop-i : goal.invariant-loop-i
invariant-loop-i l = record {
  unmarks : OnlyUnmarks l.initial.marks.items l.marks.items;
  passed : HasPassed l.initial.marks.items l.marks.items l.ring l.keep l.from l.i;
  rest : (j : ℕ) → j < length l.ring → ((j < l.from) ⊎ (l.i ≤ j)) → mark_of l.marks.items (slice_index l.ring j) ≡ mark_of l.initial.marks.items (slice_index l.ring j);
}
