use Rattle.std.proofs.Common.{◌≡◌, ℕ, ◌+◌, ◌*◌, ◌-◌, ◌<◌, ◌≤◌, [], get_or, length, vec_len}
use Rattle.o2_ne.specs.Steps.{steps}
use Rattle.o2_ne_segs.specs.declared.segment.Segment.{Segment}
use Rattle.o2_ne_segs.specs.Records.{end_of}
use Rattle.o2_ne_segs.specs.SegmentTable.{AllSized, row_step, segment_at}
use Rattle.o2_ne_segs.proofs.segment.rows.Given as goal

abbrev pub invariant-loop : goal.invariant-loop
invariant-loop l = record {
  so_far : steps (row_step l.file l.at l.shift) (l.count - l.counter) l.found.items ≡ steps (row_step l.file l.at l.shift) l.count [];
  many : vec_len l.found ≡ l.counter;
  inside : (k : ℕ) (d : Segment) → k < length l.found.items → end_of (get_or l.found.items k d) ≤ length l.file;
  sizes : AllSized l.found.items;
  rows : (k : ℕ) (d : Segment) → k < length l.found.items → get_or l.found.items k d ≡ segment_at l.file l.shift (l.at + 8 * k);
}
