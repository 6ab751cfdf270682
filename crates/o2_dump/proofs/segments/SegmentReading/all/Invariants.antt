use Rattle.std.proofs.Common.{◌≡◌, ◌-◌, ◌≤◌, length}
use Rattle.o2_ne.specs.Steps.{steps}
use Rattle.o2_dump.specs.SegmentEntries.{segment_step}
use Rattle.o2_dump.specs.Readings.{segments_so_far}
use Rattle.o2_dump.proofs.segments.SegmentReading.all.Given as goal

abbrev pub invariant-loop : goal.invariant-loop
invariant-loop l = record {
  so_far : steps (segment_step l.file l.fields l.memory l.blocks) (l.count - l.counter) (segments_so_far l.reading) ≡ steps (segment_step l.file l.fields l.memory l.blocks) l.count (segments_so_far l.fn.self);
  inside : l.reading.place ≤ length l.file;
}
