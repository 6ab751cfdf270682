use Rattle.std.proofs.Common.{◌≡◌, ℕ, ◌<◌, ◌+◌, drop, get_or}
use Rattle.o2_ne.specs.Steps.{over}
use Rattle.o2_ne_segs.specs.declared.segment.Segment.{Segment}
use Rattle.o2_image.specs.Alike.{Passes}
use Rattle.o2_image.specs.Known.{AreKnown}
use Rattle.o2_image.specs.Records.{segment_step}
use Rattle.o2_image.specs.Whole.{HasSegment}
use Rattle.o2_image.proofs.records.check_all.Given as goal

abbrev pub invariant-loop-i : goal.invariant-loop-i
invariant-loop-i l = record {
  so_far : over (segment_step l.scope.file.now l.scope.head.now l.scope.entries.now) (drop l.i l.segments) l.number
      ≡ over (segment_step l.scope.file.now l.scope.head.now l.scope.entries.now) l.segments 1;
  at : l.number ≡ l.i + 1;
  known : AreKnown l.scope.file.now l.scope.head.now l.scope.entries.now l.known;
  passed : (k : ℕ) (d : Segment) → k < l.i → Passes l.scope.file.now l.scope.head.now l.scope.entries.now (get_or l.segments k d);
  whole : (k : ℕ) (d : Segment) → k < l.i → HasSegment l.scope.file.now (get_or l.segments k d);
}
