use Rattle.std.proofs.Common.{◌≡◌, ℕ, ◌<◌, ◌+◌, ◌*◌, ◌-◌}
use Rattle.o2_ne.specs.Steps.{over, tabulate}
use Rattle.o2_ne_segs.specs.Records.{reloc_at, relocs_at}
use Rattle.o2_image.specs.Known.{AreKnown}
use Rattle.o2_image.specs.Records.{record_step}
use Rattle.o2_image.specs.Whole.{HasPlaces}
use Rattle.o2_image.proofs.records.check_records.Given as goal

abbrev pub invariant-loop-number : goal.invariant-loop-number
invariant-loop-number l = record {
  so_far : over (record_step l.scope.file.now l.scope.head.now l.scope.entries.now l.seg l.bytes) (tabulate (λ k. reloc_at l.scope.file.now (l.at + 8 * k)) l.number (l.count - l.number)) (record { marks = l.marks; number = l.number })
      ≡ over (record_step l.scope.file.now l.scope.head.now l.scope.entries.now l.seg l.bytes) (relocs_at l.scope.file.now l.at l.count) (record { marks = l.fn.marks; number = 0 });
  places : (j : ℕ) → j < l.number → HasPlaces l.bytes (reloc_at l.scope.file.now (l.at + 8 * j));
  known : AreKnown l.scope.file.now l.scope.head.now l.scope.entries.now l.known;
}
