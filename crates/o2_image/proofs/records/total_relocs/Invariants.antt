use Rattle.std.proofs.Common.{◌≡◌, ◌+◌, ◌*◌, ◌≤◌, drop, length, map}
use Rattle.std.specs.List.{sum_by}
use Rattle.o2_ne_segs.specs.Records.{relocs_in}
use Rattle.o2_image.proofs.records.total_relocs.Given as goal

abbrev pub invariant-loop-segment : goal.invariant-loop-segment
invariant-loop-segment l = record {
  so_far : l.total + sum_by length (map (relocs_in l.file) (drop l.segment-index l.segments)) ≡ sum_by length (map (relocs_in l.file) l.segments);
  small : l.total ≤ 65535 * l.segment-index;
}
