use Rattle.std.proofs.Common.{◌≡◌, ℕ, ◌+◌, ◌<◌, ◌≤◌, Some, drop}
use Rattle.std.specs.Prelude.{flat_map, slice_get}
use Rattle.o2_dump.specs.CoreBytes.{process_bytes}
use Rattle.o2_regions.specs.Maps.{held_at}
use Rattle.o2_dumping.specs.Fits.{IsFitHold, IsFitRow}
use Rattle.o2_dumping.specs.Puts.{IsPutBut}
use Rattle.o2_dumping.specs.Told.{Row, processes_from}
use Rattle.o2_dumping.proofs.processes.put_processes.Given as goal

abbrev pub invariant-loop-place : goal.invariant-loop-place
invariant-loop-place g l = record {
  text : IsPutBut (g.C.Sink.taken l.fn.console) (g.C.Sink.taken l.console) (flat_map process_bytes (processes_from l.store l.regions 1 l.rows))
      (flat_map process_bytes (processes_from l.store l.regions (l.place + 1) (drop l.place l.rows)));
  rows : (k : ℕ) (p : Row) → k < l.place → slice_get l.rows k ≡ Some p → IsFitRow p;
  fits : (k i : ℕ) → k < l.place → i < 8192 → IsFitHold (held_at l.regions (k + 1) i);
  count : g.C.Sink.faults l.fn.console ≤ g.C.Sink.faults l.console;
}
