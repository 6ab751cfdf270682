use Rattle.std.proofs.Common.{◌≡◌, ℕ, ◌<◌, ◌≤◌, get_or, drop, map, IsTrue}
use Rattle.std.specs.Prelude.{flat_map}
use Rattle.o2_store.specs.Idle.{NoneTaken}
use Rattle.o2_dump.specs.CoreBytes.{segment_bytes}
use Rattle.o2_dumping.specs.Fits.{FitsAt}
use Rattle.o2_dumping.specs.Puts.{IsPutBut, IsRead}
use Rattle.o2_dumping.specs.Told.{numbers, segment_told, segments_told}
use Rattle.o2_dumping.proofs.segments.put_segments.Given as goal

abbrev pub invariant-loop-k : goal.invariant-loop-k
invariant-loop-k g l = record {
  text : IsTrue (g.S.SwapDevice.told l.swap) → IsPutBut (g.C.Sink.taken l.fn.console) (g.C.Sink.taken l.console)
      (flat_map segment_bytes (segments_told l.store (g.S.SwapDevice.block l.fn.swap)))
      (flat_map segment_bytes (map (segment_told l.store (g.S.SwapDevice.block l.fn.swap)) (drop l.k (numbers l.store))));
  fits : IsTrue (g.S.SwapDevice.told l.swap) → (k : ℕ) → k < l.k → FitsAt l.store (g.S.SwapDevice.block l.fn.swap) (get_or (numbers l.store) k 0);
  read : IsRead (g.S.SwapDevice.blocks l.fn.swap) (g.S.SwapDevice.blocks l.swap) (g.S.SwapDevice.told l.fn.swap) (g.S.SwapDevice.told l.swap)
      (g.S.SwapDevice.block l.fn.swap) (g.S.SwapDevice.block l.swap);
  sinks : g.C.Sink.faults l.fn.console ≤ g.C.Sink.faults l.console;
  swaps : g.S.SwapDevice.faults l.fn.swap ≤ g.S.SwapDevice.faults l.swap;
  idle : NoneTaken l.store.swap → l.swap ≡ l.fn.swap;
}
