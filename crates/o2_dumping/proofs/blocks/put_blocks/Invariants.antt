use Rattle.std.proofs.Common.{◌≡◌, ◌≤◌, [], drop, map, IsTrue}
use Rattle.std.specs.Prelude.{flat_map}
use Rattle.o2_swapmap.specs.Piles.{blocks_of}
use Rattle.o2_dump.specs.CoreBytes.{block_bytes}
use Rattle.o2_dumping.specs.Fits.{AreLong}
use Rattle.o2_dumping.specs.Puts.{IsPutBut, IsRead}
use Rattle.o2_dumping.specs.Told.{block_told, blocks_told}
use Rattle.o2_dumping.proofs.blocks.put_blocks.Given as goal

abbrev pub invariant-loop-k : goal.invariant-loop-k
invariant-loop-k g l = record {
  text : IsTrue (g.S.SwapDevice.told l.swap) → IsPutBut (g.C.Sink.taken l.fn.console) (g.C.Sink.taken l.console)
      (flat_map block_bytes (blocks_told l.store (g.S.SwapDevice.block l.fn.swap) l.id.key))
      (flat_map block_bytes (map (block_told (g.S.SwapDevice.block l.fn.swap)) (drop l.k (blocks_of l.store.swap l.id.key))));
  long : IsTrue (g.S.SwapDevice.told l.swap) → AreLong (g.S.SwapDevice.block l.fn.swap) (blocks_of l.store.swap l.id.key) l.k;
  read : IsRead (g.S.SwapDevice.blocks l.fn.swap) (g.S.SwapDevice.blocks l.swap) (g.S.SwapDevice.told l.fn.swap) (g.S.SwapDevice.told l.swap)
      (g.S.SwapDevice.block l.fn.swap) (g.S.SwapDevice.block l.swap);
  sinks : g.C.Sink.faults l.fn.console ≤ g.C.Sink.faults l.console;
  swaps : g.S.SwapDevice.faults l.fn.swap ≤ g.S.SwapDevice.faults l.swap;
  unread : blocks_of l.store.swap l.id.key ≡ [] → l.swap ≡ l.fn.swap;
}
