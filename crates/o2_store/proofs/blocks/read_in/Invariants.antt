use Rattle.std.proofs.Common.{◌≡◌, ◌≤◌, ◌<◌, ◌+◌, ◌*◌, ◌⊎◌, ◌++◌, ℕ, [], length, take, slice_index, IsTrue}
use Rattle.std.specs.List.{filter}
use Rattle.o2_swapmap.specs.Piles.{blocks_of}
use Rattle.o2_store.specs.Shelf.{stored_byte}
use Rattle.o2_store.proofs.blocks.read_in.Given as goal

abbrev pub invariant-loop-k : goal.invariant-loop-k
invariant-loop-k g l = let S = g.S.SwapDevice in record {
  untouched : blocks_of l.map l.key ≡ [] → l.swap ≡ l.initial.swap;
  blocks : S.blocks l.swap ≡ S.blocks l.initial.swap;
  told : IsTrue (S.told l.swap) → IsTrue (S.told l.initial.swap);
  faults : S.faults l.initial.swap ≤ S.faults l.swap;
  asked : S.asked l.swap ≡ S.asked l.initial.swap ++ filter (S.known l.initial.swap) (take l.k (blocks_of l.map l.key));
  knows : (b : ℕ) → S.known l.swap b ≡ S.known l.initial.swap b;
  size_of_buffer : length l.buffer ≡ 512;
  size_of_memory : length l.phys ≡ length l.initial.phys;
  same : IsTrue (S.told l.swap) → (b : ℕ) → S.block l.swap b ≡ S.block l.initial.swap b;
  outside : (i : ℕ) → (i < l.at) ⊎ (l.at + l.kept ≤ i) → slice_index l.phys i ≡ slice_index l.initial.phys i;
  read : IsTrue (S.told l.swap) → (j : ℕ) → j < l.kept → j < 512 * l.k → slice_index l.phys (l.at + j) ≡ stored_byte l.map (S.block l.initial.swap) l.key j;
}
