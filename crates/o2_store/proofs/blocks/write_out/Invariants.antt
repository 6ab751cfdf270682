use Rattle.std.proofs.Common.{◌≡◌, ◌≤◌, ◌<◌, ◌+◌, ◌*◌, ℕ, length, slice_index, IsTrue}
use Rattle.o2_store.specs.Shelf.{IsOther, stored_byte}
use Rattle.o2_store.proofs.blocks.write_out.Given as goal

abbrev pub invariant-loop-k : goal.invariant-loop-k
invariant-loop-k g l = let S = g.S.SwapDevice in record {
  blocks : S.blocks l.swap ≡ S.blocks l.initial.swap;
  told : IsTrue (S.told l.swap) → IsTrue (S.told l.initial.swap);
  faults : S.faults l.initial.swap ≤ S.faults l.swap;
  unasked : S.asked l.swap ≡ S.asked l.initial.swap;
  size_of_buffer : length l.buffer ≡ 512;
  others : IsTrue (S.told l.swap) → (b : ℕ) → IsOther l.map l.key b → S.block l.swap b ≡ S.block l.initial.swap b;
  written : IsTrue (S.told l.swap) → (j : ℕ) → j < l.size → j < 512 * l.k → stored_byte l.map (S.block l.swap) l.key j ≡ slice_index l.phys (l.at + j);
}
