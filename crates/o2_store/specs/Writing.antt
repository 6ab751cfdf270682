-- Bytes are written into a segment in memory.
use Rattle.std.specs.Prelude.{◌≡◌, ◌≢◌, ◌⊎◌, ℕ, ◌+◌, ◌<◌, ◌≤◌, List, length, slice_index_or}
use Rattle.o2_store.specs.Shelf.{Shelf, Pictures, byte_at, entry}

-- a number's segment has these bytes from an offset on, and keeps its others; all other segments keep theirs
pub record PutsBytes (old new : Shelf) (key offset : ℕ) (bytes : List ℕ) : Type 0 where
  pub here : (pic : Pictures) (block : ℕ → List ℕ) (j : ℕ) → j < length bytes → byte_at new pic block key (offset + j) ≡ slice_index_or bytes j 0
  pub rest : (pic : Pictures) (block : ℕ → List ℕ) (j : ℕ) → j < (entry old key).size → (j < offset) ⊎ (offset + length bytes ≤ j)
      → byte_at new pic block key j ≡ byte_at old pic block key j
  pub others : (pic : Pictures) (block : ℕ → List ℕ) (k j : ℕ) → k ≢ key → j < (entry old k).size → byte_at new pic block k j ≡ byte_at old pic block k j
