-- Marks as words of 64 bits.
use Rattle.std.specs.Prelude.{◌≡◌, ℕ, ◌+◌, ◌*◌, ◌/◌, ◌%◌, ◌<◌, ◌≤◌, ◌==◌, Bool, false, List, length, map, slice_index_or}
use Rattle.std.specs.List.{range_with_len}
use Rattle.std.specs.Int.{bit_at}
use Rattle.o2_desc.specs.Choice.{IsRun}

-- whether the bit of a place is 1
abbrev pub mark_at : List ℕ → ℕ → Bool
mark_at ws k = bit_at (slice_index_or ws (k / 64) 0) (k % 64) == 1

-- the marks of the words' bits, the lowest bit of a word first
abbrev pub marks_of : List ℕ → List Bool
marks_of ws = map (mark_at ws) (range_with_len 0 (64 * length ws))

-- a scan for n numbers in a row that aren't taken has come to i, the last `run` of which were not taken
pub record IsScanned (taken : ℕ → Bool) (low end n i run : ℕ) : Type 0 where
  pub inside : low + run ≤ i
  pub short : run < n
  pub clear : (k : ℕ) → i ≤ k + run → k < i → taken k ≡ false
  pub before : (j : ℕ) → j + run < i → IsRun taken low end n j → ⊥
