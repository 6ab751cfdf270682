-- A sum of 64 bits of a block of 512 bytes, by which it's known again.
use Rattle.std.specs.Prelude.{ℕ, zero, suc, ◌+◌, ◌*◌, ◌%◌, ◌^◌, List, [], ◌∷◌, slice_index, bit_xor}
use Rattle.std.specs.Int.{from_le_bytes, rotate_left, w64}

-- the 64-bit word at a place, the lowest byte first
unfoldable pub word_at : List ℕ → ℕ → ℕ
word_at bytes at = from_le_bytes w64 (slice_index bytes at ∷ slice_index bytes (at + 1) ∷ slice_index bytes (at + 2) ∷ slice_index bytes (at + 3)
    ∷ slice_index bytes (at + 4) ∷ slice_index bytes (at + 5) ∷ slice_index bytes (at + 6) ∷ slice_index bytes (at + 7) ∷ [])

-- one word is combined by exclusive or, and another one added
unfoldable pub mixed : ℕ → (combined added : ℕ) → ℕ
mixed sum combined added = (bit_xor sum combined + added) % 2 ^ 64

-- of so many groups of four words: two pairs of them, with a rotation by 23 bits between
unfoldable pub groups_sum : List ℕ → ℕ → ℕ
groups_sum bytes zero = 0
groups_sum bytes (suc k) = mixed (rotate_left w64 (mixed (groups_sum bytes k) (word_at bytes (32 * k)) (word_at bytes (32 * k + 8))) 23)
    (word_at bytes (32 * k + 16)) (word_at bytes (32 * k + 24))

-- of a block, which has 16 groups
unfoldable pub block_sum : List ℕ → ℕ
block_sum bytes = groups_sum bytes 16
