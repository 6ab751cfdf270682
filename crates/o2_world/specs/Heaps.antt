-- A heap inside a segment: what the segment's bytes say of it, and the words that say it.
use Rattle.std.specs.Prelude.{ℕ, zero, suc, ◌+◌, ◌*◌, ◌/◌, ◌%◌, ◌<◌, Bool, false, ◌&&◌, ◌||◌, ◌==◌, nat_le, nat_lt, List, [], ◌∷◌, length, map, Option, Some, None, option_map, if◌then◌else◌, slice_index, slice_set}
use Rattle.std.specs.List.{range_with_len}

-- each byte is one
pub record AreBytes (bytes : List ℕ) : Type 0 where
  pub small : (k : ℕ) → slice_index bytes k < 256

-- the heap's size in bytes, and its free blocks by rising offset, each with its offset and its length
pub record Heap : Type 0 where
  pub size : ℕ
  pub blocks : List (ℕ × ℕ)

-- the word at a place, low byte first
unfoldable pub word : List ℕ → ℕ → ℕ
word bytes at = slice_index bytes at + 256 * slice_index bytes (at + 1)

-- the bytes with a word at its place
unfoldable pub put_word : List ℕ → ℕ × ℕ → List ℕ
put_word bytes (at, w) = slice_set (slice_set bytes at (w % 256)) (at + 1) (w / 256)

-- the bytes with each word of a list at its place
abbrev pub put_words : List ℕ → List (ℕ × ℕ) → List ℕ
put_words bytes [] = bytes
put_words bytes (w ∷ ws) = put_words (put_word bytes w) ws

-- a block lies from a place on, within the heap
unfoldable pub is_block : ℕ → ℕ → ℕ → ℕ → Bool
is_block size low at len = ((at % 4 == 0) && nat_le low at) && (((len % 4 == 0) && nat_le 4 len) && nat_le (at + len) size)

-- the free blocks of a chain, each of which begins from a place on, behind the one before, without touching it; the word
-- at `link` is the first one's offset, or 0; None where a block isn't so, or the chain has this count of blocks or more
abbrev pub chain_from : ℕ → List ℕ → ℕ → ℕ → ℕ → Option (List (ℕ × ℕ))
chain_from zero bytes size low link = None
chain_from (suc n) bytes size low link =
    let at = word bytes link in
    let len = word bytes (at + 2) in
    if at == 0 then Some []
    else if is_block size low at len then option_map (λ bs. (at, len) ∷ bs) (chain_from n bytes size (at + len + 1) at)
    else None

-- the words at 0, 2 and 6 are those of a heap that lies within the segment
unfoldable pub is_header : List ℕ → Bool
is_header bytes =
    let size = word bytes 2 in
    ((word bytes 0 == 0x4253) && (word bytes 6 == 0)) && ((size % 4 == 0) && (nat_le 12 size && nat_le size (length bytes)))

-- the good heap that a segment's bytes have, or none
unfoldable pub heap_of : List ℕ → Option Heap
heap_of bytes =
    let size = word bytes 2 in
    if is_header bytes
    then option_map (λ bs. record { size = size; blocks = bs }) (chain_from (size / 4) bytes size 8 4)
    else None

-- the offset of the first block, or 0
abbrev pub first : List (ℕ × ℕ) → ℕ
first [] = 0
first ((at, len) ∷ bs) = at

-- the words of free blocks, each with its place: a block's length, and the offset of the next block or 0
abbrev pub block_words : List (ℕ × ℕ) → List (ℕ × ℕ)
block_words [] = []
block_words ((at, len) ∷ bs) = (at + 2, len) ∷ (at, first bs) ∷ block_words bs

-- the control words of a heap, each with its place
abbrev pub controls : Heap → List (ℕ × ℕ)
controls h = (0, 0x4253) ∷ (2, h.size) ∷ (6, 0) ∷ (4, first h.blocks) ∷ block_words h.blocks

-- the bytes with the control words of a heap
unfoldable pub with_controls : Heap → List ℕ → List ℕ
with_controls h bytes = put_words bytes (controls h)

-- a byte lies in a free block
abbrev pub is_free : List (ℕ × ℕ) → ℕ → Bool
is_free [] x = false
is_free ((at, len) ∷ bs) x = (nat_le at x && nat_lt x (at + len)) || is_free bs x

-- for each four bytes of a heap, whether they are free
unfoldable pub units : Heap → List Bool
units h = map (λ k. is_free h.blocks (4 * k)) (range_with_len 0 (h.size / 4))
