-- Numbers in a file, the lowest byte first, and which of its bytes are there.
use Rattle.std.specs.Prelude.{ℕ, ◌+◌, ◌*◌, ◌==◌, ◌||◌, Bool, List, drop, length, max, nat_le, slice_index, take}

-- the byte at place p
abbrev pub byte_at : List ℕ → ℕ → ℕ
byte_at file p = slice_index file p

-- the word at place p
abbrev pub word_at : List ℕ → ℕ → ℕ
word_at file p = slice_index file p + 256 * slice_index file (p + 1)

-- the number of four bytes at place p
abbrev pub long_at : List ℕ → ℕ → ℕ
long_at file p =
    slice_index file p + 256 * slice_index file (p + 1) + 65536 * slice_index file (p + 2)
    + 16777216 * slice_index file (p + 3)

-- the n bytes from place p
abbrev pub string_at : List ℕ → ℕ → ℕ → List ℕ
string_at file p n = take n (drop p file)

-- the n bytes from place p are all in the file
abbrev pub lies_in : List ℕ → ℕ → ℕ → Bool
lies_in file p n = n == 0 || nat_le (p + n) (length file)

-- the first of some bytes from place p that the file lacks
abbrev pub first_missing : List ℕ → ℕ → ℕ
first_missing file p = max p (length file)
