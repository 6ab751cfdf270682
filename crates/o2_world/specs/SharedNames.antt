-- The names by which processes share segments, as texts, and the text behind a pointer.
use Rattle.std.specs.Prelude.{ℕ, zero, suc, ◌+◌, Bool, List, [], ◌∷◌, ◌++◌, length, take, drop, map, codes, if◌then◌else◌, ◌==◌, nat_le, nat_lt, ◌&&◌, Option, Some, None, option_map}
use Rattle.std.specs.Char.{to_ascii_lowercase}
use Rattle.std.specs.List.{list_all}
use Rattle.o2_isa.specs.View.{View, Hold, bound_in}
use Rattle.o2_isa.specs.Pointers.{may_read}
use Rattle.o2_world.specs.Known.{same_text}

-- a name has at most so many bytes, without its zero
abbrev pub name_most : ℕ
name_most = 128

-- with ASCII letters folded
abbrev pub folded : List ℕ → List ℕ
folded text = map to_ascii_lowercase text

-- how each name begins, folded: \SHAREMEM\
abbrev pub name_front : List ℕ
name_front = 92 ∷ codes "sharemem" ++ 92 ∷ []

-- a byte of a name: 21h to 7Eh
abbrev pub is_name_byte : ℕ → Bool
is_name_byte x = nat_le 0x21 x && nat_le x 0x7E

-- \SHAREMEM\ and one byte at least behind it, 128 bytes at most
abbrev pub is_name : List ℕ → Bool
is_name text =
    same_text (take 10 (folded text)) name_front
    && (nat_lt 10 (length text) && (nat_le (length text) name_most && list_all is_name_byte (drop 10 text)))

-- the name that a text gives, folded, where it is one
abbrev pub name_by : Option (List ℕ) → Option (List ℕ)
name_by None = None
name_by (Some text) = if is_name text then Some (folded text) else None

-- The text behind a pointer: the bytes up to a zero.

abbrev pub before_zero : List ℕ → Option (List ℕ)
before_zero [] = None
before_zero (x ∷ xs) = if x == 0 then Some [] else option_map (λ (t : List ℕ). x ∷ t) (before_zero xs)

-- how many bytes are looked at, of so many at most: up to the first zero, that one too; where the bytes end before a zero, more
-- than there are
abbrev pub looked_at : ℕ → List ℕ → ℕ
looked_at zero xs = 0
looked_at (suc n) [] = suc n
looked_at (suc n) (x ∷ xs) = if x == 0 then 1 else suc (looked_at n xs)

abbrev pub bytes_from : (ℕ → List ℕ) → (offset : ℕ) → Option Hold → List ℕ
bytes_from bytes offset None = []
bytes_from bytes offset (Some h) = drop offset (bytes h.name)

-- the bytes behind a pointer, up to the end of its segment
unfoldable pub bytes_at : View → (selector offset : ℕ) → List ℕ
bytes_at v s offset = bytes_from v.bytes offset (bound_in v.held s)

-- how many bytes of the text behind a pointer are looked at
abbrev pub text_size : View → (selector offset : ℕ) → ℕ
text_size v s offset = looked_at (name_most + 1) (bytes_at v s offset)

-- The pointer is good for a text: its selector passes, and the segment doesn't end before a zero and before the 129th byte.
abbrev pub may_read_text : View → (selector offset : ℕ) → Bool
may_read_text v s offset = may_read v s offset (text_size v s offset)

-- the text, where a zero is among the first 129 bytes
abbrev pub text_at : View → (selector offset : ℕ) → Option (List ℕ)
text_at v s offset = before_zero (take (name_most + 1) (bytes_at v s offset))
