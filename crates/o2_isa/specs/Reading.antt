-- What the bytes at a place spell, read from left to right. What is read is spelled so, and what is spelled so is read:
-- the clauses of o2_decode's `decode` and `one_spelling` say it.
use Rattle.std.specs.Prelude.{ℕ, ◌+◌, ◌==◌, ◌≤◌, nat_lt, if◌then◌else◌, List, [], ◌∷◌, length, take, drop, slice_index_or, Option, Some, None}
use Rattle.o2_isa.specs.declared.rows.Entry.{Entry}
use Rattle.o2_isa.specs.declared.rows.Entry.TheVariants.{Unused, Bare, Modrm, Group}
use Rattle.o2_isa.specs.declared.rows.Row.{Row}
use Rattle.o2_isa.specs.declared.rows.Prefixes.{Prefixes}
use Rattle.o2_isa.specs.declared.rows.Decoded.{Decoded}
use Rattle.o2_isa.specs.declared.rows.Decoded.TheVariants.{One, Invalid, TooLong, Need}
use Rattle.o2_isa.specs.Table.{table, table_0f}
use Rattle.o2_isa.specs.Operands.{Plan, tail_len, instr_of}
use Rattle.o2_isa.specs.Spelling.{is_prefix, no_prefixes, mark, row_of}

-- what stands between the prefixes and the bytes of the displacement and the immediates: too few bytes to tell, bytes that
-- no instruction has, or a whole head and how many bytes it has
pub data Head : Type 0 where
  More : Head
  Bad : Head
  Whole : Plan → ℕ → Head

abbrev pub head_with : Option Row → ℕ → ℕ → Head
head_with None m n = Bad
head_with (Some row) m n = Whole (record { row = row; modrm = m }) n

abbrev pub head_modrm : Entry → List ℕ → ℕ → Head
head_modrm e [] n = More
head_modrm e (m ∷ bs) n = head_with (row_of e m) m (n + 1)

-- n bytes of opcode stand before
abbrev pub head_after : Entry → List ℕ → ℕ → Head
head_after Unused bs n = Bad
head_after (Bare row) bs n = Whole (record { row = row; modrm = 0 }) n
head_after (Modrm row) bs n = head_modrm (Modrm row) bs n
head_after (Group k) bs n = head_modrm (Group k) bs n

abbrev pub head_two : List ℕ → Head
head_two [] = More
head_two (b ∷ bs) = head_after (slice_index_or table_0f b Unused) bs 2

unfoldable pub head_of : List ℕ → Head
head_of [] = More
head_of (b ∷ bs) = if b == 15 then head_two bs else head_after (slice_index_or table b Unused) bs 1

abbrev pub read_tail : Head → Prefixes → ℕ → List ℕ → Decoded
read_tail More p k bs = Need
read_tail Bad p k bs = Invalid
read_tail (Whole plan n) p k bs = if nat_lt (length bs) (n + tail_len plan) then Need else One (instr_of p plan (take (tail_len plan) (drop n bs))) (k + (n + tail_len plan))

-- k bytes of prefixes stand before
abbrev pub read : Prefixes → ℕ → List ℕ → Decoded
read p k [] = Need
read p k (b ∷ bs) = if is_prefix b then read (mark p b) (k + 1) bs else read_tail (head_of (b ∷ bs)) p k (b ∷ bs)

abbrev pub limited : ℕ → Decoded → Decoded
limited len Need = if nat_lt len 10 then Need else TooLong
limited len (One i n) = One i n
limited len Invalid = Invalid
limited len TooLong = TooLong

-- an instruction lies in the bytes
abbrev pub IsWithin : Decoded → ℕ → Type 0
IsWithin (One i n) len = n ≤ len
IsWithin Invalid len = Unit {0}
IsWithin TooLong len = Unit {0}
IsWithin Need len = Unit {0}

-- what the bytes at a place spell, of which at most ten are seen
unfoldable pub decoded : List ℕ → Decoded
decoded bytes = limited (length bytes) (read no_prefixes 0 bytes)
