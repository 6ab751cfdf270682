-- Bits of the access byte and of the flags word (Intel 80286 Programmer's Reference Manual, chapters 6 and 2).
use Rattle.std.specs.Prelude.{◌≡◌, ℕ, ◌+◌, ◌-◌, ◌*◌, ◌/◌, ◌%◌, ◌^◌, ◌<◌, ◌==◌, ◌&&◌, ◌||◌, Bool, not, List, [], ◌∷◌, if◌then◌else◌}
use Rattle.std.specs.Int.RustNames.{bit_and, bit_or}
use Rattle.std.specs.Int.{bit_at}
use Rattle.std.specs.List.{list_any}

-- bit k of n is 1
abbrev pub has_bit : ℕ → ℕ → Bool
has_bit n k = n / 2 ^ k % 2 == 1

-- the segment's bytes are in memory
abbrev pub is_present : ℕ → Bool
is_present access = has_bit access 7

-- a selector of the segment was loaded
abbrev pub is_accessed : ℕ → Bool
is_accessed access = has_bit access 0

-- it describes a segment, and no gate or system object
abbrev pub is_segment : ℕ → Bool
is_segment access = has_bit access 4

-- a segment that can be run
abbrev pub is_code : ℕ → Bool
is_code access = has_bit access 4 && has_bit access 3

-- data, or code that can be read
abbrev pub is_readable : ℕ → Bool
is_readable access = has_bit access 4 && (not (has_bit access 3) || has_bit access 1)

-- data that can be written
abbrev pub is_writable : ℕ → Bool
is_writable access = has_bit access 4 && not (has_bit access 3) && has_bit access 1

-- the descriptor privilege level
abbrev pub privilege_of : ℕ → ℕ
privilege_of access = access / 32 % 4

-- with the accessed bit cleared
abbrev pub unmarked : ℕ → ℕ
unmarked access = access / 2 * 2

-- with the accessed bit set
abbrev pub marked : ℕ → ℕ
marked access = access / 2 * 2 + 1

-- with the present bit set or cleared
abbrev pub with_present : ℕ → Bool → ℕ
with_present access present = access % 128 + (if present then 128 else 0)

-- what the access byte allows: the byte with the present bit set and the accessed bit cleared
abbrev pub rights_of : ℕ → ℕ
rights_of access = access % 128 / 2 * 2 + 128

-- The access bytes of the kinds of segment, present and with privilege level 3: code that can be read, code that can only be
-- run, data that can be written, data that can only be read.

abbrev pub readable_code : ℕ
readable_code = 0xFA

abbrev pub run_only_code : ℕ
run_only_code = 0xF8

abbrev pub writable_data : ℕ
writable_data = 0xF2

abbrev pub read_only_data : ℕ
read_only_data = 0xF0

-- the rights of these kinds
abbrev pub is_kind : ℕ → Bool
is_kind rights = rights == readable_code || rights == run_only_code || rights == writable_data || rights == read_only_data

-- the access byte of a call gate, present and with privilege level 3
abbrev pub call_gate : ℕ
call_gate = 0xE4

-- the places of the flags; bits 1, 3, 5 and 15 are none
abbrev pub flag_places : List ℕ
flag_places = 0 ∷ 2 ∷ 4 ∷ 6 ∷ 7 ∷ 8 ∷ 9 ∷ 10 ∷ 11 ∷ 12 ∷ 13 ∷ 14 ∷ []

-- the places of CF, PF, AF, ZF, SF, TF, DF, OF and NT, the flags that POPF and IRET may change
abbrev pub popped_places : List ℕ
popped_places = 0 ∷ 2 ∷ 4 ∷ 6 ∷ 7 ∷ 8 ∷ 10 ∷ 11 ∷ 14 ∷ []

-- the places of CF, PF, AF, ZF and SF, the flags that SAHF changes
abbrev pub loaded_places : List ℕ
loaded_places = 0 ∷ 2 ∷ 4 ∷ 6 ∷ 7 ∷ []

-- the sum of 2 ^ k over the places k
abbrev pub mask_of : List ℕ → ℕ
mask_of [] = 0
mask_of (k ∷ ks) = 2 ^ k + mask_of ks

-- old, with the bits at the places as they are in word
abbrev pub with_places : List ℕ → ℕ → ℕ → ℕ
with_places places old word = bit_or (bit_and old (65535 - mask_of places)) (bit_and word (mask_of places))

-- the flags word with no flag set, as it is read: bit 1 is 1
abbrev pub no_flags : ℕ
no_flags = 2 ^ 1

-- the flags word as it is read: each flag, bit 1 as 1, and bits 3, 5 and 15 as 0
abbrev pub shown : ℕ → ℕ
shown word = with_places flag_places no_flags word

-- the flags word after POPF or IRET popped a word
abbrev pub popped : ℕ → ℕ → ℕ
popped old word = with_places popped_places old word

-- the flags word after SAHF with this AH
abbrev pub loaded : ℕ → ℕ → ℕ
loaded old ah = with_places loaded_places old ah

-- new has the bits of word at the places, and those of old at all others
abbrev pub TakesPlaces : List ℕ → ℕ → ℕ → ℕ → Type 0
TakesPlaces places old word new = (k : ℕ) → k < 16 → bit_at new k ≡ (if list_any (λ p. p == k) places then bit_at word k else bit_at old k)
