-- A slot for each ordinal, with the number of its entry.
use Rattle.std.specs.Prelude.{◌≡◌, ℕ, ◌+◌, ◌<◌, ◌==◌, ◌&&◌, List, Some, None, find, get_or, length, nat_lt, set, slice_get, if◌then◌else◌}
use Rattle.o2_ne.specs.declared.entries.Entry.{Entry}

-- how many ordinals a file can name
abbrev pub named_ordinals : ℕ
named_ordinals = 65536

-- entry i is the first with ordinal n
pub record IsFirst (es : List Entry) (n i : ℕ) : Type 0 where
  pub entry : Entry
  pub at : slice_get es i ≡ Some entry
  pub first : find (λ e. e.ordinal == n) es ≡ Some entry

-- a slot is 0 where no entry has its ordinal, else the number from 1 of the first that has it
pub record IsSlot (es : List Entry) (n slot : ℕ) : Type 0 where
  pub none : slot ≡ 0 → find (λ e. e.ordinal == n) es ≡ None
  pub some : (i : ℕ) → slot ≡ i + 1 → IsFirst es n i

-- the slots of so many ordinals
pub record AreSlots (most : ℕ) (es : List Entry) (slots : List ℕ) : Type 0 where
  pub count : length slots ≡ most
  pub each : (n : ℕ) → n < most → IsSlot es n (get_or slots n 0)

-- a number in the slot of an ordinal, where there is one and it is empty
abbrev pub noted : List ℕ → ℕ → ℕ → List ℕ
noted slots n number = if nat_lt n (length slots) && get_or slots n 0 == 0 then set slots n number else slots
