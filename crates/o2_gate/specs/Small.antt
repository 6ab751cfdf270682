-- What each row of a call keeps to.
use Rattle.std.specs.Prelude.{ℕ, ◌+◌, ◌≤◌, List, [], ◌∷◌, length}
use Rattle.o2_world.specs.declared.types.Slot.{Slot}
use Rattle.o2_world.specs.declared.types.Slot.TheVariants.{Word, Long, Reads, Writes, Text, ToWord, ToLong, ToWords, Heap}
use Rattle.o2_world.specs.Slots.{words_in}

-- how many of the arguments are texts
abbrev pub texts_at : Slot → ℕ
texts_at Word = 0
texts_at Long = 0
texts_at Reads = 0
texts_at Writes = 0
texts_at Text = 1
texts_at ToWord = 0
texts_at ToLong = 0
texts_at (ToWords count) = 0
texts_at Heap = 0

abbrev pub texts_in : List Slot → ℕ
texts_in [] = 0
texts_in (s ∷ ss) = texts_at s + texts_in ss

pub record IsSmall (name : List ℕ) (slots : List Slot) : Type 0 where
  pub short_name : length name ≤ 20
  pub few_words : words_in slots ≤ 6
  pub one_text : texts_in slots ≤ 1
