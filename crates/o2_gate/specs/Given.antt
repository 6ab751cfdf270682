-- The arguments of a call as they were read off the stack.
use Rattle.std.specs.Prelude.{◌≡◌, ℕ, ◌+◌, ◌<◌, ◌⊎◌, true, false, List, [], ◌∷◌, slice_index_or, Option, Some, None}
use Rattle.o2_base.specs.declared.selector.Selector.{Selector}
use Rattle.o2_isa.specs.declared.cpu.Cpu.{Cpu}
use Rattle.o2_isa.specs.View.{View, Filling, IsBound}
use Rattle.o2_world.specs.declared.types.Slot.{Slot}
use Rattle.o2_world.specs.declared.types.Slot.TheVariants.{Word, Long, Reads, Writes, Text, ToWord, ToLong, ToWords, Heap}
use Rattle.o2_world.specs.Calls.{argument, has_arguments}
use Rattle.o2_world.specs.SharedNames.{looked_at, name_most, text_at, text_size}
use Rattle.o2_world.specs.Slots.{pointers_in, words_in}
use Rattle.o2_gate.specs.declared.given.Gathered.{Gathered}
use Rattle.o2_gate.specs.declared.given.Gathered.TheVariants.{Good, Trap, Missed}
use Rattle.o2_gate.specs.declared.text.ReadText.{ReadText}
use Rattle.o2_gate.specs.declared.text.ReadText.TheVariants as read
use Rattle.o2_gate.specs.declared.text.TextArgument.{TextArgument}
use Rattle.o2_gate.specs.Befores.{boundless}
use Rattle.o2_gate.specs.Pointed.{IsBadTest, IsGoodTest, IsMissedTest, Pointers, text_pointer}
use Rattle.o2_gate.specs.Texts.{text_of}

abbrev pub word_in : List ℕ → ℕ → ℕ
word_in words i = slice_index_or words i 0

-- the first n are the same
abbrev pub AreSame : ℕ → (ℕ → ℕ) → (ℕ → ℕ) → Type 0
AreSame n a b = (i : ℕ) → i < n → a i ≡ b i

-- so many words from the top of the stack, where they lie in SS
abbrev pub AreWords : View → Cpu → (count : ℕ) → Option (List ℕ) → Type 0
AreWords v c count None = has_arguments v c count ≡ false
AreWords v c count (Some words) = (has_arguments v c count ≡ true) × AreSame count (argument v c) (word_in words)

-- the bytes behind a pointer were read, as far as they are looked at
pub record IsRead (v : View) (s offset : ℕ) (t : TextArgument) : Type 0 where
  pub text : (f : Filling) → text_at (boundless f v) s offset ≡ text_of t
  pub size : (f : Filling) → text_size (boundless f v) s offset ≡ looked_at (name_most + 1) t.bytes
  pub test : IsGoodTest v (text_pointer s offset)

abbrev pub ReadsText : View → (s offset : ℕ) → ReadText → Type 0
ReadsText v s offset (read.Good t) = IsRead v s offset t
ReadsText v s offset read.Bad = IsBadTest v (text_pointer s offset)
ReadsText v s offset (read.Missed sel) = IsMissedTest v sel (text_pointer s offset)

-- the text behind each pointer to one
abbrev pub IsTextAt : View → (ℕ → ℕ) → TextArgument → Slot → (place : ℕ) → Type 0
IsTextAt v a t Word n = Unit {0}
IsTextAt v a t Long n = Unit {0}
IsTextAt v a t Reads n = Unit {0}
IsTextAt v a t Writes n = Unit {0}
IsTextAt v a t Text n = IsRead v (a (n + 1)) (a n) t
IsTextAt v a t ToWord n = Unit {0}
IsTextAt v a t ToLong n = Unit {0}
IsTextAt v a t (ToWords count) n = Unit {0}
IsTextAt v a t Heap n = Unit {0}

abbrev pub IsTextIn : View → (ℕ → ℕ) → TextArgument → List Slot → Type 0
IsTextIn v a t [] = Unit {0}
IsTextIn v a t (s ∷ ss) = IsTextAt v a t s (words_in ss) × IsTextIn v a t ss

-- the pointers of a call by its words
abbrev pub pointers_by : List Slot → (ℕ → ℕ) → Pointers
pointers_by slots a v = pointers_in slots v a

-- the words of a call's arguments lie in SS, and are these
pub record AreRead (v : View) (c : Cpu) (slots : List Slot) (words : List ℕ) : Type 0 where
  pub has : (f : Filling) → IsBound v → has_arguments (boundless f v) c (words_in slots) ≡ true
  pub same : (f : Filling) → IsBound v → AreSame (words_in slots) (argument (boundless f v) c) (word_in words)

-- and the pointers are good
pub record AreGiven (v : View) (c : Cpu) (slots : List Slot) (words : List ℕ) (t : TextArgument) : Type 0 where
  pub read_in : AreRead v c slots words
  pub test : IsGoodTest v (pointers_by slots (word_in words))
  pub text : IsTextIn v (word_in words) t slots

-- or one is bad
pub record AreBad (v : View) (c : Cpu) (slots : List Slot) : Type 0 where
  pub words : List ℕ
  pub read_in : AreRead v c slots words
  pub test : IsBadTest v (pointers_by slots (word_in words))

-- or the segment behind one isn't present
pub record AreMissed (v : View) (c : Cpu) (slots : List Slot) (s : Selector) : Type 0 where
  pub words : List ℕ
  pub read_in : AreRead v c slots words
  pub test : IsMissedTest v s (pointers_by slots (word_in words))

abbrev pub LacksWords : View → Cpu → List Slot → Type 0
LacksWords v c slots = (f : Filling) → IsBound v → has_arguments (boundless f v) c (words_in slots) ≡ false

abbrev pub Gathers : View → Cpu → List Slot → Gathered → Type 0
Gathers v c slots (Good given) = AreGiven v c slots given.words given.text
Gathers v c slots (Trap vector) = ((vector ≡ 12) × LacksWords v c slots) ⊎ ((vector ≡ 13) × AreBad v c slots)
Gathers v c slots (Missed s) = AreMissed v c slots s
