-- What the arguments of a call are, from left to right, as slots: how many words each has, how the call's line shows it, where it
-- points, and what is written there.
use Rattle.std.specs.Prelude.{ℕ, ◌+◌, ◌-◌, ◌*◌, ◌/◌, ◌%◌, Bool, true, false, List, [], ◌∷◌, ◌++◌, ◌&&◌, Option, Some, None}
use Rattle.o2_isa.specs.View.{View, Hold, bound_in, is_readable, is_writable}
use Rattle.o2_isa.specs.Pointers.{is_for_es, is_good, put_at_pointer}
use Rattle.o2_world.specs.declared.types.Argument.{Argument}
use Rattle.o2_world.specs.declared.types.Argument.TheVariants as shown
use Rattle.o2_world.specs.declared.types.Slot.{Slot}
use Rattle.o2_world.specs.declared.types.Slot.TheVariants.{Word, Long, Reads, Writes, Text, ToWord, ToLong, ToWords, Heap}
use Rattle.o2_world.specs.SharedNames.{text_size}
use Rattle.o2_world.specs.CallParts.{word_bytes, long_bytes}

abbrev pub words_of : Slot → ℕ
words_of Word = 1
words_of Long = 2
words_of Reads = 2
words_of Writes = 2
words_of Text = 2
words_of ToWord = 2
words_of ToLong = 2
words_of (ToWords count) = 2
words_of Heap = 1

abbrev pub words_in : List Slot → ℕ
words_in [] = 0
words_in (s ∷ ss) = words_of s + words_in ss

-- Arguments are words from the top of the stack: 0 is the word that was pushed last. Below a slot lie the words of those behind it.

-- an argument in the call's line
abbrev pub shown_at : Slot → (ℕ → ℕ) → (place : ℕ) → Argument
shown_at Word a n = shown.Word (a n)
shown_at Long a n = shown.Long (a (n + 1)) (a n)
shown_at Reads a n = shown.Far (a (n + 1)) (a n)
shown_at Writes a n = shown.Far (a (n + 1)) (a n)
shown_at Text a n = shown.Far (a (n + 1)) (a n)
shown_at ToWord a n = shown.Far (a (n + 1)) (a n)
shown_at ToLong a n = shown.Far (a (n + 1)) (a n)
shown_at (ToWords count) a n = shown.Far (a (n + 1)) (a n)
shown_at Heap a n = shown.Word (a n)

abbrev pub shown_in : List Slot → (ℕ → ℕ) → List Argument
shown_in [] a = []
shown_in (s ∷ ss) a = shown_at s a (words_in ss) ∷ shown_in ss a

-- a pointer of a call: where it points, how many bytes it is for, and which access bytes are good
pub record Pointer : Type 0 where
  pub selector : ℕ
  pub offset : ℕ
  pub count : ℕ
  pub good : ℕ → Bool

abbrev pub pointer_at : (ℕ → ℕ) → (place count : ℕ) → (ℕ → Bool) → Pointer
pointer_at a place count good = record { selector = a (place + 1); offset = a place; count = count; good = good }

-- a pointer to a text is for as many bytes as are looked at
abbrev pub pointers_at : Slot → View → (ℕ → ℕ) → (place : ℕ) → List Pointer
pointers_at Word v a n = []
pointers_at Long v a n = []
pointers_at Reads v a n = pointer_at a n (a (n - 1)) is_readable ∷ []
pointers_at Writes v a n = pointer_at a n (a (n - 1)) is_writable ∷ []
pointers_at Text v a n = pointer_at a n (text_size v (a (n + 1)) (a n)) is_readable ∷ []
pointers_at ToWord v a n = pointer_at a n 2 is_writable ∷ []
pointers_at ToLong v a n = pointer_at a n 4 is_writable ∷ []
pointers_at (ToWords count) v a n = pointer_at a n (2 * count) is_writable ∷ []
pointers_at Heap v a n = []

-- the pointers of a call in the order in which they are tested
abbrev pub pointers_in : List Slot → View → (ℕ → ℕ) → List Pointer
pointers_in [] v a = []
pointers_in (s ∷ ss) v a = pointers_at s v a (words_in ss) ++ pointers_in ss v a

abbrev pub are_good : View → List Pointer → Bool
are_good v [] = true
are_good v (p ∷ ps) = is_good p.good v p.selector p.offset p.count && are_good v ps

-- what is held can be written
abbrev pub is_for_writing : Option Hold → Bool
is_for_writing None = false
is_for_writing (Some h) = is_writable h.rights

-- A heap may lie behind a selector that may be loaded into ES, isn't null, and names data that can be written; a segment has a byte at least.
-- A call answers an error where it isn't so, and there is no exception.
abbrev pub may_have_heap : View → (s : ℕ) → Bool
may_have_heap v s = is_for_es v s && is_for_writing (bound_in v.held s)

-- the heap behind a selector
abbrev pub heap_at : (ℕ → ℕ) → (place : ℕ) → Pointer
heap_at a place = record { selector = a place; offset = 0; count = 1; good = is_writable }

-- the heaps of a call
abbrev pub heaps_at : Slot → (ℕ → ℕ) → (place : ℕ) → List Pointer
heaps_at Word a n = []
heaps_at Long a n = []
heaps_at Reads a n = []
heaps_at Writes a n = []
heaps_at Text a n = []
heaps_at ToWord a n = []
heaps_at ToLong a n = []
heaps_at (ToWords count) a n = []
heaps_at Heap a n = heap_at a n ∷ []

abbrev pub heaps_in : List Slot → (ℕ → ℕ) → List Pointer
heaps_in [] a = []
heaps_in (s ∷ ss) a = heaps_at s a (words_in ss) ++ heaps_in ss a

-- the pointers behind which bytes are written, in order
abbrev pub targets_at : Slot → (ℕ → ℕ) → (place : ℕ) → List Pointer
targets_at Word a n = []
targets_at Long a n = []
targets_at Reads a n = []
targets_at Writes a n = pointer_at a n (a (n - 1)) is_writable ∷ []
targets_at Text a n = []
targets_at ToWord a n = pointer_at a n 2 is_writable ∷ []
targets_at ToLong a n = pointer_at a n 4 is_writable ∷ []
targets_at (ToWords count) a n = pointer_at a n (2 * count) is_writable ∷ []
targets_at Heap a n = heap_at a n ∷ []

abbrev pub targets_in : List Slot → (ℕ → ℕ) → List Pointer
targets_in [] a = []
targets_in (s ∷ ss) a = targets_at s a (words_in ss) ++ targets_in ss a

-- the bytes of all names with parts that are written, each behind its pointer, in order; where there are no more, nothing is
abbrev pub put_all : (ℕ → Option Hold) → List Pointer → (parts : List (List ℕ)) → (ℕ → List ℕ) → ℕ → List ℕ
put_all held [] parts bytes = bytes
put_all held (p ∷ ps) [] bytes = bytes
put_all held (p ∷ ps) (part ∷ parts) bytes = put_all held ps parts (put_at_pointer held bytes p.selector p.offset part)

-- a value as it is written, and as the line shows it
abbrev pub parts_at : Slot → (value : ℕ) → List (List ℕ)
parts_at Word value = []
parts_at Long value = []
parts_at Reads value = []
parts_at Writes value = []
parts_at Text value = []
parts_at ToWord value = word_bytes value ∷ []
parts_at ToLong value = long_bytes value ∷ []
parts_at (ToWords count) value = []
parts_at Heap value = []

abbrev pub parts_in : List Slot → (value : ℕ) → List (List ℕ)
parts_in [] value = []
parts_in (s ∷ ss) value = parts_at s value ++ parts_in ss value

abbrev pub values_at : Slot → (value : ℕ) → List Argument
values_at Word value = []
values_at Long value = []
values_at Reads value = []
values_at Writes value = []
values_at Text value = []
values_at ToWord value = shown.Word value ∷ []
values_at ToLong value = shown.Long (value / 65536) (value % 65536) ∷ []
values_at (ToWords count) value = []
values_at Heap value = []

abbrev pub values_in : List Slot → (value : ℕ) → List Argument
values_in [] value = []
values_in (s ∷ ss) value = values_at s value ++ values_in ss value
