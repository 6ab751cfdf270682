-- The pointers of a call on segments, and what it comes to.
use Rattle.std.specs.Prelude.{ℕ, ◌+◌, ◌*◌, ◌-◌, false, true, List, [], ◌∷◌, ◌++◌}
use Rattle.o2_world.specs.declared.types.Slot.{Slot}
use Rattle.o2_world.specs.declared.types.Slot.TheVariants.{Word, Long, Reads, Writes, Text, ToWord, ToLong, ToWords, Heap}
use Rattle.o2_world.specs.Calls.{Before, Effect, row_of}
use Rattle.o2_world.specs.Outcomes.{CallRow, come_out, ruled}
use Rattle.o2_world.specs.SharedNames.{looked_at, name_most}
use Rattle.o2_world.specs.Slots.{Pointer, words_in}
use Rattle.o2_gate.specs.declared.arguments.Arguments.{Arguments}
use Rattle.o2_gate.specs.declared.requests.SegmentArguments.{SegmentArguments}
use Rattle.o2_gate.specs.declared.requests.SegmentArguments.TheVariants as call
use Rattle.o2_gate.specs.declared.requests.SharedArguments.TheVariants as shared
use Rattle.o2_gate.specs.Given.{word_in}
use Rattle.o2_gate.specs.Pointed.{pointer}
use Rattle.o2_gate.specs.Requests.{ruling_of}
use Rattle.o2_gate.specs.Rows.{name_by, slots_by}

-- the pointer that an argument is; of a text so many bytes are looked at
abbrev pub target_at : Slot → (looked : ℕ) → (ℕ → ℕ) → (place : ℕ) → List Pointer
target_at Word looked a n = []
target_at Long looked a n = []
target_at Reads looked a n = pointer false (a (n + 1)) (a n) (a (n - 1)) ∷ []
target_at Writes looked a n = pointer true (a (n + 1)) (a n) (a (n - 1)) ∷ []
target_at Text looked a n = pointer false (a (n + 1)) (a n) looked ∷ []
target_at ToWord looked a n = pointer true (a (n + 1)) (a n) 2 ∷ []
target_at ToLong looked a n = pointer true (a (n + 1)) (a n) 4 ∷ []
target_at (ToWords count) looked a n = pointer true (a (n + 1)) (a n) (2 * count) ∷ []
target_at Heap looked a n = []

abbrev pub target_in : List Slot → (looked : ℕ) → (ℕ → ℕ) → List Pointer
target_in [] looked a = []
target_in (s ∷ ss) looked a = target_at s looked a (words_in ss) ++ target_in ss looked a

-- how many bytes of its text are looked at
abbrev pub looked_in : SegmentArguments → ℕ
looked_in (call.Shared (shared.Name size t)) = looked_at (name_most + 1) t.bytes
looked_in (call.Shared (shared.Share t)) = looked_at (name_most + 1) t.bytes
looked_in a = 1

-- its row
abbrev pub name_of : Arguments → List ℕ
name_of a = name_by (row_of a.service)

abbrev pub slots_of : Arguments → List Slot
slots_of a = slots_by (row_of a.service)

-- its pointers, in the order in which they are tested
abbrev pub targets : Arguments → List Pointer
targets a = target_in (slots_of a) (looked_in a.request) (word_in a.words)

-- its row by its ruling
abbrev pub row_by : Arguments → CallRow
row_by a = ruled (name_of a) (slots_of a) (λ b w. ruling_of a.request b.known b.number b.cpu)

-- the call with these arguments, whose pointers are good
abbrev pub asked : Arguments → Before → (next : ℕ) → Effect
asked a b next = come_out (row_by a) b next (word_in a.words) ((row_by a).outcome b (word_in a.words))
