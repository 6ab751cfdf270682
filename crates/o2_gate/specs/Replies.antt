-- How a call on segments comes back, by its row and its words, its error number and its value.
use Rattle.std.specs.Prelude.{ℕ, ◌≤◌, List, [], ◌∷◌, Option, ◌==◌, if◌then◌else◌}
use Rattle.o2_isa.specs.View.{Hold}
use Rattle.o2_world.specs.declared.types.Argument.{Argument}
use Rattle.o2_world.specs.declared.types.Slot.{Slot}
use Rattle.o2_world.specs.declared.types.Slot.TheVariants.{Word, Long, Reads, Writes, Text, ToWord, ToLong, ToWords, Heap}
use Rattle.o2_world.specs.Slots.{parts_in, put_all, shown_in, targets_in, values_in, words_in}
use Rattle.o2_world.specs.World.{Line, Calls}
use Rattle.o2_gate.specs.declared.arguments.Arguments.{Arguments}
use Rattle.o2_gate.specs.declared.moves.Block.{Block}
use Rattle.o2_gate.specs.Given.{word_in}
use Rattle.o2_gate.specs.MovedLines.{all_lines}
use Rattle.o2_gate.specs.Targets.{name_of, slots_of}

-- a value goes behind a pointer for one, and fits there; no other pointer is for writing, and no heap
abbrev pub FitsAt : Slot → (value : ℕ) → Type 0
FitsAt Word value = Unit {0}
FitsAt Long value = Unit {0}
FitsAt Reads value = Unit {0}
FitsAt Writes value = ⊥
FitsAt Text value = Unit {0}
FitsAt ToWord value = value ≤ 65535
FitsAt ToLong value = Unit {0}
FitsAt (ToWords count) value = ⊥
FitsAt Heap value = ⊥

abbrev pub FitsIn : List Slot → (value : ℕ) → Type 0
FitsIn [] value = Unit {0}
FitsIn (s ∷ ss) value = FitsAt s value × FitsIn ss value

abbrev pub IsValue : Arguments → ℕ → Type 0
IsValue a value = FitsIn (slots_of a) value

abbrev pub words_of : Arguments → ℕ
words_of a = words_in (slots_of a)

-- At an error nothing is written.

abbrev pub values_by : (error : ℕ) → List Slot → (value : ℕ) → List Argument
values_by error slots value = if error == 0 then values_in slots value else []

abbrev pub bytes_of : Arguments → (error value : ℕ) → (ℕ → Option Hold) → (ℕ → List ℕ) → ℕ → List ℕ
bytes_of a error value held bytes =
    if error == 0 then put_all held (targets_in (slots_of a) (word_in a.words)) (parts_in (slots_of a) value) bytes else bytes

abbrev pub call_line : Arguments → (number error value : ℕ) → Line
call_line a number error value =
    Calls number (name_of a) (shown_in (slots_of a) (word_in a.words)) error (values_by error (slots_of a) value)

-- its own line, and behind it those of all that came or went
abbrev pub lines_of : Arguments → (number error value : ℕ) → List Block → List Line
lines_of a number error value moved = call_line a number error value ∷ all_lines (name_of a) moved
