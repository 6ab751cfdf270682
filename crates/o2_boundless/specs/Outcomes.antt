-- The table's rows, the words of a call and how it comes out, as values of the code.
use Rattle.std.specs.Prelude.{ℕ, ◌==◌, Bool, List, [], Option, Some, None, if◌then◌else◌}
use Rattle.o2_world.specs.declared.types.Slot.{Slot}
use Rattle.o2_world.specs.CallParts.{Before}
use Rattle.o2_world.specs.Calls.{nothing_written, number_written}
use Rattle.o2_world.specs.HeapRulings.{HeapRuling, giving_back, setting_up, taking}
use Rattle.o2_world.specs.Outcomes.{CallRow, Outcome, Does, Fails, Waits, Leaves}
use Rattle.o2_boundless.specs.declared.rows.Row.{Row}
use Rattle.o2_boundless.specs.declared.outcome.Outcome as code
use Rattle.o2_boundless.specs.declared.outcome.Outcome.TheVariants as out
use Rattle.o2_world_parts.specs.Layouts.{done_of}

-- name and slots of a row

abbrev pub shape_in : Option Row → Option (List ℕ × List Slot)
shape_in None = None
shape_in (Some r) = Some (r.name.now, r.slots.now)

abbrev pub shape_by : Option CallRow → Option (List ℕ × List Slot)
shape_by None = None
shape_by (Some r) = Some (r.name, r.slots)

-- a row of the code as one of the table, whatever comes of it
abbrev pub row_by : Row → CallRow
row_by r = record { name = r.name.now; slots = r.slots.now; outcome = λ b a. Fails 0 [] }

abbrev pub slots_by : Option CallRow → List Slot
slots_by None = []
slots_by (Some r) = r.slots

-- how the call of a row comes out; a number without a row has no call
abbrev pub outcome_by : Option CallRow → Before → (ℕ → ℕ) → Outcome
outcome_by None b a = Fails 0 []
outcome_by (Some r) b a = r.outcome b a

-- the ruling of a call on a heap, by its words
abbrev pub heap_ruling : (service : ℕ) → (ℕ → ℕ) → List ℕ → HeapRuling
heap_ruling service a bytes =
    if service == 20 then setting_up (a 1) (a 0) bytes
    else if service == 21 then taking (a 0) bytes
    else giving_back (a 1) (a 0) bytes

-- what is written of the number that a call on a semaphore leaves
abbrev pub written_of : (writes : Bool) → ℕ → List (List ℕ)
written_of writes number = if writes then number_written number else nothing_written number

-- how a call comes out

abbrev pub outcome_of : (input : List ℕ) → code.Outcome → Outcome
outcome_of input (out.Fails error values) = Fails error values.items
outcome_of input (out.Does d) = Does (done_of input d)
outcome_of input out.Waits = Waits
outcome_of input (out.Leaves action code) = Leaves action code
