-- The rows of the calls as the code has them.
use Rattle.std.specs.Prelude.{◌≡◌, ℕ, List, [], Option, Some, None}
use Rattle.o2_world.specs.declared.types.Slot.{Slot}
use Rattle.o2_world.specs.Outcomes.{CallRow}
use Rattle.o2_gate.specs.declared.row.Row.{Row}

pub record IsRow (r : CallRow) (x : Row) : Type 0 where
  pub name : x.name.now ≡ r.name
  pub slots : x.slots.now ≡ r.slots

-- the name and the slots of a row, where there is one
abbrev pub name_by : Option CallRow → List ℕ
name_by None = []
name_by (Some r) = r.name

abbrev pub slots_by : Option CallRow → List Slot
slots_by None = []
slots_by (Some r) = r.slots

abbrev pub IsRowOf : Option CallRow → Option Row → Type 0
IsRowOf None None = Unit {0}
IsRowOf None (Some x) = ⊥
IsRowOf (Some r) None = ⊥
IsRowOf (Some r) (Some x) = IsRow r x
