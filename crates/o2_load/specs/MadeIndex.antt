-- The index of the common names.
use Rattle.std.specs.Prelude.{◌≡◌, ℕ, ◌+◌, ◌*◌, ◌<◌, List, Option, None, get_or}
use Rattle.o2_world.specs.declared.types.Made.{Made}
use Rattle.o2_world.specs.Starts.{name_in}

-- where the index has the name of a segment, by its module's place and its number
abbrev pub slot_of : ℕ → ℕ → ℕ
slot_of place number = place * 256 + number

-- the index has of each segment the name that was made first
abbrev pub IsIndexed : List Made → List (Option ℕ) → Type 0
IsIndexed made index = (place number : ℕ) → number < 256 → get_or index (slot_of place number) None ≡ name_in made place number
