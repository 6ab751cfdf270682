-- How the code's reading of a name table is seen.
use Rattle.std.specs.Prelude.{◌≡◌, ℕ, ◌+◌, ◌++◌, List, length}
use Rattle.o2_ne.specs.declared.walking.Walking.{Walking}
use Rattle.o2_ne.specs.NameTable.{Walk}
use Rattle.o2_ne.specs.NameOrder.{names_in, places_from}

abbrev pub walk : List ℕ → Walking → Walk
walk file w = record { found = names_in file w.places.items; place = w.place; ended = w.ended }

-- the places that were found and those that follow are the places from p on
abbrev pub Walks : List ℕ → ℕ → Walking → Type 0
Walks file p w = (n : ℕ) → w.places.items ++ places_from file w.place n ≡ places_from file p (length w.places.items + n)
