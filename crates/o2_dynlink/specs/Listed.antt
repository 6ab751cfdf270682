-- The listed modules, by their names. Names are compared with ASCII letters folded, and places count from 1.
use Rattle.std.specs.Prelude.{ℕ, ◌+◌, ◌&&◌, ◌||◌, Bool, List, Option, codes, find, not, option_map, position, take}
use Rattle.std.specs.List.{list_any}
use Rattle.o2_ne.specs.NameTable.{same_name}
use Rattle.o2_image.specs.Getters.{is_library}
use Rattle.o2_image.specs.Parts.{Parts}

-- the module of the services, which is no file
abbrev pub doscalls : List ℕ
doscalls = codes "DOSCALLS"

abbrev pub is_doscalls : List ℕ → Bool
is_doscalls name = same_name name doscalls

abbrev pub is_named : List ℕ → Parts → Bool
is_named name m = same_name m.names.own name

abbrev pub is_library_named : List ℕ → Parts → Bool
is_library_named name m = is_library m && is_named name m

-- the place of the first module of this name, and of the first library
abbrev pub module_named : List Parts → List ℕ → Option ℕ
module_named ms name = option_map (λ i. i + 1) (position (is_named name) ms)

abbrev pub library_named : List Parts → List ℕ → Option ℕ
library_named ms name = option_map (λ i. i + 1) (position (is_library_named name) ms)

-- the name of the module at an index from 0 is that of the services' module, or of an earlier one
abbrev pub is_taken : List Parts → ℕ → List ℕ → Bool
is_taken ms i name = is_doscalls name || list_any (is_named name) (take i ms)

-- a reference may be to the services' module, or to a listed library
abbrev pub may_refer : List Parts → List ℕ → Bool
may_refer ms name = is_doscalls name || list_any (is_library_named name) ms

-- the first reference of a module that may not be
abbrev pub lost_reference : List Parts → Parts → Option (List ℕ)
lost_reference ms m = find (λ name. not (may_refer ms name)) m.references
