-- Which libraries the references of a module reach, directly or through libraries.
use Rattle.std.specs.Prelude.{ℕ, zero, suc, ◌+◌, ◌&&◌, ◌||◌, Bool, true, false, List, [], ◌∷◌, Option, Some, None, length, map}
use Rattle.std.specs.List.{list_any}
use Rattle.o2_ne.specs.NameTable.{same_name}
use Rattle.o2_image.specs.Getters.{is_library, nth}
use Rattle.o2_image.specs.Parts.{Parts}
use Rattle.o2_dynlink.specs.Listed.{is_doscalls, is_named}

-- the module is the one that answers for the services' module, as the machine file names it
abbrev pub answers : Option (List ℕ) → Parts → Bool
answers None l = false
answers (Some name) l = is_named name l

-- a reference to `name` is to the library of this name; where it answers for the services' module, one to that is too
abbrev pub leads_to : List ℕ → Bool → List ℕ → Bool
leads_to own also name = also && is_doscalls name || same_name own name

-- a reference of m is to the library l
abbrev pub refers : Option (List ℕ) → Parts → Parts → Bool
refers shim m l = is_library l && list_any (leads_to l.names.own (answers shim l)) m.references

-- m reaches the library l through at most n others
abbrev pub reaches : Option (List ℕ) → List Parts → ℕ → Parts → Parts → Bool
reaches shim ms zero m l = refers shim m l
reaches shim ms (suc n) m l = refers shim m l || list_any (λ k. reaches shim ms n m k && refers shim k l) ms

-- the places from `place` on that are marked
abbrev pub marked : ℕ → List Bool → List ℕ
marked place [] = []
marked place (true ∷ marks) = place ∷ marked (place + 1) marks
marked place (false ∷ marks) = marked (place + 1) marks

abbrev pub reached_by : Option (List ℕ) → List Parts → Option Parts → List ℕ
reached_by shim ms None = []
reached_by shim ms (Some m) = marked 1 (map (reaches shim ms (length ms) m) ms)

-- the places of the libraries that the module at a place reaches
abbrev pub libraries_of : Option (List ℕ) → List Parts → ℕ → List ℕ
libraries_of shim ms place = reached_by shim ms (nth ms place)
