-- What linking gives.
use Rattle.std.specs.Prelude.{◌≡◌, ℕ, ◌+◌, ◌<◌, ◌≤◌, All, List, [], ◌∷◌, Some, get_or, length, map, true}
use Rattle.o2_image.specs.ImageList.{Exists, ImageList, same_shape}
use Rattle.o2_image.specs.Images.{Target}
use Rattle.o2_image.specs.Parts.{Parts}
use Rattle.o2_dynlink.specs.Selectors.{index_of}

-- the images of the run; for each process the place of its program among the modules, from 1; and for each process the
-- places of all libraries that its program's references reach, directly or through libraries, each once, by rising place
pub record LinkedParts : Type 0 where
  pub images : ImageList
  pub programs : List ℕ
  pub libraries : List (List ℕ)

-- the modules, in the order of the machine file
abbrev pub modules_of : ImageList → List Parts
modules_of images = map (λ m. m.0) images.modules

-- the targets of a module's records, by segment and record
abbrev pub Targets : Type 0
Targets = List (List Target)

-- targets for each record of each module
abbrev pub Fitting : List Parts → List Targets → Type 0
Fitting [] [] = Unit {0}
Fitting [] (t ∷ ts) = ⊥
Fitting (m ∷ ms) [] = ⊥
Fitting (m ∷ ms) (t ∷ ts) = (same_shape t m.relocs ≡ true) × Fitting ms ts

-- the segments of each module lie in the table
abbrev pub AllFit : List Parts → List ℕ → Type 0
AllFit ms bases = (k : ℕ) (d : Parts) → k < length ms → get_or bases k 0 + length (get_or ms k d).segments ≤ 8191

-- what holds of each outcome: at most 64 modules, each index within the table, and for each process an environment, the
-- place of a module, and a list of such places
pub record IsConsistent (l : LinkedParts) : Type 0 where
  pub few : length l.images.modules ≤ 64
  pub within : (place seg index : ℕ) → index_of (modules_of l.images) place seg ≡ Some index → index ≤ 8191
  pub environments : length l.images.environments ≡ length l.programs
  pub lists : length l.libraries ≡ length l.programs
  pub programs : All (Exists l.images.modules) l.programs
  pub libraries : All (All (Exists l.images.modules)) l.libraries
