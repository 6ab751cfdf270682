-- Files that hold bytes.
use Rattle.std.specs.Prelude.{◌≡◌, ℕ, ◌<◌, List, All, Some}
use Rattle.o2_open.specs.Loads.{Contents}

abbrev pub HoldBytes : Contents → Type 0
HoldBytes contents = (name file : List ℕ) → contents name ≡ Some file → All (λ (b : ℕ). b < 256) file
