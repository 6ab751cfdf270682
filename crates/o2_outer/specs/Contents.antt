-- What the forms in memory hold.
use Rattle.std.specs.Prelude.{ℕ, List, [], Option, option_map, find, slice_index_or}
use Rattle.std.specs.Str.{bytes_eq}

-- the first file of this name
abbrev pub file_in : List (List ℕ × List ℕ) → List ℕ → Option (List ℕ)
file_in files name = option_map (λ f. f.1) (find (λ f. bytes_eq f.0 name) files)

-- the i-th block, or nothing past the last
abbrev pub block_of : List (List ℕ) → ℕ → List ℕ
block_of blocks i = slice_index_or blocks i []
