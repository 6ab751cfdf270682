-- Which processes live.
use Rattle.std.specs.Prelude.{ℕ, Bool, false, List, slice_index_or}

-- whether the process of a number lives, by the marks of the numbers from 0 on
abbrev pub lives : List Bool → ℕ → Bool
lives live n = slice_index_or live n false
