-- How the reached libraries are marked, round by round.
use Rattle.std.specs.Prelude.{◌&&◌, ◌||◌, Bool, false, List, [], ◌∷◌}

-- a place is marked in both
abbrev pub both_any : List Bool → List Bool → Bool
both_any [] ys = false
both_any (x ∷ xs) [] = false
both_any (x ∷ xs) (y ∷ ys) = x && y || both_any xs ys

-- marked first, or referred to by one that is marked
abbrev pub next_marks : List Bool → List (List Bool) → List Bool → List Bool
next_marks [] columns marks = []
next_marks (x ∷ xs) [] marks = []
next_marks (x ∷ xs) (column ∷ columns) marks = (x || both_any marks column) ∷ next_marks xs columns marks
