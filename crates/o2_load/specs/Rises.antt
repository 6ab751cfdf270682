-- Indexes that rise: what a process holds from its start on is told by rising selector.
use Rattle.std.specs.Prelude.{◌≡◌, ℕ, ◌+◌, ◌≤◌, false, All, List, [], ◌∷◌}
use Rattle.o2_world.specs.FitStarts.{held_indexes}
use Rattle.o2_world.specs.Starts.{Start}

-- each number is at least the bound, and above the one before it
abbrev pub Rises : ℕ → List ℕ → Type 0
Rises low [] = Unit {0}
Rises low (n ∷ ns) = (low ≤ n) × Rises (n + 1) ns

-- the indexes of all that a process holds rise from 1 on; a start of a library is refused
abbrev pub AreRising : List Start → Type 0
AreRising starts = All (λ (s : Start). s.program.library ≡ false → Rises 1 (held_indexes s)) starts
