-- What a start gives a process: selectors held by load, and the lines that tell of them.
use Rattle.std.specs.Prelude.{ℕ, ◌-◌, ◌%◌, List, ◌∷◌, map, codes}
use Rattle.o2_world.specs.World.{Held, Line, Starts, HoldsBy, ByLoad}

abbrev pub held_by_load : ℕ → ℕ → Held
held_by_load name rights = record { name = name; rights = rights; holds = 1; cause = ByLoad; first = 0; reserved = 0 }

-- the lines of a start: the module's name, and each selector held by load
abbrev pub hold_lines : ℕ → List ℕ → List Line
hold_lines process selectors = map (λ s. HoldsBy process s (codes "load")) selectors

abbrev pub start_lines : ℕ → List ℕ → List ℕ → List Line
start_lines process name selectors = Starts process name ∷ hold_lines process selectors

-- a stack begins at an even offset
abbrev pub even : ℕ → ℕ
even n = n - n % 2
