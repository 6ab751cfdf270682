-- What events tell of a run's texts.
use Rattle.std.specs.Prelude.{ℕ, List, flat_map}
use Rattle.o2_world.specs.World.{Line}
use Rattle.o2_alone.specs.Events.{Event}

-- the bytes that they write to the console
abbrev pub pieces_in : List Event → List ℕ
pieces_in es = flat_map (λ (x : Event). x.piece) es

-- their lines
abbrev pub lines_in : List Event → List Line
lines_in es = flat_map (λ (x : Event). x.lines) es
