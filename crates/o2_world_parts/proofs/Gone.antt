-- The pairs of a map behind a word.
use Rattle.std.proofs.Common.{ℕ, List}
use Rattle.o2_world.specs.Discards.{behind_discard}
use Rattle.o2_world.specs.World.{Process, Segment}

abbrev pub behind : List Process → ℕ × Segment → ℕ × Segment
behind ps e = (e.0, behind_discard ps e.0 e.1)
