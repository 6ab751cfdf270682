-- What a machine matches it stands for where the world is tidy.
use Rattle.std.proofs.Common.{ℕ, List}
use Rattle.o2_world.specs.Map.{Map}
use Rattle.o2_world.specs.World.{Process, Reserve, Segment}
use Rattle.o2_stands.specs.Parts.{Parts}
use Rattle.o2_stands.specs.Stands.{IsTidy, MatchesIn, StandsIn}

pub matched_by : (p : Parts) (ps : List Process) (names : Map Segment) (next : ℕ) (reserved : List Reserve) → StandsIn p ps names next reserved → MatchesIn p ps names next reserved
matched_by p ps names next reserved s = record { ready = s.ready; segments = s.segments; made = s.made; processes = s.processes; held = s.held; taken = s.taken }

pub stood_by : (p : Parts) (ps : List Process) (names : Map Segment) (next : ℕ) (reserved : List Reserve) → MatchesIn p ps names next reserved → IsTidy ps names reserved → StandsIn p ps names next reserved
stood_by p ps names next reserved m tidy = record { ready = m.ready; segments = m.segments; made = m.made; processes = m.processes; held = m.held; taken = m.taken; tidy = tidy }
