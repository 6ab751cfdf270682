-- A pair of a map with its value changed where it has a key.
use Rattle.std.specs.Prelude.{ℕ, ◌==◌, [], if◌then◌else◌}
use Rattle.o2_world.specs.declared.types.State.{State}
use Rattle.o2_world.specs.World.{Segment, Process, Held}
use Rattle.o2_world.specs.Map.{get, put}
use Rattle.o2_world.specs.Changes.{resized, more, fewer}

abbrev pub keyed : {X : Type 0} → ℕ → (X → X) → ℕ × X → ℕ × X
keyed {X} k f e = (e.0, if e.0 == k then f e.1 else e.1)

abbrev pub with_size : ℕ → Segment → Segment
with_size size s = record s { bytes = resized size s.bytes }

abbrev pub with_lock : ℕ → Segment → Segment
with_lock count s = record s { lock = count }

-- a process that holds so much more, or less, under an index
abbrev pub with_more : ℕ → Held → Process → Process
with_more i h p = record p { held = put i (more h (get p.held i)) p.held }

abbrev pub with_fewer : ℕ → ℕ → Process → Process
with_fewer i count p = record p { held = put i (fewer count (get p.held i)) p.held }

-- a process that has ended, and holds nothing
abbrev pub ended : State → Process → Process
ended state p = record p { state = state; held = [] }
