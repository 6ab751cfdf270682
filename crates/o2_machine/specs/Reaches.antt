-- What each process holds, as the lines of the report tell it.
use Rattle.std.specs.Prelude.{◌≡◌, ◌<◌, ℕ, is_some, nat_lt}
use Rattle.o2_base.specs.Selectors.{selector_of}
use Rattle.o2_regions.specs.Maps.{Maps, held_at, holds_of}
use Rattle.o2_world.specs.Known.{held_at as held_in_world}
use Rattle.o2_world.specs.Reach.{holds_at, reach}
use Rattle.o2_world.specs.World.{Setting, World}
use Rattle.o2_world.specs.Run.{after}

-- The maps hold what is under each index as often as the world's lines tell, and nothing where they tell 0.
pub record HoldByLines (m : Maps) (w : World) : Type 0 where
  pub often : (q i : ℕ) → 0 < q → holds_of (held_at m q i) ≡ reach w.lines q (selector_of i)
  pub held : (q i : ℕ) → 0 < q → is_some (held_at m q i) ≡ nat_lt 0 (reach w.lines q (selector_of i))

-- Behind each step from this world a process holds what is under each index as often as the lines of the report so far tell:
-- its lines of holds less those of drops, and 0 from the line of its end on. It holds a segment there exactly while that isn't 0.
pub record ReachesByLines (s : Setting) (w : World) : Type 0 where
  pub often : (k q i : ℕ) → 0 < q → holds_at (after s w k) q i ≡ reach (after s w k).lines q (selector_of i)
  pub held : (k q i : ℕ) → 0 < q → is_some (held_in_world (after s w k).processes q i) ≡ nat_lt 0 (reach (after s w k).lines q (selector_of i))
