-- No name is used twice.
use Rattle.std.specs.Prelude.{◌≡◌, ℕ, ◌<◌, ◌≤◌, true}
use Rattle.o2_world.specs.World.{World}
use Rattle.o2_world.specs.Tied.{lives_in}

-- a name below the next one that lives has lived before, and the next name never falls: so a name that is gone never comes back
pub record UsesNewNames (old new : World) : Type 0 where
  pub next : old.next_name ≤ new.next_name
  pub lives : (q : ℕ) → q < old.next_name → lives_in new q ≡ true → lives_in old q ≡ true
