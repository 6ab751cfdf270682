-- What tests keep of maps in which nothing is held.
use Rattle.std.specs.Prelude.{◌≡◌, ℕ, None}
use Rattle.o2_desc.specs.Bytes.{empty}
use Rattle.o2_regions.specs.Maps.{Maps, held_at}
use Rattle.o2_segbus.specs.Settled.{descriptor_at}

-- no process holds anything, and each descriptor is empty
pub record IsUnheld (m : Maps) : Type 0 where
  pub none : (pid i : ℕ) → held_at m pid i ≡ None
  pub empty : (pid i : ℕ) → descriptor_at m pid i ≡ empty
