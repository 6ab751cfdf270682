-- A memory in which processes start, as it is seen from outside.
use Rattle.std.specs.Prelude.{◌≡◌, ◌≢◌, ℕ, ◌+◌, ◌<◌, Bool, List, Option}
use Rattle.o2_world.specs.World.{Held}

-- how many names there are, and how many there may be; what a process holds at an index; whether a process may hold something at
-- an index; and numbers that no start changes
pub record Memory : Type 0 where
  pub count : ℕ
  pub most : ℕ
  pub held : ℕ → ℕ → Option Held
  pub takes : ℕ → ℕ → Bool
  pub fixed : List ℕ

-- one name more, for which there was room
pub record MakesName (old new : Memory) (n : ℕ) : Type 0 where
  pub name : n ≡ old.count
  pub fits : old.count < old.most
  pub count : new.count ≡ old.count + 1

-- what no start changes
pub record KeepsSetting (old new : Memory) : Type 0 where
  pub most : new.most ≡ old.most
  pub takes : (pid i : ℕ) → new.takes pid i ≡ old.takes pid i
  pub fixed : new.fixed ≡ old.fixed

-- what all processes hold stays
pub record KeepsHolds (old new : Memory) : Type 0 where
  pub held : (q i : ℕ) → new.held q i ≡ old.held q i
  pub setting : KeepsSetting old new

-- what the other processes hold stays
pub record OthersStay (old new : Memory) (pid : ℕ) : Type 0 where
  pub others : (q i : ℕ) → q ≢ pid → new.held q i ≡ old.held q i
  pub setting : KeepsSetting old new
