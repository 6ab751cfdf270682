-- What a step gives to processes beside its own.
use Rattle.std.specs.Prelude.{◌≡◌, ℕ, ◌==◌, Bool, false, Some}
use Rattle.std.specs.List.{list_any}
use Rattle.o2_world.specs.World.{World, Setting, Process}
use Rattle.o2_world.specs.Changes.{Change, Makes, Resizes, Locks, Marks, Holds, Drops, Finishes, Reserves, Frees, Names}
use Rattle.o2_world.specs.Holders.{process_at}
use Rattle.o2_world.specs.Effect.{effect}
use Rattle.o2_world.specs.Run.{before, next_dispatch, ready}

-- a change by which this process holds more
abbrev pub gives : ℕ → Change → Bool
gives number (Makes s) = false
gives number (Resizes name size) = false
gives number (Locks name count) = false
gives number (Marks name discarded) = false
gives number (Holds p i h) = p == number
gives number (Drops p i count) = false
gives number (Finishes p state) = false
gives number (Reserves r) = false
gives number (Frees region first) = false
gives number (Names text name) = false

-- the next step gives this process nothing
abbrev pub GivesNothing : Setting → World → (number : ℕ) → Type 0
GivesNothing s w number =
    let d = next_dispatch s w in
    (p : Process) → process_at w.processes d.current ≡ Some p
    → list_any (gives number) (effect (before s (ready w) d.current p)).changes ≡ false
