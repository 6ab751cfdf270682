-- What moves segments about and what a step writes, of a machine over a store.
use Rattle.std.specs.Prelude.{◌≡◌, ℕ, ◌==◌, true, Some, is_some, option_map, if◌then◌else◌, List}
use Rattle.o2_regions.specs.Maps.{Maps}
use Rattle.o2_store.specs.Shelf.{Shelf}
use Rattle.o2_segbus.specs.Seen.{bytes_in as bytes_there, present_in}
use Rattle.o2_world.specs.Map.{Map, get}
use Rattle.o2_world.specs.World.{Segment, World}
use Rattle.o2_world.specs.Holders.{process_at}
use Rattle.o2_world.specs.Views.{bytes_in}
use Rattle.o2_stands.specs.Parts.{Parts, Running, running_of}

-- the machine with another store, other maps and another content of its blocks
abbrev pub moved : Parts → Shelf → Maps → (ℕ → List ℕ) → Parts
moved p s m block = record p { shelf = s; maps = m; block = block }

-- with another store and other maps
abbrev pub stepped_to : Parts → Shelf → Maps → Parts
stepped_to p s m = record p { shelf = s; maps = m }

-- with registers and state of a process, or none
abbrev pub with_running : Parts → ℕ → Running → Parts
with_running p pid r = record p { running = λ n. if n == pid then Some r else p.running n }

-- each name that lives has the bytes that it now has in memory, or out of it those that it had
pub record AreWritten (names : Map Segment) (s : Shelf) (bytes : ℕ → List ℕ) : Type 0 where
  pub each : (n : ℕ) → is_some (get names n) ≡ true → bytes n ≡ (if present_in s n then bytes_there s n else bytes_in names n)

-- The processes of a world behind a step run as those of another, but for one, with these registers and this state.
pub record RunsAs (u v : World) (number : ℕ) (r : Running) : Type 0 where
  pub each : (n : ℕ) → option_map running_of (process_at v.processes n) ≡ (if n == number then Some r else option_map running_of (process_at u.processes n))
