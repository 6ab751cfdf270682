-- A machine over a store behind the end of a process.
use Rattle.std.specs.Prelude.{◌≡◌, ℕ, false, List, [], Some}
use Rattle.o2_regions.specs.Maps.{Maps}
use Rattle.o2_store.specs.Shelf.{Shelf}
use Rattle.o2_world.specs.Changes.{used}
use Rattle.o2_world.specs.Holders.{kept, process_at, with_process}
use Rattle.o2_world.specs.Map.{Map}
use Rattle.o2_world.specs.World.{Process, Reserve, Segment, is_live}
use Rattle.o2_stands.specs.Parts.{Parts, running_of}
use Rattle.o2_stands.specs.Stands.{IsReady, StandsIn}
use Rattle.o2_stands.specs.Moves.{stepped_to, with_running}

-- It is ready for its next calls; and where it stood for a world, it stands for that world behind the end of the process: the
-- process holds nothing, whatever registers and state it is left with, and what nobody holds is gone.
pub record StandsBehind (pid : ℕ) (s : Shelf) (m : Maps) (t : Shelf) (n : Maps) : Type 0 where
  pub ready : (p : Parts) → IsReady (stepped_to p s m) → IsReady (stepped_to p t n)
  pub stands : (p : Parts) (ps : List Process) (names : Map Segment) (next : ℕ) (reserved : List Reserve) (x q : Process)
      → StandsIn (stepped_to p s m) ps names next reserved
      → process_at ps pid ≡ Some x → q.held ≡ [] → is_live q.state ≡ false
      → let qs = with_process ps pid q in
      StandsIn (with_running (stepped_to p t n) pid (running_of q)) qs (kept qs names) next (used qs reserved)
