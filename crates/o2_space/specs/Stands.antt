-- What is true of a space between two steps, and the world that it stands for behind a step.
use Rattle.std.specs.Prelude.{◌≡◌, ℕ, if◌then◌else◌, List, [], length}
use Rattle.o2_conf.specs.Dispatch.{Dispatch}
use Rattle.o2_world.specs.Calls.{Effect}
use Rattle.o2_world.specs.Changes.{used}
use Rattle.o2_world.specs.Holders.{kept, with_process}
use Rattle.o2_world.specs.Map.{Map}
use Rattle.o2_world.specs.Run.{changed}
use Rattle.o2_world.specs.World.{Process, Reserve, Segment, World, is_live}
use Rattle.o2_regions.specs.Maps.{IsProcess, Maps, table_of}
use Rattle.o2_segs.specs.Sharing.{ShareOne}
use Rattle.o2_shared.specs.Texts.{AreInPlace}
use Rattle.o2_stands.specs.Parts.{Parts, Running}
use Rattle.o2_stands.specs.Stands.{AreMarked, IsReady, Matches, StandsIn}
use Rattle.o2_space.specs.Parts.{parts_in}
use Rattle.o2_space.specs.declared.space.Space.{Space}

-- each process has a descriptor for each index
abbrev pub AreWhole : Maps → Type 0
AreWhole m = (pid : ℕ) → IsProcess m pid → length (table_of m pid) ≡ 8192

-- The parts go together, over a device of so many blocks: the calls of the store, of the service and of the bus may be made,
-- whatever the blocks hold; each process is one of the tables, of which no others are; those that live are marked so; each process has
-- a whole table; under a shared index is one segment; and the names of shared segments are in place.
pub record GoTogether (m : Space) (device : ℕ) : Type 0 where
  pub ready : (block : ℕ → List ℕ) → IsReady (parts_in m device block)
  pub numbers : length m.procs.items ≡ m.regions.processes
  pub marked : AreMarked m.ends (parts_in m device (λ n. []))
  pub whole : AreWhole m.regions
  pub one : ShareOne m.regions
  pub places : AreInPlace m.store m.regions m.names

-- The parts stand for these processes, names and reserved indexes once a process has these registers and this state: where it has
-- ended, it holds nothing, and what nobody holds is gone.
abbrev pub StandsCommitted : List Process → Map Segment → (next : ℕ) → List Reserve → (number : ℕ) → Process → Running → Parts → Type 0
StandsCommitted ps names next reserved number x r p =
    let qs = with_process ps number (if is_live r.state then record x { cpu = r.cpu; state = r.state } else record x { cpu = r.cpu; state = r.state; held = [] }) in
    StandsIn p qs (if is_live r.state then names else kept qs names) next (if is_live r.state then reserved else used qs reserved)

-- The parts match the world behind a step of a process.
abbrev pub MatchesAfter : World → (number : ℕ) → Process → Effect → Parts → Type 0
MatchesAfter w number x e p = (d : Dispatch) → d.current ≡ number → Matches p (changed w d x e)
