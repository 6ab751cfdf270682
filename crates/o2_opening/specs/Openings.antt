-- What a store, the maps of processes and the first registers stand for, once all processes have started.
use Rattle.std.specs.Prelude.{◌≡◌, ℕ, ◌+◌, ◌<◌, ◌≤◌, List, length, map, Option, Some, None, is_some, option_map, Result, Ok, Err, slice_get}
use Rattle.std.specs.List.{list_any}
use Rattle.o2_base.specs.declared.memory.Fail.{Fail}
use Rattle.o2_base.specs.declared.memory.Fail.TheVariants.{NoMemory, Bad}
use Rattle.o2_base.specs.declared.faults.ModuleFault.{ModuleFault}
use Rattle.o2_conf.specs.declared.conf.Conf.{Conf}
use Rattle.o2_isa.specs.declared.cpu.Cpu.{Cpu}
use Rattle.o2_image.specs.Getters.{nth}
use Rattle.o2_image.specs.ImageList.{ImageList}
use Rattle.o2_dynlink.specs.Outcome.{LinkedParts}
use Rattle.o2_regions.specs.declared.held.Region.TheVariants.{Private, Shared}
use Rattle.o2_regions.specs.declared.held.Cause.TheVariants.{Loaded}
use Rattle.o2_regions.specs.declared.held.Held.{Held as HeldThere}
use Rattle.o2_regions.specs.Maps.{IsProcess, held_at, is_reserved, table_of}
use Rattle.o2_service.specs.Told.{IsHeldWell}
use Rattle.o2_store.specs.Pictures.{picture, HasPicture}
use Rattle.o2_store.specs.Shelf.{AreClean, HasAll, place_of}
use Rattle.o2_segbus.specs.Guards.{AreAged}
use Rattle.o2_segbus.specs.Seen.{AreNamed, key_of}
use Rattle.o2_segbus.specs.Settled.{IsSettled}
use Rattle.o2_world.specs.declared.types.State.TheVariants.{Live}
use Rattle.o2_world.specs.Known.{is_for_the_run}
use Rattle.o2_world.specs.Map.{get}
use Rattle.o2_world.specs.World.{Held, Setting, World}
use Rattle.o2_world.specs.Starts.{Built, for_the_run}
use Rattle.o2_stands.specs.Parts.{Parts, Running, held_in}
use Rattle.o2_stands.specs.Stands.{AreMarked, IsSetTo, Stands}
use Rattle.o2_load.specs.declared.starting.StartFault.{StartFault}
use Rattle.o2_load.specs.Beginnings.{lines_from}
use Rattle.o2_load.specs.Loads.{library_ranges}
use Rattle.o2_load.specs.Progresses.{IsStartedAt}
use Rattle.o2_opening.specs.declared.opening.Opened.{Opened}
use Rattle.o2_opening.specs.Starting.{IsNamedAs}

-- The store and the maps are those of the processes and names that these starts build: the name of a segment is its age.
pub record IsOpened (m : Opened) (l : LinkedParts) (b : Built) : Type 0 where
  -- each name's segment with its bytes and attributes, none in memory, all from images of the run
  pub next : b.next_name ≡ m.store.made
  pub named : (n : ℕ) → IsNamedAs m.store l.images (key_of m.store n) (get b.names n)
  pub out : (k : ℕ) → place_of m.store k ≡ None
  pub pictures : HasAll (HasPicture l.images) m.store
  pub clean : AreClean m.store (picture l.images)
  -- what processes hold, and their registers
  pub none : (j : ℕ) → ◌≡◌ {A = Option Held} None (held_in m.regions 0 j)
  pub places : (i : ℕ) → IsStartedAt (slice_get m.cpus.items i) (held_in m.regions (i + 1)) (slice_get b.processes i)
  pub same : length b.processes ≡ length m.cpus.items
  -- the descriptors agree with the store, and what is held is found by its age
  pub aged : AreAged m.store
  pub found : AreNamed m.store m.regions
  pub held : IsHeldWell m.store m.regions
  pub settled : IsSettled m.store m.regions
  -- of its own indexes those that a process holds are reserved, and of the shared ones those of the libraries
  pub own : (pid i : ℕ) → IsProcess m.regions pid → 1 ≤ i → i < 4096 → is_reserved m.regions (Private pid) i ≡ is_some (held_at m.regions pid i)
  pub shared : (i : ℕ) → 4096 ≤ i → i < 8192 → is_reserved m.regions Shared i ≡ list_any (is_for_the_run i) (map for_the_run (library_ranges l))
  -- each process's table has all indexes, and nothing is held in the run of a huge allocation
  pub tables : (pid : ℕ) → IsProcess m.regions pid → length (table_of m.regions pid) ≡ 8192
  pub alone : (pid i : ℕ) (h : HeldThere) → held_at m.regions pid i ≡ Some h → h.reserved ≡ 0
  -- all is held once, by load
  pub loaded : (pid i : ℕ) (h : HeldThere) → held_at m.regions pid i ≡ Some h → h.cause ≡ Loaded
  pub once : (pid i : ℕ) (h : HeldThere) → held_at m.regions pid i ≡ Some h → h.holds ≡ 1
  -- the lines of the starts
  pub rows : length m.starts.items ≡ length m.cpus.items
  pub lines : b.lines ≡ lines_from l 1 (map (λ v. v.items) m.starts.items)

-- all processes, or the refusal of the first that is refused
abbrev pub OpensAll : LinkedParts → Result Built (ℕ × ModuleFault) → Result Opened (Fail StartFault) → Type 0
OpensAll l all (Ok m) = (b : Built) × ((all ≡ Ok b) × IsOpened m l b)
OpensAll l all (Err (Bad f)) = all ≡ Err (f.pid, f.fault)
OpensAll l all (Err NoMemory) = Unit {0}

-- The first world.

-- a setting is that of a machine file
pub record IsSettingOf (c : Conf) (s : Setting) : Type 0 where
  pub memory : s.memory ≡ c.memory
  pub swap : s.swap ≡ c.swap
  pub segments : s.segments ≡ c.segments

abbrev pub first_running : Cpu → Running
first_running c = record { cpu = c; state = Live }

-- what has opened as a machine, with the images of the run, a device of so many blocks, and what these hold
abbrev pub parts_of : Opened → ImageList → ℕ → (ℕ → List ℕ) → Parts
parts_of m images device block = record {
  shelf = m.store;
  maps = m.regions;
  images = images;
  device = device;
  block = block;
  running = λ n. option_map first_running (nth m.cpus.items n);
}

-- it stands for a world, and is set as the setting says, with its processes marked live, whatever the blocks of the device hold
pub record StandsFirst (m : Opened) (images : ImageList) (device : ℕ) (s : Setting) (w : World) : Type 0 where
  pub stands : (block : ℕ → List ℕ) → Stands (parts_of m images device block) w
  pub set : (block : ℕ → List ℕ) → IsSetTo (parts_of m images device block) s
  pub marked : (block : ℕ → List ℕ) → AreMarked m.ends (parts_of m images device block)
