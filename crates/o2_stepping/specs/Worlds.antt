-- What the boundless machine sees of a process over a store.
use Rattle.std.specs.Prelude.{ℕ, List, true, None, if◌then◌else◌}
use Rattle.o2_image.specs.ImageList.{ImageList}
use Rattle.o2_isa.specs.declared.cpu.Cpu.{Cpu}
use Rattle.o2_isa.specs.View.{View}
use Rattle.o2_regions.specs.Maps.{Maps}
use Rattle.o2_store.specs.Shelf.{Shelf}
use Rattle.o2_segbus.specs.Seen.{bytes_in, present_in, seen}
use Rattle.o2_world.specs.Known.{Known}
use Rattle.o2_world.specs.Calls.{Before}
use Rattle.o2_gate.specs.Befores.{before_call}
use Rattle.o2_stands.specs.Parts.{Parts, away_in}

-- the bytes of each name: those in memory, and of the others these
abbrev pub bytes_with : (away : ℕ → List ℕ) → Shelf → ℕ → List ℕ
bytes_with away s n = if present_in s n then bytes_in s n else away n

-- what a process sees, where all its segments are present and those out of memory have these bytes
abbrev pub world_view : (away : ℕ → List ℕ) → Shelf → Maps → ℕ → Cpu → View
world_view away s m pid c = record (seen s m pid c) { present = λ n. true; bytes = bytes_with away s }

-- store and tables with their images and with the device
abbrev pub parts_of : Shelf → Maps → ImageList → (device : ℕ) → (block : ℕ → List ℕ) → Parts
parts_of s m images device block = record { shelf = s; maps = m; images = images; device = device; block = block; running = λ n. None }

-- the bytes of each name that is out of memory: of its image or of its blocks, and zeros behind
abbrev pub away_of : Shelf → Maps → ImageList → (device : ℕ) → (block : ℕ → List ℕ) → ℕ → List ℕ
away_of s m images device block = away_in (parts_of s m images device block)

-- what a step of a process starts from
abbrev pub before_in : (away : ℕ → List ℕ) → Shelf → Maps → (pid : ℕ) → Cpu → (input : List ℕ) → Known → Before
before_in away s m pid c input known = before_call (world_view away s m pid c) pid c input known
