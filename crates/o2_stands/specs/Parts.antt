-- What a machine has whose segments lie in a store, as contracts see it, and what a process of a world is there.
use Rattle.std.specs.Prelude.{ℕ, Bool, false, List, [], map, Option, Some, None, option_map}
use Rattle.std.specs.List.{range_with_len}
use Rattle.o2_isa.specs.declared.cpu.Cpu.{Cpu}
use Rattle.o2_image.specs.ImageList.{ImageList}
use Rattle.o2_desc.specs.Bits.{rights_of}
use Rattle.o2_regions.specs.declared.held.Cause.{Cause as CauseThere}
use Rattle.o2_regions.specs.declared.held.Cause.TheVariants.{Loaded, Called, Alias}
use Rattle.o2_regions.specs.declared.held.Held.{Held as HeldThere}
use Rattle.o2_regions.specs.Maps.{Maps, held_at}
use Rattle.o2_store.specs.Pictures.{picture}
use Rattle.o2_store.specs.Shelf.{Shelf, byte_at, entry, out_byte}
use Rattle.o2_segbus.specs.Seen.{key_of}
use Rattle.o2_segbus.specs.Settled.{descriptor_at}
use Rattle.o2_world.specs.declared.types.State.{State}
use Rattle.o2_world.specs.World.{Cause, Held, Process, ByLoad, ByCall, ByAlias, is_live}

-- registers and state of a process
pub record Running : Type 0 where
  pub cpu : Cpu
  pub state : State

pub record Parts : Type 0 where
  -- the store, and what each process holds, with its descriptors
  pub shelf : Shelf
  pub maps : Maps
  -- the images of modules and environments
  pub images : ImageList
  -- how many blocks the swap device has, and what they hold where it tells that
  pub device : ℕ
  pub block : ℕ → List ℕ
  -- each process, by its number
  pub running : ℕ → Option Running

abbrev pub running_of : Process → Running
running_of p = record { cpu = p.cpu; state = p.state }

abbrev pub goes_on : Option Running → Bool
goes_on None = false
goes_on (Some r) = is_live r.state

abbrev pub cause_of : CauseThere → Cause
cause_of Loaded = ByLoad
cause_of Called = ByCall
cause_of Alias = ByAlias

-- what a process holds at an index, as a world has it: the name is the segment's age, and the rights are those of the descriptor
abbrev pub held_of : Maps → ℕ → ℕ → HeldThere → Held
held_of m pid i h = record {
  name = h.id.age;
  rights = rights_of (descriptor_at m pid i).access;
  holds = h.holds;
  cause = cause_of h.cause;
  first = h.first;
  reserved = h.reserved;
}

unfoldable pub held_in : Maps → ℕ → ℕ → Option Held
held_in m pid i = option_map (held_of m pid i) (held_at m pid i)

-- a byte of a number's segment: of its range, its image or its blocks, or zero
abbrev pub byte_in : Parts → ℕ → ℕ → ℕ
byte_in p k j = byte_at p.shelf (picture p.images) p.block k j

-- the bytes that a number's segment would have out of memory
abbrev pub away_under : Parts → Option ℕ → List ℕ
away_under p None = []
away_under p (Some k) = map (out_byte p.shelf (picture p.images) p.block k) (range_with_len 0 (entry p.shelf k).size)

-- those of a name
unfoldable pub away_in : Parts → ℕ → List ℕ
away_in p n = away_under p (key_of p.shelf n)
