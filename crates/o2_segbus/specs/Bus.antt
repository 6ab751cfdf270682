-- What a bus over a store and over the tables of processes shows, and what always holds of it.
use Rattle.std.specs.Prelude.{◌≡◌, ℕ, ◌+◌, ◌≤◌, ◌/◌, ◌^◌, true, [], length, Option, Some, None, is_some, slice_index_or, if◌then◌else◌}
use Rattle.std.specs.Borrow.{GName}
use Rattle.o2_desc.specs.declared.descriptor.Descriptor.{Descriptor}
use Rattle.o2_desc.specs.Bits.{rights_of}
use Rattle.o2_isa.specs.View.{View, Registers, Rest, Hidden, bound_in, is_null, is_local, no_rest, no_hidden}
use Rattle.o2_isa.specs.Presence.{with_unseen}
use Rattle.o2_regions.specs.declared.held.Held.{Held}
use Rattle.o2_regions.specs.Maps.{Maps, held_at}
use Rattle.o2_store.specs.Shelf.{Shelf, entry, place_of}
use Rattle.o2_segbus.specs.declared.registers.SegmentRegister.{SegmentRegister}
use Rattle.o2_segbus.specs.declared.registers.SegmentRegisters.{SegmentRegisters}
use Rattle.o2_segbus.specs.Settled.{Describes, descriptor_at}
use Rattle.o2_segbus.specs.Seen.{hold_in, seen_with}
use Rattle.o2_segbus.specs.Kept.{planes}

-- what a selector that isn't null names in a process's map
abbrev pub held_under : Maps → ℕ → ℕ → Option Held
held_under m pid s = if is_null s then None else (if is_local s then held_at m pid (s / 8) else None)

-- the hidden part of a register that holds a segment, which is in memory, or nothing
abbrev pub IsLoadedAs : Shelf → ℕ → Option Held → Descriptor → Type 0
IsLoadedAs s rights None d = d.access ≡ 0
IsLoadedAs s rights (Some h) d = (is_some (place_of s h.id.key) ≡ true) × Describes (place_of s h.id.key) (entry s h.id.key).size rights d

-- the hidden part of a register is that of its selector
abbrev pub IsLoaded : Shelf → Maps → ℕ → SegmentRegister → Type 0
IsLoaded s m pid x = IsLoadedAs s (rights_of (descriptor_at m pid (x.selector / 8)).access) (held_under m pid x.selector) x.descriptor

pub record AreLoaded (s : Shelf) (m : Maps) (pid : ℕ) (x : SegmentRegisters) : Type 0 where
  pub es : IsLoaded s m pid x.es
  pub cs : IsLoaded s m pid x.cs
  pub ss : IsLoaded s m pid x.ss
  pub ds : IsLoaded s m pid x.ds

-- the bytes of a segment in memory lie in the memory, 65,536 at most
pub record AreInside (s : Shelf) : Type 0 where
  pub small : length s.memory ≤ 2 ^ 24
  pub within : (k at len : ℕ) → place_of s k ≡ Some (at, len) → at + (entry s k).size ≤ length s.memory
  pub most : (k : ℕ) → (entry s k).size ≤ 65536

-- what the registers hold by their selectors
abbrev pub registers_of : Maps → ℕ → SegmentRegisters → Registers
registers_of m pid x = record {
  es = bound_in (hold_in m pid) x.es.selector;
  cs = bound_in (hold_in m pid) x.cs.selector;
  ss = bound_in (hold_in m pid) x.ss.selector;
  ds = bound_in (hold_in m pid) x.ds.selector;
}

-- What no instruction sees stays in every step. So it has the references that the bus holds, and all that the bus keeps as it
-- is: what each process holds, and the tables of the store and of the maps, number by number, with how many there are in each.
-- The bytes of a name that is out of memory are those that a filling has under it.
abbrev pub bus_rest : Shelf → Maps → Rest
bus_rest s m = record no_rest {
  maps = hold_in m;
  memory = length s.memory;
  first = λ k j. slice_index_or (slice_index_or (planes s m) k []) j 0;
  reserved_run = λ k j. length (slice_index_or (planes s m) k []);
}

abbrev pub bus_hidden : GName → GName → Hidden
bus_hidden g t = record no_hidden { away = λ n blocks. blocks n; store = Some g; tables = Some t }

-- what a bus shows that holds these references
unfoldable pub bus_view : GName → GName → Shelf → Maps → ℕ → SegmentRegisters → View
bus_view g t s m pid x = with_unseen (bus_rest s m) (bus_hidden g t) (seen_with s m pid (registers_of m pid x))
