-- What a plain memory of segments holds, by look-ups, and how a processor sees it.
use Rattle.std.specs.Prelude.{◌≡◌, ◌≢◌, ℕ, Bool, true, false, not, List, slice_get, length, Option, Some, None, option_map}
use Rattle.std.specs.Borrow.{GName}
use Rattle.o2_isa.specs.declared.cpu.Cpu.{Cpu}
use Rattle.o2_isa.specs.View.{View, Hold, Registers, bound_registers, simple_view, no_rest, no_hidden}
use Rattle.o2_isa.specs.Presence.{with_unseen}
use Rattle.o2_bus.specs.declared.plain.Plain.{Plain}
use Rattle.o2_bus.specs.declared.segment.Segment.{Segment}
use Rattle.o2_bus.specs.declared.loading.LoadTarget.{LoadTarget}
pub use Rattle.o2_bus.specs.Maps.{hold_of, granted, in_map, segment_bytes}
use Rattle.o2_bus.specs.declared.plain_bus.Holds.{Holds}
use Rattle.o2_bus.specs.declared.plain_bus.PlainBus.{PlainBus}

-- what an index of a process's map holds
unfoldable pub held_in : Plain → ℕ → ℕ → Option Hold
held_in p pid i = in_map (slice_get p.maps.items pid) i

abbrev pub is_shown : Option Segment → Bool
is_shown None = true
is_shown (Some s) = not s.hidden

-- the bytes of a name: none where it was never added
unfoldable pub bytes_in : Plain → ℕ → List ℕ
bytes_in p n = segment_bytes (slice_get p.segments.items n)

-- whether a name is present
unfoldable pub shown_in : Plain → ℕ → Bool
shown_in p n = is_shown (slice_get p.segments.items n)

-- how many names were added: they are numbered from 0
unfoldable pub count_in : Plain → ℕ
count_in p = length p.segments.items

-- what the processor of a process sees, with these registers
abbrev pub plain_view : Plain → ℕ → Cpu → View
plain_view p pid c = simple_view (held_in p pid) (shown_in p) (bytes_in p) (bound_registers (held_in p pid) c)

abbrev pub registers_of : Holds → Registers
registers_of h = record { es = option_map hold_of h.es; cs = option_map hold_of h.cs; ss = option_map hold_of h.ss; ds = option_map hold_of h.ds }

-- what a bus over it shows: no step changes the maps of all processes, the number of names, or the reference
unfoldable pub bus_view : GName → Plain → ℕ → Holds → View
bus_view name p pid h = with_unseen (record no_rest { maps = held_in p; most = count_in p }) (record no_hidden { store = Some name }) (simple_view (held_in p pid) (shown_in p) (bytes_in p) (registers_of h))

abbrev pub view_in : PlainBus → View
view_in b = bus_view b.plain.ghost_name b.plain.now b.pid b.holds

-- what a load asks of the segment of a hold
abbrev pub target_in : Plain → Hold → LoadTarget
target_in p h = record { access = h.rights; present = shown_in p h.name; discarded = false }

-- one segment's bytes are new, and nothing else is
pub record PutsBytes (old new : List Segment) (name : ℕ) (bytes : List ℕ) : Type 0 where
  pub put : segment_bytes (slice_get new name) ≡ bytes
  pub others : (n : ℕ) → n ≢ name → slice_get new n ≡ slice_get old n
  pub same_shown : (n : ℕ) → is_shown (slice_get new n) ≡ is_shown (slice_get old n)
  pub same_count : length new ≡ length old
