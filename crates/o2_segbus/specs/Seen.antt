-- What the processor sees of a store and of what a process holds. The name of a segment is its age: how many were made before it.
use Rattle.std.specs.Prelude.{◌≡◌, ℕ, ◌+◌, Bool, false, List, [], ◌∷◌, Option, Some, None, is_some, option_map, if◌then◌else◌}
use Rattle.o2_entries.specs.declared.Entry.{Entry}
use Rattle.o2_phys.specs.Bytes.{part}
use Rattle.o2_desc.specs.Bits.{rights_of}
use Rattle.o2_isa.specs.declared.cpu.Cpu.{Cpu}
use Rattle.o2_isa.specs.View.{View, Hold, Registers, bound_registers, built_gates, no_rest, no_hidden}
use Rattle.o2_isa.specs.Steps.{State, state}
use Rattle.o2_regions.specs.declared.held.Held.{Held}
use Rattle.o2_regions.specs.Maps.{Maps, held_at}
use Rattle.o2_store.specs.Needs.{has_age}
use Rattle.o2_store.specs.Shelf.{Shelf, entry, place_of}
use Rattle.o2_segbus.specs.Settled.{descriptor_at}

-- the first number from k on whose segment has this age
abbrev pub number_from : ℕ → List (Option Entry) → ℕ → Option ℕ
number_from age [] k = None
number_from age (o ∷ es) k = if has_age o age then Some k else number_from age es (k + 1)

-- the number of the live segment of a name
unfoldable pub key_of : Shelf → ℕ → Option ℕ
key_of s name = number_from name s.entries 0

abbrev pub size_under : Shelf → Option ℕ → ℕ
size_under s None = 0
size_under s (Some k) = (entry s k).size

abbrev pub present_under : Shelf → Option ℕ → Bool
present_under s None = false
present_under s (Some k) = is_some (place_of s k)

-- the first bytes of a place in memory
abbrev pub bytes_from : List ℕ → Option (ℕ × ℕ) → ℕ → List ℕ
bytes_from memory None size = []
bytes_from memory (Some r) size = part memory r.0 size

abbrev pub bytes_under : Shelf → Option ℕ → List ℕ
bytes_under s None = []
bytes_under s (Some k) = bytes_from s.memory (place_of s k) (entry s k).size

-- whether a number's segment was discarded
abbrev pub gone_under : Shelf → Option ℕ → Bool
gone_under s None = false
gone_under s (Some k) = (entry s k).attr.gone

-- of each name: its size, whether it is in memory, whether it was discarded, and its bytes in memory
abbrev pub size_in : Shelf → ℕ → ℕ
size_in s name = size_under s (key_of s name)

abbrev pub present_in : Shelf → ℕ → Bool
present_in s name = present_under s (key_of s name)

abbrev pub gone_in : Shelf → ℕ → Bool
gone_in s name = gone_under s (key_of s name)

abbrev pub bytes_in : Shelf → ℕ → List ℕ
bytes_in s name = bytes_under s (key_of s name)

-- what an index of a process's map holds, with the rights by its descriptor
abbrev pub hold_of : Maps → ℕ → ℕ → Held → Hold
hold_of m pid i h = record { name = h.id.age; rights = rights_of (descriptor_at m pid i).access }

unfoldable pub hold_in : Maps → ℕ → ℕ → Option Hold
hold_in m pid i = option_map (hold_of m pid i) (held_at m pid i)

-- each held segment is live, and is the one that its name says
abbrev pub AreNamed : Shelf → Maps → Type 0
AreNamed s m = (pid i : ℕ) (h : Held) → held_at m pid i ≡ Some h → key_of s h.id.age ≡ Some h.id.key

-- what a process sees whose segment registers hold this
unfoldable pub seen_with : Shelf → Maps → ℕ → Registers → View
seen_with s m pid registers = record {
  held = hold_in m pid;
  gate = built_gates;
  size = size_in s;
  present = present_in s;
  discarded = gone_in s;
  bytes = bytes_in s;
  registers = registers;
  rest = no_rest;
  hidden = no_hidden;
}

-- what the processor of a process sees
abbrev pub seen : Shelf → Maps → ℕ → Cpu → View
seen s m pid c = seen_with s m pid (bound_registers (hold_in m pid) c)

abbrev pub seen_state : Shelf → Maps → ℕ → Cpu → State
seen_state s m pid c = state c (seen s m pid c)
