-- Loads and accesses, by descriptors alone.
use Rattle.std.specs.Prelude.{◌≡◌, ℕ, ◌+◌, ◌/◌, Bool, true, false, not, ◌&&◌, nat_le, length, ◌≤◌, List, [], Option, Some, None, Result, Ok, Err, if◌then◌else◌}
use Rattle.o2_desc.specs.declared.descriptor.Descriptor.{Descriptor}
use Rattle.o2_desc.specs.Bits.{is_present, call_gate}
use Rattle.o2_desc.specs.Bytes.{empty}
use Rattle.o2_phys.specs.Bytes.{part}
use Rattle.o2_isa.specs.declared.instr.Width.{Width}
use Rattle.o2_isa.specs.declared.instr.Sreg.{Sreg}
use Rattle.o2_isa.specs.View.{is_readable, is_writable, is_local, is_null, outside, width_len, value_at, shown_rights}
use Rattle.o2_bus.specs.declared.loading.LoadTarget.{LoadTarget}
use Rattle.o2_entries.specs.declared.Entry.{Entry}
use Rattle.o2_regions.specs.declared.held.Held.{Held}
use Rattle.o2_regions.specs.Maps.{Maps, held_at, table_of, descriptor_of}
use Rattle.o2_store.specs.Shelf.{Shelf, entry_of}

-- the descriptor that a selector names in a process's table
abbrev pub named_descriptor : Maps → ℕ → ℕ → Option Descriptor
named_descriptor m pid s = if is_local s then descriptor_of (held_at m pid (s / 8)) (table_of m pid) (s / 8) else None

abbrev pub or_empty : Option Descriptor → Descriptor
or_empty None = empty
or_empty (Some d) = d

-- the hidden part of a register after the load of a selector
abbrev pub loaded_descriptor : Maps → ℕ → ℕ → Descriptor
loaded_descriptor m pid s = if is_null s then empty else or_empty (named_descriptor m pid s)

-- whether a segment that isn't stale was discarded
abbrev pub is_gone : Option Entry → Bool
is_gone None = false
is_gone (Some e) = e.attr.gone

abbrev pub gone_held : Shelf → Option Held → Bool
gone_held s None = false
gone_held s (Some h) = is_gone (entry_of s h.id)

-- whether a selector names a segment that was discarded
abbrev pub gone_named : Shelf → Maps → ℕ → ℕ → Bool
gone_named s m pid sel = if is_local sel then gone_held s (held_at m pid (sel / 8)) else false

-- what a load asks of the segment of a descriptor, which may be discarded
abbrev pub target_of : Bool → Descriptor → LoadTarget
target_of gone d = record { access = d.access; present = is_present d.access; discarded = not (is_present d.access) && gone }

-- the byte or word at a place of the segment in a register
abbrev pub read_by : List ℕ → Descriptor → Sreg → ℕ → Width → Result ℕ (ℕ × ℕ)
read_by memory d r k w = if is_readable d.access then (if nat_le (k + width_len w) (d.limit + 1) then Ok (value_at memory (d.base + k) w) else Err (outside r)) else Err (13, 0)

-- whether a byte or word may be put there
abbrev pub room_by : Descriptor → Sreg → ℕ → Width → Result ℕ (ℕ × ℕ)
room_by d r k w = if is_writable d.access then (if nat_le (k + width_len w) (d.limit + 1) then Ok 0 else Err (outside r)) else Err (13, 0)

-- the bytes of the segment in a register
abbrev pub bytes_by : List ℕ → Descriptor → List ℕ
bytes_by memory d = if is_present d.access then part memory d.base (d.limit + 1) else []

-- the segment in a register lies in the memory
abbrev pub IsInside : List ℕ → Descriptor → Type 0
IsInside memory d = is_present d.access ≡ true → d.base + (d.limit + 1) ≤ length memory

abbrev pub rights_by : Option Descriptor → Option ℕ → Option ℕ
rights_by (Some d) g = Some (shown_rights d.access)
rights_by None (Some k) = Some call_gate
rights_by None None = None
