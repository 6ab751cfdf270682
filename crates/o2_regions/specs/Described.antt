-- Descriptors that say where a segment is.
use Rattle.std.specs.Prelude.{◌≡◌, ℕ, ◌/◌, ◌%◌, ◌<◌, List, [], length, Option, is_some, if◌then◌else◌, slice_index_or}
use Rattle.std.specs.Option.{unwrap_or}
use Rattle.o2_desc.specs.declared.descriptor.Descriptor.{Descriptor}
use Rattle.o2_desc.specs.Bits.{with_present}
use Rattle.o2_desc.specs.Bytes.{entry}
use Rattle.o2_place.specs.declared.seg_id.SegId.{SegId}
use Rattle.o2_regions.specs.Maps.{Maps, held_at, table_of, is_of}

-- a descriptor of a segment of this limit that is in memory from this base on, or that isn't in memory, with base 0; its other
-- bits stay
abbrev pub placed : Option ℕ → ℕ → Descriptor → Descriptor
placed base limit d = record { base = unwrap_or base 0; limit = limit; access = with_present d.access (is_some base) }

-- the descriptor that tables have at a place
abbrev pub entry_in : List (List Descriptor) → ℕ → Descriptor
entry_in tables p = entry (slice_index_or tables (p / 8192) []) (p % 8192)

-- the descriptor of a process's index
abbrev pub entry_at : Maps → ℕ → ℕ → Descriptor
entry_at m pid i = entry (table_of m pid) i

-- each descriptor under which a segment is held says that it is there, and all else stays
pub record Describes (old new : Maps) (id : SegId) (base : Option ℕ) (limit : ℕ) : Type 0 where
  pub rest : new ≡ record old { tables = new.tables }
  pub lengths : (pid : ℕ) → length (table_of new pid) ≡ length (table_of old pid)
  pub entries : (pid i : ℕ) → i < length (table_of old pid)
      → entry_at new pid i ≡ (if is_of id (held_at old pid i) then placed base limit (entry_at old pid i) else entry_at old pid i)
