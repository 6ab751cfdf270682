-- What a process's hold by load leaves of the maps of processes.
use Rattle.std.specs.Prelude.{◌≡◌, ℕ, ◌<◌, ◌&&◌, ◌==◌, true, length, None, Some, if◌then◌else◌}
use Rattle.o2_place.specs.declared.seg_id.SegId.{SegId}
use Rattle.o2_regions.specs.declared.held.Held.{Held}
use Rattle.o2_regions.specs.declared.held.Cause.TheVariants.{Loaded}
use Rattle.o2_regions.specs.declared.held.Region.{Region}
use Rattle.o2_regions.specs.Maps.{Maps, IsRegion, emptied, fresh, held_at, is_of, is_reserved, region_of, same_region, table_of}
use Rattle.o2_regions.specs.Described.{placed}
use Rattle.o2_segbus.specs.Settled.{descriptor_at}

-- a segment that is held once, by load
abbrev pub loaded_once : SegId → Held
loaded_once id = record { id = id; holds = 1; cause = Loaded; first = 0; reserved = 0 }

-- a process holds nothing at an index, which is reserved
pub record Clears (old new : Maps) (pid i : ℕ) : Type 0 where
  pub processes : new.processes ≡ old.processes
  pub held : (q j : ℕ) → held_at new q j ≡ (if (q == pid) && (j == i) then None else held_at old q j)
  pub tables : (q : ℕ) → table_of new q ≡ (if q == pid then emptied (held_at old pid i) (table_of old pid) i else table_of old q)
  pub reserved : (g : Region) (j : ℕ) → IsRegion old g → is_reserved new g j ≡ (if same_region g (region_of pid i) && (j == i) then true else is_reserved old g j)

-- a process holds a segment there, and the descriptors of all who hold it say that it has this limit and isn't in memory
pub record Loads (old new : Maps) (pid i : ℕ) (id : SegId) (rights limit : ℕ) : Type 0 where
  pub processes : new.processes ≡ old.processes
  pub held : (q j : ℕ) → held_at new q j ≡ (if (q == pid) && (j == i) then Some (loaded_once id) else held_at old q j)
  pub lengths : (q : ℕ) → length (table_of new q) ≡ length (table_of old q)
  pub entries : (q j : ℕ) → j < length (table_of old q)
      → descriptor_at new q j ≡ (if (q == pid) && (j == i) then placed None limit (fresh rights)
      else (if is_of id (held_at old q j) then placed None limit (descriptor_at old q j) else descriptor_at old q j))
  pub reserved : (g : Region) (j : ℕ) → IsRegion old g → is_reserved new g j ≡ (if same_region g (region_of pid i) && (j == i) then true else is_reserved old g j)
