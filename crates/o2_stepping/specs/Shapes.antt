-- What a step in a store leaves as it is.
use Rattle.std.specs.Prelude.{◌≡◌, ℕ, length}
use Rattle.o2_desc.specs.Bits.{rights_of}
use Rattle.o2_regions.specs.Maps.{Maps, table_of}
use Rattle.o2_swapmap.specs.Piles.{all_of}
use Rattle.o2_store.specs.Shelf.{Shelf, SameTables}
use Rattle.o2_segbus.specs.Settled.{descriptor_at}

-- each process holds what it held, with the same rights
pub record SameHolds (old new : Maps) : Type 0 where
  pub processes : new.processes ≡ old.processes
  pub held : new.held ≡ old.held
  pub reserved : new.reserved ≡ old.reserved
  pub lengths : (pid : ℕ) → length (table_of new pid) ≡ length (table_of old pid)
  pub rights : (pid i : ℕ) → rights_of (descriptor_at new pid i).access ≡ rights_of (descriptor_at old pid i).access

-- each segment keeps its age, its size and its attributes, and the maps are the same
pub record SameShape (s : Shelf) (m : Maps) (t : Shelf) (n : Maps) : Type 0 where
  pub tables : SameTables s t
  pub swap : all_of t.swap ≡ all_of s.swap
  pub holds : SameHolds m n
