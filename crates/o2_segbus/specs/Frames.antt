-- What a step leaves of a store and of the tables of processes.
use Rattle.std.specs.Prelude.{◌≡◌, ℕ, length}
use Rattle.o2_regions.specs.Maps.{Maps, IsProcess, table_of}
use Rattle.o2_isa.specs.declared.cpu.Cpu.{Cpu}
use Rattle.o2_isa.specs.View.{IsBound}
use Rattle.o2_store.specs.Shelf.{Shelf, AreClean, Pictures}
use Rattle.o2_desc.specs.Bits.{unmarked}
use Rattle.o2_segbus.specs.Settled.{IsSettled, descriptor_at}
use Rattle.o2_segbus.specs.Seen.{AreNamed, seen}
use Rattle.o2_segbus.specs.Guards.{AreAged, AreGuarded}

-- a store changes in bytes of its memory alone
pub record KeepsStore (old new : Shelf) : Type 0 where
  pub store : new ≡ record old { memory = new.memory }
  pub size : length new.memory ≡ length old.memory

-- the tables of processes change in accessed bits alone
pub record KeepsMaps (old new : Maps) : Type 0 where
  pub processes : new.processes ≡ old.processes
  pub held : new.held ≡ old.held
  pub reserved : new.reserved ≡ old.reserved
  pub base : (pid i : ℕ) → (descriptor_at new pid i).base ≡ (descriptor_at old pid i).base
  pub limit : (pid i : ℕ) → (descriptor_at new pid i).limit ≡ (descriptor_at old pid i).limit
  pub lengths : (pid : ℕ) → length (table_of new pid) ≡ length (table_of old pid)
  pub access : (pid i : ℕ) → unmarked (descriptor_at new pid i).access ≡ unmarked (descriptor_at old pid i).access

-- clean segments go on to have the bytes of their images, where no two segments have one age and no clean one may be written
pub record KeepsClean (old : Shelf) (m : Maps) (new : Shelf) : Type 0 where
  pub clean : (pic : Pictures) → AreAged old → AreGuarded old m
      → AreClean old pic → AreClean new pic

-- a process may take a step: it is one, each held segment is live, the descriptors agree with the store, and what the segment
-- registers name is in memory
pub record CanStep (s : Shelf) (m : Maps) (pid : ℕ) (c : Cpu) : Type 0 where
  pub process : IsProcess m pid
  pub named : AreNamed s m
  pub settled : IsSettled s m
  pub bound : IsBound (seen s m pid c)
