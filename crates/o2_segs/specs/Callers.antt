-- What a call asks of the process that makes it.
use Rattle.std.specs.Prelude.{ℕ}
use Rattle.o2_regions.specs.Maps.{IsProcess, Maps}
use Rattle.o2_segbus.specs.Seen.{AreNamed}
use Rattle.o2_store.specs.Shelf.{Shelf}
use Rattle.o2_changes.specs.Order.{IsInOrder}

-- a process, over a store and tables that agree, in which the age of what is held leads back to its number
pub record IsCaller (s : Shelf) (m : Maps) (pid : ℕ) : Type 0 where
  pub process : IsProcess m pid
  pub named : AreNamed s m
  pub order : IsInOrder s m
