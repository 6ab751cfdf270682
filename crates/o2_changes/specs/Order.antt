-- A store and the tables of processes that agree.
use Rattle.std.specs.Prelude.{◌≡◌, ℕ, length}
use Rattle.o2_regions.specs.Maps.{Maps, IsProcess, table_of}
use Rattle.o2_segbus.specs.Guards.{AreAged, AreGuarded}
use Rattle.o2_segbus.specs.Settled.{IsSettled}
use Rattle.o2_service.specs.Told.{IsHeldWell}
use Rattle.o2_store.specs.Shelf.{Shelf}

-- what is held is live, each descriptor says where its segment is, and each process has a whole table
pub record IsInOrder (s : Shelf) (m : Maps) : Type 0 where
  pub held : IsHeldWell s m
  pub settled : IsSettled s m
  pub tables : (pid : ℕ) → IsProcess m pid → length (table_of m pid) ≡ 8192

-- no two live segments have one age, and what is held as data that can be written isn't clean
pub record IsGuarded (s : Shelf) (m : Maps) : Type 0 where
  pub aged : AreAged s
  pub guarded : AreGuarded s m
