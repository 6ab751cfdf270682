-- What a call leaves that gives a process one hold more of what another one holds.
use Rattle.std.specs.Prelude.{◌≡◌, List, Option}
use Rattle.o2_regions.specs.Maps.{Maps}
use Rattle.o2_store.specs.Shelf.{Shelf}
use Rattle.o2_changes.specs.Frames.{KeepsOrder}
use Rattle.o2_segs.specs.Limits.{KeepsLimitsBy}
use Rattle.o2_shared.specs.declared.names.Name.{Name}
use Rattle.o2_shared.specs.Shares.{StillHolds}
use Rattle.o2_shared.specs.Texts.{AreInPlace}

-- Of each segment there is one hold more at an index at most, and names stay in place.
pub record SharesOnce (s : Shelf) (m : Maps) (t : Shelf) (n : Maps) : Type 0 where
  pub still : StillHolds m n
  pub limits : KeepsLimitsBy s m t n 0 1
  pub places : (names : List (Option Name)) → AreInPlace s m names → AreInPlace t n names
  pub processes : n.processes ≡ m.processes
  pub goes_on : KeepsOrder s m t n
