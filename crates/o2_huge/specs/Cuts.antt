-- What is left behind members of a run that go.
use Rattle.std.specs.Prelude.{◌≡◌, ℕ, ◌<◌, true, List, length, Some, IsSome, is_some}
use Rattle.std.specs.List.{list_any}
use Rattle.o2_entries.specs.Tables.{slot_at}
use Rattle.o2_regions.specs.Maps.{IsProcess, Maps, region_of}
use Rattle.o2_store.specs.Shelf.{Shelf}
use Rattle.o2_world.specs.Changes.{Change, swept, with_changes}
use Rattle.o2_world.specs.Holders.{is_held, process_at}
use Rattle.o2_world.specs.Known.{held_at as held_by, reserves}
use Rattle.o2_world.specs.Map.{get}
use Rattle.o2_world.specs.Rulings.{is_in_run}
use Rattle.o2_world.specs.Tied.{AreUsed}
use Rattle.o2_world.specs.World.{Held as WorldHeld, Process, World}
use Rattle.o2_changes.specs.Frames.{KeepsOrder}
use Rattle.o2_changes.specs.Holding.{KeepsPlaces}
use Rattle.o2_changes.specs.Order.{IsInOrder}
use Rattle.o2_segs.specs.Sharing.{AreHeldAtMost, KeepsShares}
use Rattle.o2_stands.specs.Parts.{Parts}
use Rattle.o2_stands.specs.Stands.{Matches, number_of}
use Rattle.o2_huge.specs.Growth.{IsMemberAt, lost_in}

-- Segments may go, and all that stays is where it was; what is held less has less holds alone, and what held of store and tables goes on
-- to hold.
pub record Shrinks (s t : Shelf) (m n : Maps) : Type 0 where
  pub size : t.places.size ≡ s.places.size
  pub most : length t.entries ≡ length s.entries
  pub made : t.made ≡ s.made
  pub processes : n.processes ≡ m.processes
  pub reserved : n.reserved ≡ m.reserved
  pub alive : (k : ℕ) → IsSome (slot_at t.entries k) → IsSome (slot_at s.entries k)
  pub places : KeepsPlaces s t
  pub few : (k : ℕ) → AreHeldAtMost m k → AreHeldAtMost n k
  pub shares : KeepsShares s m t n s.made
  pub goes_on : KeepsOrder s m t n

-- A process may lose members of a run behind its first one, from an index on, over a store and tables that agree.
pub record MayCut (s : Shelf) (m : Maps) (pid first from : ℕ) : Type 0 where
  pub process : IsProcess m pid
  pub behind : first < from
  pub head : IsMemberAt m pid first first
  pub order : IsInOrder s m

-- A world may lose members of a run that is held still: each of its names is held, what is reserved is used, and the indexes of
-- members are reserved.
pub record MayLose (w : World) : Type 0 where
  pub named : (q : ℕ) → is_some (get w.names q) ≡ true → is_held w.processes q ≡ true
  pub used : AreUsed w.processes w.reserved
  pub covered : (n i : ℕ) (h : WorldHeld) → held_by w.processes n i ≡ Some h → is_in_run h ≡ true → list_any (reserves (number_of (region_of n i)) i) w.reserved ≡ true

-- A machine matches a world as it is swept behind changes that leave all that is reserved used, and that world may lose more.
pub record IsCutAs (p : Parts) (w v : World) : Type 0 where
  pub matches : Matches p (swept v)
  pub used : AreUsed v.processes w.reserved
  pub reserved : v.reserved ≡ w.reserved
  pub loses : MayLose (swept v)

abbrev pub IsCutTo : Parts → World → List Change → Type 0
IsCutTo p w cs = IsCutAs p w (with_changes w cs)

-- store and tables match a world without the holds of a process at these indexes, where they matched it
pub record MatchesCut (s t : Shelf) (m n : Maps) (pid : ℕ) (is : List ℕ) : Type 0 where
  pub world : (p : Parts) (w : World) (x : Process) → p.shelf ≡ s → p.maps ≡ m → process_at w.processes pid ≡ Some x
      → MayLose w → Matches p w → IsCutTo (record p { shelf = t; maps = n }) w (lost_in m pid is)
