-- New members of a run of indexes, over a store and the tables of what processes hold.
use Rattle.std.specs.Prelude.{◌⊎◌, ◌≡◌, ℕ, ◌+◌, ◌<◌, ◌≤◌, ◌^◌, false, true, List, length, Some, None, IsSome}
use Rattle.o2_entries.specs.Tables.{live_numbers}
use Rattle.o2_place.specs.declared.seg_id.SegId.{SegId}
use Rattle.o2_regions.specs.declared.held.Cause.TheVariants.{Called}
use Rattle.o2_regions.specs.declared.held.Held.{Held}
use Rattle.o2_regions.specs.Maps.{IsProcess, Maps, held_at, is_reserved, region_of}
use Rattle.o2_store.specs.Shelf.{Shelf, entry, entry_of, place_of}
use Rattle.o2_world.specs.Changes.{Change, with_changes}
use Rattle.o2_world.specs.Holders.{process_at}
use Rattle.o2_world.specs.World.{Process, World}
use Rattle.o2_changes.specs.Frames.{KeepsOrder}
use Rattle.o2_changes.specs.Holding.{KeepsHolds}
use Rattle.o2_changes.specs.Order.{IsInOrder}
use Rattle.o2_stands.specs.Parts.{Parts}
use Rattle.o2_stands.specs.Stands.{Matches}
use Rattle.o2_segs.specs.Limits.{KeepsEntries}
use Rattle.o2_segs.specs.Sharing.{AreHeldAtMost}

-- a segment as a process holds it in a run: so many indexes from the first one on are reserved for it
abbrev pub member_of : SegId → (first count holds : ℕ) → Held
member_of id first count holds = record { id = id; holds = holds; cause = Called; first = first; reserved = count }

-- a process holds nothing at an index, which is reserved
pub record IsOpenAt (m : Maps) (pid i : ℕ) : Type 0 where
  pub reserved : is_reserved m (region_of pid i) i ≡ true
  pub free : held_at m pid i ≡ None

-- nor at any of so many indexes from one on
abbrev pub AreOpen : Maps → (pid from count : ℕ) → Type 0
AreOpen m pid from count = (i : ℕ) → from ≤ i → i < from + count → IsOpenAt m pid i

-- store and tables match a world with these changes, where they matched it without them
pub record MatchesWith (s t : Shelf) (m n : Maps) (pid : ℕ) (cs : List Change) : Type 0 where
  pub world : (p : Parts) (w : World) (x : Process) → p.shelf ≡ s → p.maps ≡ m → process_at w.processes pid ≡ Some x
      → Matches p w → Matches (record p { shelf = t; maps = n }) (with_changes w cs)

-- what wasn't held is held at most so often
abbrev pub KeepsFew : (m n : Maps) (holds : ℕ) → Type 0
KeepsFew m n holds = (k : ℕ) → holds ≤ k → AreHeldAtMost m k → AreHeldAtMost n k

-- There are so many segments more, out of memory, each held so often at most; whoever held something holds it still, and what held of
-- store and tables goes on to hold.
pub record Grows (s t : Shelf) (m n : Maps) (count times : ℕ) : Type 0 where
  pub size : t.places.size ≡ s.places.size
  pub most : length t.entries ≡ length s.entries
  pub made : t.made ≡ s.made + count
  pub live : length (live_numbers 0 t.entries) ≡ length (live_numbers 0 s.entries) + count
  pub lived : (id : SegId) → id.age < s.made → IsSome (entry_of t id) → IsSome (entry_of s id)
  pub holds : KeepsHolds m n
  pub few : KeepsFew m n times
  pub entries : KeepsEntries s t
  pub kept : (k : ℕ) → IsSome (place_of s k) → IsSome (place_of t k)
  pub goes_on : KeepsOrder s m t n

-- all that is held and wasn't is one segment at one index
pub record Brings (m n : Maps) (i : ℕ) (id : SegId) : Type 0 where
  pub each : (q j : ℕ) (h : Held) → held_at n q j ≡ Some h → ((j ≡ i) × (h.id ≡ id)) ⊎ (held_at m q j ≡ Some h)

-- A process may make so many segments, over a store and tables that agree: there are ages for them, and as many more may live.
pub record MayMake (s : Shelf) (m : Maps) (pid count : ℕ) : Type 0 where
  pub process : IsProcess m pid
  pub order : IsInOrder s m
  pub made : s.made + count < 2 ^ 64
  pub room : length (live_numbers 0 s.entries) + count ≤ length s.entries

-- A segment is new and isn't clean, and all that is held and wasn't is it, at one index.
pub record IsNew (s t : Shelf) (m n : Maps) (i : ℕ) (id : SegId) : Type 0 where
  pub live : IsSome (entry_of t id)
  pub age : id.age ≡ s.made
  pub plain : (entry t id.key).attr.clean ≡ false
  pub brings : Brings m n i id

-- All processes may hold a segment at an index that they share, as data that can be written, over a store and tables that agree.
pub record MayShare (s : Shelf) (m : Maps) (i : ℕ) (id : SegId) : Type 0 where
  pub index : i < 8192
  pub high : 4096 ≤ i
  pub live : IsSome (entry_of s id)
  pub plain : (entry s id.key).attr.clean ≡ false
  pub order : IsInOrder s m
