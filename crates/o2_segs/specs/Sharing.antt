-- What a call leaves of the segments that processes share.
use Rattle.std.specs.Prelude.{◌≡◌, ℕ, ◌<◌, ◌≤◌, Some, IsSome}
use Rattle.o2_place.specs.declared.seg_id.SegId.{SegId}
use Rattle.o2_regions.specs.declared.held.Cause.TheVariants.{Loaded}
use Rattle.o2_regions.specs.declared.held.Held.{Held}
use Rattle.o2_regions.specs.Maps.{Maps, held_at, holds_of}
use Rattle.o2_store.specs.Shelf.{Shelf, entry_of}

-- under a shared index all that a call gave is one segment
pub record ShareOne (m : Maps) : Type 0 where
  pub one : (p q i : ℕ) (h k : Held) → 4096 ≤ i → held_at m p i ≡ Some h → held_at m q i ≡ Some k → (h.cause ≡ Loaded → ⊥) → k.id ≡ h.id

-- nothing is held more often than so
pub record AreHeldAtMost (m : Maps) (most : ℕ) : Type 0 where
  pub each : (p i : ℕ) → holds_of (held_at m p i) ≤ most

-- A segment is held at an index, and nowhere else.
pub record IsHeldOnly (m : Maps) (index : ℕ) (id : SegId) : Type 0 where
  pub process : ℕ
  pub held : Held
  pub there : held_at m process index ≡ Some held
  pub same : held.id ≡ id
  pub only : (pid i : ℕ) (h : Held) → held_at m pid i ≡ Some h → h.id ≡ id → i ≡ index

-- somebody holds a segment at an index of his own
pub record IsHeldLow (m : Maps) (id : SegId) : Type 0 where
  pub process : ℕ
  pub index : ℕ
  pub held : Held
  pub there : held_at m process index ≡ Some held
  pub same : held.id ≡ id
  pub low : index < 4096

-- Under a shared index goes on to be one segment where it was one. What is older than so lives only where it lived, and what was held
-- at a shared index alone is held there alone as long as it lives.
pub record KeepsShares (s : Shelf) (m : Maps) (t : Shelf) (n : Maps) (older : ℕ) : Type 0 where
  pub one : ShareOne m → ShareOne n
  pub lived : (id : SegId) → id.age < older → IsSome (entry_of t id) → IsSome (entry_of s id)
  pub only : (i : ℕ) (id : SegId) → 4096 ≤ i → id.age < older → IsSome (entry_of t id) → IsHeldOnly m i id → IsHeldOnly n i id
