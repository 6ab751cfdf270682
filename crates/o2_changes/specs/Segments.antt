-- A segment that was made last, a segment's lock count, and its mark.
use Rattle.std.specs.Prelude.{◌≡◌, ◌≢◌, ℕ, ◌+◌, ◌<◌, List, length, IsSome, false}
use Rattle.o2_entries.specs.Tables.{slot_at}
use Rattle.o2_place.specs.declared.seg_id.SegId.{SegId}
use Rattle.o2_store.specs.Shelf.{Shelf, Pictures, byte_at, entry}
use Rattle.std.specs.Prelude.{Some}

-- a segment was made last: it has the last age, and each other one is older
pub record IsNewest (s : Shelf) (id : SegId) : Type 0 where
  pub last : s.made ≡ id.age + 1
  pub older : (k : ℕ) → k ≢ id.key → IsSome (slot_at s.entries k) → (entry s k).age < id.age

-- a segment is discarded no more, and all else stays
pub record Revives (old new : Shelf) (id : SegId) : Type 0 where
  pub shelf : new ≡ record old { turns = new.turns; entries = new.entries }
  pub count : length new.entries ≡ length old.entries
  pub here : slot_at new.entries id.key ≡ Some (record (entry old id.key) { attr = record (entry old id.key).attr { gone = false } })
  pub others : (k : ℕ) → k ≢ id.key → slot_at new.entries k ≡ slot_at old.entries k
  pub bytes : (pic : Pictures) (block : ℕ → List ℕ) (k j : ℕ) → byte_at new pic block k j ≡ byte_at old pic block k j

-- a segment is locked so often, and all else stays
pub record SetsLock (old new : Shelf) (id : SegId) (lock : ℕ) : Type 0 where
  pub shelf : new ≡ record old { turns = new.turns; entries = new.entries }
  pub count : length new.entries ≡ length old.entries
  pub here : slot_at new.entries id.key ≡ Some (record (entry old id.key) { attr = record (entry old id.key).attr { lock = lock } })
  pub others : (k : ℕ) → k ≢ id.key → slot_at new.entries k ≡ slot_at old.entries k
  pub bytes : (pic : Pictures) (block : ℕ → List ℕ) (k j : ℕ) → byte_at new pic block k j ≡ byte_at old pic block k j
