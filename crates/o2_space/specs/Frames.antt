-- What a space keeps behind a step of a process, a call or an end, whatever comes of it.
use Rattle.std.specs.Prelude.{◌≡◌, ◌+◌, ◌≤◌, ℕ, length}
use Rattle.o2_segs.specs.Sharing.{AreHeldAtMost}
use Rattle.o2_swapmap.specs.Piles.{all_of}
use Rattle.o2_space.specs.declared.space.Space.{Space}

-- It has as much memory, as many entries of segments and as many swap blocks as before; as many processes, and tables for as many;
-- as much free memory is told, and the images are the same.
pub record KeepsSpace (old new : Space) : Type 0 where
  pub memory : new.store.places.size ≡ old.store.places.size
  pub segments : length new.store.entries ≡ length old.store.entries
  pub blocks : all_of new.store.swap ≡ all_of old.store.swap
  pub count : length new.procs.items ≡ length old.procs.items
  pub processes : new.regions.processes ≡ old.regions.processes
  pub avail : new.services.avail ≡ old.services.avail
  pub images : new.images ≡ old.images

-- No segment is made, and nothing is held more often than before.
pub record AddsNone (old new : Space) : Type 0 where
  pub made : new.store.made ≡ old.store.made
  pub held : (k : ℕ) → AreHeldAtMost old.regions k → AreHeldAtMost new.regions k

-- At most so many segments are made, and what is held has at most so many holds more.
pub record AddsAtMost (segments holds : ℕ) (old new : Space) : Type 0 where
  pub made : new.store.made ≤ old.store.made + segments
  pub held : (k : ℕ) → 1 ≤ k → AreHeldAtMost old.regions k → AreHeldAtMost new.regions (k + holds)
