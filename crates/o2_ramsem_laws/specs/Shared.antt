-- The same of a selector that all processes share.
use Rattle.std.specs.Prelude.{◌≡◌, ℕ, suc, ◌<◌, ◌≤◌, ◌/◌, true, [], Some}
use Rattle.o2_world.specs.Map.{get}
use Rattle.o2_world.specs.World.{World, Setting, Segment, Held}
use Rattle.o2_world.specs.Known.{held_at}
use Rattle.o2_world.specs.Run.{after, ready}
use Rattle.o2_ramsem_laws.specs.Told.{Place, told}
use Rattle.o2_ramsem_laws.specs.Kept.{IsUnheld, number_at}

-- somebody holds the segment under the selector, and it is a shared one
pub record IsHeldShared (w : World) (place : Place) : Type 0 where
  pub holder : ℕ
  pub hold : Held
  pub held : held_at w.processes holder (place.selector / 8) ≡ Some hold
  pub named : hold.name ≡ place.name
  pub segment : Segment
  pub lives : get w.names place.name ≡ Some segment
  pub shared : segment.shared ≡ true

-- A place behind a shared selector, one from index 4096 on: from the step on behind which that is first held, for as long as somebody
-- holds the segment under it. The bytes are zero then, and only calls on the semaphore change them, and no word `discard`.
pub record IsShared (s : Setting) (w : World) (place : Place) (first last : ℕ) : Type 0 where
  pub high : 4096 ≤ place.selector / 8
  pub untold : told place w.lines ≡ []
  pub unheld : (k : ℕ) → k < first → IsUnheld (after s w k) place
  pub clear : number_at (after s w first) place ≡ 0
  pub there : (k : ℕ) → first ≤ k → k ≤ last → IsHeldShared (after s w k) place
  pub word : (k : ℕ) → first ≤ k → k < last → number_at (ready (after s w k)) place ≡ number_at (after s w k) place
  pub only : (k : ℕ) → first ≤ k → k < last
      → told place (after s w (suc k)).lines ≡ told place (after s w k).lines → number_at (after s w (suc k)) place ≡ number_at (after s w k) place
