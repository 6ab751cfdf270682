-- What is asked for of a place, so that its number is the owner that the lines tell.
use Rattle.std.specs.Prelude.{◌≡◌, ℕ, ◌<◌, ◌≤◌, ◌/◌, true, List, [], drop, take, None, Some, is_some}
use Rattle.o2_world.specs.Map.{get}
use Rattle.o2_world.specs.World.{World, Setting, Held}
use Rattle.o2_world.specs.Views.{bytes_in}
use Rattle.o2_world.specs.Known.{held_at}
use Rattle.o2_world.specs.SemRulings.{number_in}
use Rattle.o2_world.specs.Run.{after, ready, step}
use Rattle.o2_ramsem_laws.specs.Told.{Place, told}

-- the number that four bytes of a segment say
abbrev pub number_from : List ℕ → (offset : ℕ) → ℕ
number_from bytes offset = number_in (take 4 (drop offset bytes))

abbrev pub number_at : World → Place → ℕ
number_at w place = number_from (bytes_in w.names place.name) place.offset

-- nobody holds the selector
abbrev pub IsUnheld : World → Place → Type 0
IsUnheld w place = (q : ℕ) → held_at w.processes q (place.selector / 8) ≡ None

-- it names this one segment for all who hold it
abbrev pub NamesOne : World → Place → Type 0
NamesOne w place = (q : ℕ) (h : Held) → held_at w.processes q (place.selector / 8) ≡ Some h → h.name ≡ place.name

-- of the step from this world: the selector names one segment, that lives behind the step too, and the number stays where the step
-- puts no line of a call on the semaphore, and at a word `discard` that comes before the step
pub record IsKept (s : Setting) (w : World) (place : Place) : Type 0 where
  pub one : NamesOne w place
  pub lives : is_some (get (step s w).names place.name) ≡ true
  pub word : number_at (ready w) place ≡ number_at w place
  pub only : told place (step s w).lines ≡ told place w.lines → number_at (step s w) place ≡ number_at w place

-- From `first` steps behind a world on, up to `last` steps behind it, a place is that of a semaphore: there its selector is first held,
-- its number is 0, and then only calls on it change its bytes. No line of before the world is one of a call on it.
pub record IsSemaphore (s : Setting) (w : World) (place : Place) (first last : ℕ) : Type 0 where
  pub untold : told place w.lines ≡ []
  pub unheld : (k : ℕ) → k < first → IsUnheld (after s w k) place
  pub clear : number_at (after s w first) place ≡ 0
  pub kept : (k : ℕ) → first ≤ k → k < last → IsKept s (after s w k) place
