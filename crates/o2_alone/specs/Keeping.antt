-- When a process keeps to itself: neither does it come to what other processes have, nor they to what it has.
use Rattle.std.specs.Prelude.{◌≡◌, ◌≢◌, ◌⊎◌, ℕ, ◌<◌, Bool, true, false, Option, Some, None, ◌||◌}
use Rattle.std.specs.List.{list_any}
use Rattle.o2_world.specs.Map.{get}
use Rattle.o2_world.specs.World.{World, Setting, Segment, Held}
use Rattle.o2_world.specs.Known.{Known, held_at}
use Rattle.o2_world.specs.CallParts.{Before, argument}
use Rattle.o2_world.specs.Effect.{effect}
use Rattle.o2_world.specs.Run.{after, words_coming}
use Rattle.o2_world.specs.Giving.{gives}
use Rattle.o2_alone.specs.Events.{next_before, own_steps}
use Rattle.o2_alone.specs.Renaming.{Asking, asked, asking_of, call_of, is_full_for}

-- What it holds.

abbrev pub is_clean : Option Segment → Bool
is_clean None = false
is_clean (Some s) = s.clean

-- no other process holds this name
abbrev pub IsOfNoOther : World → (number name : ℕ) → Type 0
IsOfNoOther w number name = (other i : ℕ) (h : Held) → other ≢ number → held_at w.processes other i ≡ Some h → h.name ≢ name

-- each segment that the process holds never changes, or no other process holds it
abbrev pub IsApart : World → (number : ℕ) → Type 0
IsApart w number = (i : ℕ) (h : Held) → held_at w.processes number i ≡ Some h → (is_clean (get w.names h.name) ≡ true) ⊎ IsOfNoOther w number h.name

-- What it is given.

-- the next step is its own, or gives it nothing
abbrev pub IsUngiven : Setting → World → (number : ℕ) → Type 0
IsUngiven s w number = (b : Before) → next_before s w ≡ Some b → b.number ≢ number → list_any (gives number) (effect b).changes ≡ false

-- What it calls.

-- a call that tells of other processes, or that they can tell: of the input that all read, of what they hold, or of the region that
-- all share, which a segment for others (flags 1 and 2) has a selector of
abbrev pub meets_by : Asking → Before → (ℕ → ℕ) → Bool
meets_by asking b a = asking.input || (asking.others b a || asking.region a)

abbrev pub meets : Before → Option ℕ → Bool
meets b None = false
meets b (Some service) = meets_by (asking_of service) b (argument b.view b.cpu)

-- where the next step is its own, it makes no such call
abbrev pub IsQuiet : Setting → World → (number : ℕ) → Type 0
IsQuiet s w number = (b : Before) → next_before s w ≡ Some b → b.number ≡ number → meets b (call_of b) ≡ false

-- a call is answered 8, as so many more segments may not live
abbrev pub lacks : Known → Option ℕ → Bool
lacks k None = false
lacks k (Some n) = is_full_for n k

abbrev pub lacks_room : Before → Option ℕ → Bool
lacks_room b None = false
lacks_room b (Some service) = lacks b.known (asked b service)

-- where the next step is its own, no call is answered so
abbrev pub HasRoom : Setting → World → (number : ℕ) → Type 0
HasRoom s w number = (b : Before) → next_before s w ≡ Some b → b.number ≡ number → lacks_room b (call_of b) ≡ false

-- Over the first k steps of the run that begins in w, and over as many steps of its run alone as it does itself there.
pub record KeepsToItself (s : Setting) (w alone : World) (number k : ℕ) : Type 0 where
  -- no word `discard` comes before a step: at a word what goes depends on the registers of all
  pub wordless : (j : ℕ) → j < k → words_coming (after s w j) ≡ 0
  -- before each step, whosever it is
  pub apart : (j : ℕ) → j < k → IsApart (after s w j) number
  pub ungiven : (j : ℕ) → j < k → IsUngiven s (after s w j) number
  pub quiet : (j : ℕ) → j < k → IsQuiet s (after s w j) number
  pub room : (j : ℕ) → j < k → HasRoom s (after s w j) number
  pub room_alone : (j : ℕ) → j < own_steps s w number k → HasRoom s (after s alone j) number
