-- When a process keeps to itself, with one premise less: of its calls of DosReallocHuge nothing is asked.
use Rattle.std.specs.Prelude.{◌≡◌, ℕ, ◌<◌, ◌==◌, ◌&&◌, Bool, false, not, List, Option, Some, None, Ok}
use Rattle.o2_world.specs.World.{World, Setting, Held}
use Rattle.o2_world.specs.Known.{held_at}
use Rattle.o2_world.specs.CallParts.{Before}
use Rattle.o2_world.specs.Run.{after, words_coming}
use Rattle.o2_world.specs.Starts.{Start}
use Rattle.o2_alone.specs.Events.{next_before, own_steps}
use Rattle.o2_alone.specs.Renaming.{call_of, is_shared_run}
use Rattle.o2_alone.specs.Alone.{opening_alone}
use Rattle.o2_alone.specs.Isolation.{IsIsolated}
use Rattle.o2_alone.specs.Keeping.{HasRoom, IsApart, IsUngiven, meets}

-- the number of its service
abbrev pub dos_realloc_huge : ℕ
dos_realloc_huge = 17

-- a call other than DosReallocHuge that tells of other processes, or that they can tell
abbrev pub meets_others : Before → Option ℕ → Bool
meets_others b None = false
meets_others b (Some service) = not (service == dos_realloc_huge) && meets b (Some service)

-- where the next step is its own, it makes no such call
abbrev pub MeetsNobody : Setting → World → (number : ℕ) → Type 0
MeetsNobody s w number = (b : Before) → next_before s w ≡ Some b → b.number ≡ number → meets_others b (call_of b) ≡ false

-- As KeepsToItself of o2_alone, over the first k steps of the run that begins in w, and over as many steps of its run alone as it
-- does itself there.
pub record StaysApart (s : Setting) (w alone : World) (number k : ℕ) : Type 0 where
  -- no word `discard` comes before a step
  pub wordless : (j : ℕ) → j < k → words_coming (after s w j) ≡ 0
  -- before each step, whosever it is
  pub apart : (j : ℕ) → j < k → IsApart (after s w j) number
  pub ungiven : (j : ℕ) → j < k → IsUngiven s (after s w j) number
  pub strange : (j : ℕ) → j < k → MeetsNobody s (after s w j) number
  pub room : (j : ℕ) → j < k → HasRoom s (after s w j) number
  pub room_alone : (j : ℕ) → j < own_steps s w number k → HasRoom s (after s alone j) number

-- the process holds no run of the region that all share
abbrev pub HoldsNoSharedRun : World → (number : ℕ) → Type 0
HoldsNoSharedRun w number = (i : ℕ) (h : Held) → held_at w.processes number i ≡ Some h → is_shared_run h ≡ false

-- From w on a process that starts so has a run alone, which is its run among others for as long as it stays apart.
pub record IsStranger (s : Setting) (reserved : List (ℕ × ℕ)) (input : List ℕ) (number : ℕ) (start : Start) (w : World) : Type 0 where
  -- the world before the first step of its run alone
  pub alone : World
  pub begins : opening_alone s reserved input number start ≡ Ok alone
  pub isolated : (k : ℕ) → StaysApart s w alone number k → IsIsolated s w alone number k
