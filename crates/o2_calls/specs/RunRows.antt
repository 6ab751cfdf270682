-- What a call on a huge allocation comes to in a world for which the machine stands.
use Rattle.std.specs.Prelude.{◌⊎◌, ◌≡◌, ℕ, Bool, IsTrue, List, Some}
use Rattle.o2_isa.specs.declared.cpu.Cpu.{Cpu}
use Rattle.o2_place.specs.declared.seg_id.SegId.{SegId}
use Rattle.o2_regions.specs.declared.answer.Roomed.{Roomed}
use Rattle.o2_regions.specs.Maps.{Maps}
use Rattle.o2_store.specs.Idle.{NoneTaken}
use Rattle.o2_store.specs.Shelf.{Shelf}
use Rattle.o2_world.specs.Changes.{with_all}
use Rattle.o2_world.specs.Holders.{process_at}
use Rattle.o2_world.specs.Known.{known_of}
use Rattle.o2_world.specs.World.{Process, Setting, World}
use Rattle.o2_stands.specs.Moves.{moved}
use Rattle.o2_stands.specs.Parts.{Parts}
use Rattle.o2_stands.specs.Stands.{Matches}
use Rattle.o2_segs.specs.Answers.{AnswersRoomed, changes_roomed}
use Rattle.o2_gate.specs.declared.requests.SegmentArguments.TheVariants.{Huge}
use Rattle.o2_gate.specs.declared.requests.HugeArguments.{HugeArguments}
use Rattle.o2_calls.specs.HugeActs.{huge_behind, huge_ruling}
use Rattle.o2_calls.specs.Stops.{LacksRun, LacksRunMemory, LeavesRunHolds}

-- The call is its row: what it answers is the row's error and value, the registers are those behind it, and the machine matches the world
-- with its changes, where each read of the device gave what was written last. What it leaves of holds, why it stops, and why it may
-- touch the device, is said by the world.
pub record IsRunRow (a : HugeArguments) (p : Parts) (setting : Setting) (w : World) (pid : ℕ) (s t : Shelf) (m n : Maps) (keep : List SegId) (told : Bool) (after : ℕ → List ℕ) (c d : Cpu) (r : Roomed) (idles : Type 0) : Type 0 where
  pub answer : AnswersRoomed (huge_ruling a (known_of setting w) pid c) r
  pub registers : d ≡ huge_behind a (known_of setting w) pid c r
  pub world : (x : Process) → IsTrue told → process_at w.processes pid ≡ Some x
      → Matches (moved p t n after) (with_all w (changes_roomed (huge_ruling a (known_of setting w) pid c) r))
  pub holds : LeavesRunHolds (Huge a) m n (known_of setting w) pid c
  pub lacks : LacksRun (Huge a) s (known_of setting w) pid c keep r
  pub short : NoneTaken s.swap → idles ⊎ LacksRunMemory (Huge a) s (known_of setting w) pid c
