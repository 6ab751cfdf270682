-- What a call by which processes share segments comes to in the world that a machine stands for.
use Rattle.std.specs.Prelude.{◌≡◌, ℕ, Bool, List, Option, Some, length}
use Rattle.o2_regions.specs.declared.answer.Answer.{Answer}
use Rattle.o2_regions.specs.Maps.{Maps}
use Rattle.o2_store.specs.Shelf.{Shelf}
use Rattle.o2_world.specs.Changes.{with_all}
use Rattle.o2_world.specs.Holders.{process_at}
use Rattle.o2_world.specs.Known.{Known, text_name}
use Rattle.o2_world.specs.Rulings.{Ruling}
use Rattle.o2_world.specs.World.{Process, World}
use Rattle.o2_gate.specs.declared.requests.SegmentArguments.{SegmentArguments}
use Rattle.o2_gate.specs.declared.requests.SegmentArguments.TheVariants.{Alloc, Realloc, Free, Size, Lock, Unlock, Alias, Shared, Huge}
use Rattle.o2_gate.specs.declared.requests.SharedArguments.{SharedArguments}
use Rattle.o2_gate.specs.Requests.{ruling_of}
use Rattle.o2_isa.specs.declared.cpu.Cpu.{Cpu}
use Rattle.o2_stands.specs.Parts.{Parts}
use Rattle.o2_stands.specs.Stands.{AreMarked, Matches}
use Rattle.o2_segs.specs.Answers.{Answers}
use Rattle.o2_shared.specs.declared.names.Name.{Name as NameThere}
use Rattle.o2_shared.specs.Texts.{AreOnce, AreTexts}

-- error, value and changes of the call by a process with these registers
abbrev pub shared_ruling : SharedArguments → Known → (number : ℕ) → Cpu → Ruling
shared_ruling a = ruling_of (Shared a)

-- The names that are kept are those of the world's texts, of which none stands twice; the tables are those of all its processes; and
-- those that live are marked so.
pub record Spells (s : Shelf) (m : Maps) (names : List (Option NameThere)) (ends : List Bool) (p : Parts) (w : World) : Type 0 where
  pub texts : AreTexts s names (text_name w.texts)
  pub once : AreOnce w.texts
  pub processes : length w.processes ≡ m.processes
  pub marked : AreMarked ends p

-- the same of the texts alone
pub record AreSpelled (s : Shelf) (names : List (Option NameThere)) (w : World) : Type 0 where
  pub texts : AreTexts s names (text_name w.texts)
  pub once : AreOnce w.texts

-- The call is the row of this ruling: what it answers is the row's error and value, and store, maps and names behind it match the world with
-- its changes.
pub record IsSharedRow (q : Ruling) (p : Parts) (w : World) (pid : ℕ) (t : Shelf) (n : Maps) (names : List (Option NameThere)) (r : Answer) : Type 0 where
  pub answer : Answers q r
  pub matches : (x : Process) → process_at w.processes pid ≡ Some x → Matches (record p { shelf = t; maps = n }) (with_all w q.changes)
  pub spells : AreSpelled t names (with_all w q.changes)

-- what a call leaves of the names that are kept: all of them, but for one by which processes share segments
abbrev pub LeavesSpelled : SegmentArguments → Shelf → (old new : List (Option NameThere)) → World → Type 0
LeavesSpelled (Alloc size flags) t old new w = new ≡ old
LeavesSpelled (Realloc size selector) t old new w = new ≡ old
LeavesSpelled (Free selector) t old new w = new ≡ old
LeavesSpelled (Size selector) t old new w = new ≡ old
LeavesSpelled (Lock selector) t old new w = new ≡ old
LeavesSpelled (Unlock selector) t old new w = new ≡ old
LeavesSpelled (Alias selector) t old new w = new ≡ old
LeavesSpelled (Shared a) t old new w = AreSpelled t new w
LeavesSpelled (Huge a) t old new w = new ≡ old
