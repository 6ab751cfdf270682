-- What a call may change beside bytes and registers, by its shape.
use Rattle.std.specs.Prelude.{◌⊎◌, ◌≡◌, ◌≢◌, ℕ, ◌<◌, ◌≤◌, true, false, List, [], ◌∷◌, ◌++◌, map, if◌then◌else◌, Option, Some, None, is_some}
use Rattle.o2_isa.specs.declared.cpu.Cpu.{Cpu}
use Rattle.o2_world.specs.Map.{get}
use Rattle.o2_world.specs.World.{Held, Process}
use Rattle.o2_world.specs.Changes.{Change, Makes, Resizes, Locks, Marks, Holds, Drops, Finishes, Reserves, Frees, Names}
use Rattle.o2_world.specs.Known.{Known, Marks as SegmentMarks}
use Rattle.o2_world.specs.CallParts.{Before}
use Rattle.o2_world.specs.Rulings.{by_load, full_size, held_as_code, held_by_call, in_use, is_gone, is_in_run, made_segment, members}
use Rattle.o2_world.specs.SharedRulings.{each_more, shared_segment}
use Rattle.o2_world.specs.HugeRulings.{dropped_members, huge_allocation, huge_reallocation, is_unheld, names_one, new_members, resized_members, run_reserve}

-- an index that is neither held nor reserved: below 4096 of the process's own region, from there on of the one that all share
pub record IsFreeIndex (k : Known) (number i : ℕ) : Type 0 where
  pub own : i < 4096 → k.taken number i ≡ false
  pub shared : 4096 ≤ i → k.taken 0 i ≡ false

abbrev pub Each : (ℕ → Type 0) → List ℕ → Type 0
Each P [] = Unit {0}
Each P (i ∷ is) = P i × Each P is

-- no index stands twice
abbrev pub AreApart : List ℕ → Type 0
AreApart [] = Unit {0}
AreApart (i ∷ is) = Each (λ (j : ℕ). i ≢ j) is × AreApart is

-- all that a process holds under one index: this index, or the members of its run
pub record AreMembers (k : Known) (process : ℕ) (is : List ℕ) : Type 0 where
  pub index : ℕ
  pub held : Held
  pub there : k.held process index ≡ Some held
  pub are : is ≡ members k process index held

-- a process holds a segment outside runs
pub record IsHeldAlone (k : Known) (process name : ℕ) : Type 0 where
  pub index : ℕ
  pub held : Held
  pub there : k.held process index ≡ Some held
  pub named : held.name ≡ name
  pub alone : is_in_run held ≡ false

-- a segment that isn't discarded, or is locked
pub record IsLockable (k : Known) (name : ℕ) : Type 0 where
  pub marks : SegmentMarks
  pub segment : k.segment name ≡ Some marks
  pub kept : (marks.discarded ≡ false) ⊎ (0 < marks.lock)

-- one hold goes of each of these indexes: all are held, none is that of CS or SS, and DS and ES are 0 where they named one that
-- isn't held any more
pub record IsFreeing (b : Before) (cpu : Cpu) (is : List ℕ) : Type 0 where
  pub members : AreMembers b.known b.number is
  pub apart : AreApart is
  pub held : Each (λ (i : ℕ). is_some (b.known.held b.number i) ≡ true) is
  pub unused : in_use b.cpu is ≡ false
  pub cs : cpu.cs ≡ b.cpu.cs
  pub ss : cpu.ss ≡ b.cpu.ss
  pub ds : cpu.ds ≡ (if is_gone b.known b.number is b.cpu.ds then 0 else b.cpu.ds)
  pub es : cpu.es ≡ (if is_gone b.known b.number is b.cpu.es then 0 else b.cpu.es)

-- the changes of a step that are its process's own, and its registers behind it
pub data Moves (b : Before) (cpu : Cpu) (changes : List Change) : Type 0 where
  NoneMoves : changes ≡ [] → Moves b cpu changes
  -- a new segment, held at a free index
  OneMade : (size flags i : ℕ) → IsFreeIndex b.known b.number i
      → changes ≡ Makes (made_segment size flags) ∷ Holds b.number i (held_by_call b.known.next) ∷ [] → Moves b cpu changes
  OneSized : (name size : ℕ) → IsHeldAlone b.known b.number name → changes ≡ Resizes name (full_size size) ∷ [] → Moves b cpu changes
  -- a discarded segment is made anew, locked once
  OneRemade : (name size : ℕ) → IsHeldAlone b.known b.number name → changes ≡ Marks name false ∷ Resizes name (full_size size) ∷ Locks name 1 ∷ []
      → Moves b cpu changes
  OneLocked : (name count : ℕ) → IsLockable b.known name → changes ≡ Locks name count ∷ [] → Moves b cpu changes
  -- a segment that is held, held at a free index too
  OneAliased : (index i : ℕ) (held : Held) → b.known.held b.number index ≡ Some held → is_in_run held ≡ false → IsFreeIndex b.known b.number i
      → changes ≡ Holds b.number i (held_as_code held.name) ∷ [] → Moves b cpu changes
  SomeFreed : (is : List ℕ) → IsFreeing b cpu is → changes ≡ map (λ (i : ℕ). Drops b.number i 1) is → Moves b cpu changes

-- a process holds a segment that is shared, under a shared index, and that didn't come with a module
pub record IsShared (k : Known) (process index : ℕ) : Type 0 where
  pub held : Held
  pub there : k.held process index ≡ Some held
  pub high : 4096 ≤ index
  pub called : by_load held.cause ≡ false
  pub marks : SegmentMarks
  pub segment : k.segment held.name ≡ Some marks
  pub shared : marks.shared ≡ true

-- what a process holds at an index is the segment of a text
pub record IsOfText (k : Known) (process : ℕ) (is : List ℕ) : Type 0 where
  pub index : ℕ
  pub held : Held
  pub there : k.held process index ≡ Some held
  pub text : List ℕ
  pub named : k.text text ≡ Some held.name
  pub are : is ≡ index ∷ []

-- a process gets what another holds under these indexes: all that this holds under one of them, or the segment of a text; all of it
-- is shared, and it is the caller, or lives
pub record IsSharing (b : Before) (from to : ℕ) (is : List ℕ) : Type 0 where
  pub whole : AreMembers b.known from is ⊎ IsOfText b.known from is
  pub shared : Each (IsShared b.known from) is
  pub lives : (to ≡ b.number) ⊎ (b.known.lives to ≡ true)

-- Runs of indexes. A process that is to hold new members of one: the caller, once, where it makes the run; or as often as it holds
-- a member already.
pub data IsHolder (b : Before) (p : ℕ × ℕ) : Type 0 where
  Maker : p.0 ≡ b.number → p.1 ≡ 1 → IsHolder b p
  Sharer : (index : ℕ) (held : Held) → b.known.held p.0 index ≡ Some held → p.1 ≡ held.holds → IsHolder b p

abbrev pub AreHolders : Before → List (ℕ × ℕ) → Type 0
AreHolders b [] = Unit {0}
AreHolders b (p ∷ ps) = IsHolder b p × AreHolders b ps

-- nobody who could hold the index holds it: it is free, or so it is found
abbrev pub IsOpen : Before → ℕ → Type 0
IsOpen b i = IsFreeIndex b.known b.number i ⊎ (is_unheld b.known b.number i ≡ true)

-- new members of a run, which is held by its caller and by others
pub record IsGrowth (b : Before) (holds : ℕ) (others : List (ℕ × ℕ)) (is : List ℕ) : Type 0 where
  pub holders : AreHolders b ((b.number, holds) ∷ others)
  pub apart : AreApart is
  pub free : Each (IsOpen b) is

-- members of a run that go with all holds of the caller
pub record IsCut (b : Before) (cpu : Cpu) (is : List ℕ) : Type 0 where
  pub apart : AreApart is
  pub held : Each (λ (i : ℕ). is_some (b.known.held b.number i) ≡ true) is
  pub unused : in_use b.cpu is ≡ false
  pub cs : cpu.cs ≡ b.cpu.cs
  pub ss : cpu.ss ≡ b.cpu.ss
  pub ds : cpu.ds ≡ (if names_one b.cpu.ds is then 0 else b.cpu.ds)
  pub es : cpu.es ≡ (if names_one b.cpu.es is then 0 else b.cpu.es)

-- the changes of a call on a huge allocation, and its registers behind it
pub data RunMoves (b : Before) (cpu : Cpu) (changes : List Change) : Type 0 where
  NoRun : changes ≡ [] → RunMoves b cpu changes
  -- a new run, of one member at least
  RunMade : (region first count flags i z : ℕ) (is zs : List ℕ) → (region ≡ b.number) ⊎ (region ≡ 0) → 0 < count → IsGrowth b 1 [] (i ∷ is)
      → changes ≡ new_members b.known.next first count flags ((b.number, 1) ∷ []) (i ∷ is) (z ∷ zs) ++ Reserves (run_reserve region first count) ∷ []
      → RunMoves b cpu changes
  -- members of a run get other sizes, new ones come, and others go
  RunSized : (first count flags holds : ℕ) (others : List (ℕ × ℕ)) (kept sizes is zs gone : List ℕ) → IsGrowth b holds others is → IsCut b cpu gone
      → changes ≡ resized_members b.known b.number kept sizes ++ (new_members b.known.next first count flags ((b.number, holds) ∷ others) is zs ++ dropped_members b.known b.number gone)
      → RunMoves b cpu changes

-- they are those of a ruling
pub data AreOfRuling (b : Before) (changes : List Change) : Type 0 where
  OfNone : changes ≡ [] → AreOfRuling b changes
  OfAllocation : (segs part most flags : ℕ) → changes ≡ (huge_allocation b.known b.number segs part most flags).changes → AreOfRuling b changes
  OfReallocation : (segs part selector : ℕ) → changes ≡ (huge_reallocation b.known b.number segs part selector b.cpu).changes → AreOfRuling b changes

-- all changes of a step, those of other processes too, and its registers behind it
pub data AllMoves (b : Before) (cpu : Cpu) (changes : List Change) : Type 0 where
  OwnMoves : Moves b cpu changes → AllMoves b cpu changes
  -- a new segment with a name, held at a free index
  OneNamed : (size i : ℕ) (name : List ℕ) → IsFreeIndex b.known b.number i
      → changes ≡ Makes (shared_segment size) ∷ Holds b.number i (held_by_call b.known.next) ∷ Names name b.known.next ∷ [] → AllMoves b cpu changes
  -- one hold more of each of some shared segments, for a process that may be another one
  SomeShared : (from to : ℕ) (is : List ℕ) → IsSharing b from to is → changes ≡ each_more b.known from to is → AllMoves b cpu changes
  -- those of a run
  OneRun : RunMoves b cpu changes → AreOfRuling b changes → AllMoves b cpu changes

-- a change of no process but this one, and of no reserved index
abbrev pub IsOwn : ℕ → Change → Type 0
IsOwn n (Makes s) = Unit {0}
IsOwn n (Resizes name size) = Unit {0}
IsOwn n (Locks name count) = Unit {0}
IsOwn n (Marks name discarded) = Unit {0}
IsOwn n (Holds p i h) = p ≡ n
IsOwn n (Drops p i count) = p ≡ n
IsOwn n (Finishes p state) = p ≡ n
IsOwn n (Reserves r) = ⊥
IsOwn n (Frees region first) = ⊥
IsOwn n (Names text name) = Unit {0}

abbrev pub AreOwn : ℕ → List Change → Type 0
AreOwn n [] = Unit {0}
AreOwn n (c ∷ cs) = IsOwn n c × AreOwn n cs

-- a change that takes nothing from any process but this one
abbrev pub Spares : ℕ → Change → Type 0
Spares n (Makes s) = Unit {0}
Spares n (Resizes name size) = Unit {0}
Spares n (Locks name count) = Unit {0}
Spares n (Marks name discarded) = Unit {0}
Spares n (Holds p i h) = Unit {0}
Spares n (Drops p i count) = p ≡ n
Spares n (Finishes p state) = p ≡ n
Spares n (Reserves r) = Unit {0}
Spares n (Frees region first) = ⊥
Spares n (Names text name) = Unit {0}

abbrev pub AllSpare : ℕ → List Change → Type 0
AllSpare n [] = Unit {0}
AllSpare n (c ∷ cs) = Spares n c × AllSpare n cs

-- what is held goes on to be held as it is, as often at least
pub record IsAtLeast (old new : Held) : Type 0 where
  pub name : new.name ≡ old.name
  pub rights : new.rights ≡ old.rights
  pub cause : new.cause ≡ old.cause
  pub first : new.first ≡ old.first
  pub reserved : new.reserved ≡ old.reserved
  pub holds : old.holds ≤ new.holds

-- what a process holds it goes on to hold
pub record GoesOnHolding (old new : Option Held) : Type 0 where
  pub goes_on : (h : Held) → old ≡ Some h → (k : Held) × (new ≡ Some k) × IsAtLeast h k

-- a process is as it was, but that it may hold more
pub record IsSpared (old new : Process) : Type 0 where
  pub all_else : new ≡ record old { held = new.held }
  pub held : (i : ℕ) → GoesOnHolding (get old.held i) (get new.held i)

abbrev pub AreSpared : Option Process → Option Process → Type 0
AreSpared None None = Unit {0}
AreSpared (Some old) (Some new) = IsSpared old new
AreSpared None (Some new) = ⊥
AreSpared (Some old) None = ⊥
