-- What holds of every world of a run, between the changes of a step too; and of each change, when it keeps that.
use Rattle.std.specs.Prelude.{◌⊎◌, ◌≡◌, ◌≢◌, ℕ, ◌<◌, ◌≤◌, ◌/◌, ◌==◌, Bool, true, false, List, [], ◌∷◌, length, replicate, Option, Some, None, is_some, slice_get}
use Rattle.o2_isa.specs.declared.cpu.Cpu.{Cpu}
use Rattle.o2_isa.specs.View.{is_null, is_writable}
use Rattle.o2_world.specs.Map.{Map, get}
use Rattle.o2_world.specs.World.{World, Process, Segment, Held, Reserve, ByLoad, is_live}
use Rattle.o2_world.specs.Holders.{is_held, process_at}
use Rattle.o2_world.specs.Sound.{held_in, HasGoodRegisters}
use Rattle.o2_world.specs.Discards.{MayBeDiscarded}
use Rattle.o2_world.specs.Changes.{Change, Makes, Resizes, Locks, Marks, Holds, Drops, Finishes, Reserves, Frees, Names, is_used, with_change}

abbrev pub lives_in : World → ℕ → Bool
lives_in w q = is_some (get w.names q)

abbrev pub HasSize : Segment → Type 0
HasSize s = (0 < length s.bytes) × (length s.bytes ≤ 65536)

-- a library's data that each process has for itself: held by load, not clean and not shared
pub record IsOwnData (names : Map Segment) (h : Held) : Type 0 where
  pub cause : h.cause ≡ ByLoad
  pub own : (s : Segment) → get names h.name ≡ Some s → (s.clean ≡ false) × (s.shared ≡ false)

-- what is held under a shared index is one name, but for a library's data that each process has for itself
abbrev pub AreOne : Map Segment → Held → Held → Type 0
AreOne names h k = (h.name ≡ k.name) ⊎ (IsOwnData names h × IsOwnData names k)

-- a segment lives that was made without flags
abbrev pub has_no_flags : Option Segment → Bool
has_no_flags None = false
has_no_flags (Some s) = s.flags == 0

-- each text is that of a live name, made without flags, those that lie behind others too
abbrev pub AreLive : Map Segment → List (List ℕ × ℕ) → Type 0
AreLive names [] = Unit {0}
AreLive names (t ∷ ts) = (has_no_flags (get names t.1) ≡ true) × AreLive names ts

pub record IsTied (w : World) : Type 0 where
  -- what is held is the name of a live segment, and held at least once
  pub held : (place i : ℕ) (h : Held) → held_in w.processes place i ≡ Some h → (lives_in w h.name ≡ true) × (0 < h.holds)
  -- the next name is above every name
  pub below : (q : ℕ) → lives_in w q ≡ true → q < w.next_name
  pub sized : (q : ℕ) (s : Segment) → get w.names q ≡ Some s → HasSize s
  -- nobody may write what is clean
  pub clean : (place i : ℕ) (h : Held) (s : Segment) → held_in w.processes place i ≡ Some h → get w.names h.name ≡ Some s
      → s.clean ≡ true → is_writable h.rights ≡ false
  pub one : (place other i : ℕ) (h k : Held) → 4096 ≤ i → held_in w.processes place i ≡ Some h
      → held_in w.processes other i ≡ Some k → AreOne w.names h k
  -- texts are those of live names without flags
  pub texts : AreLive w.names w.texts
  -- a process that has ended holds nothing, and the registers of one that lives name what it holds
  pub ended : (place : ℕ) (p : Process) → slice_get w.processes place ≡ Some p → is_live p.state ≡ false → p.held ≡ []
  pub registers : (place : ℕ) (p : Process) → slice_get w.processes place ≡ Some p → is_live p.state ≡ true → HasGoodRegisters p

-- each run of indexes that is reserved is held by somebody, or stays
abbrev pub AreUsed : List Process → List Reserve → Type 0
AreUsed ps [] = Unit {0}
AreUsed ps (r ∷ rs) = (is_used ps r ≡ true) × AreUsed ps rs

-- What holds behind each step, where what nobody holds is gone: each live name is held, and each reserved run.
pub record IsSwept (w : World) : Type 0 where
  pub named : (q : ℕ) → lives_in w q ≡ true → is_held w.processes q ≡ true
  pub used : AreUsed w.processes w.reserved

-- A discarded segment is one that may be, and its bytes are zeros.
pub record IsDiscarded (ps : List Process) (q : ℕ) (s : Segment) : Type 0 where
  pub may_be : MayBeDiscarded ps q s
  pub zeros : s.bytes ≡ replicate (length s.bytes) 0

pub record KeepsDiscarded (ps : List Process) (names : Map Segment) : Type 0 where
  pub each : (q : ℕ) (s : Segment) → get names q ≡ Some s → s.discarded ≡ true → IsDiscarded ps q s

pub record IsSound (w : World) : Type 0 where
  pub tied : IsTied w
  pub swept : IsSwept w
  pub discarded : KeepsDiscarded w.processes w.names

-- no register names the index
pub record IsUnnamed (c : Cpu) (i : ℕ) : Type 0 where
  pub cs : c.cs / 8 ≢ i
  pub ss : c.ss / 8 ≢ i
  pub ds : (is_null c.ds ≡ true) ⊎ (c.ds / 8 ≢ i)
  pub es : (is_null c.es ≡ true) ⊎ (c.es / 8 ≢ i)

pub record IsFitHold (w : World) (p i : ℕ) (h : Held) : Type 0 where
  pub lives : lives_in w h.name ≡ true
  pub some : 0 < h.holds
  pub clean : (s : Segment) → get w.names h.name ≡ Some s → s.clean ≡ true → is_writable h.rights ≡ false
  pub goes_on : (x : Process) → process_at w.processes p ≡ Some x → is_live x.state ≡ true
  pub one : (place : ℕ) (k : Held) → 4096 ≤ i → held_in w.processes place i ≡ Some k → AreOne w.names h k

-- some holds are left, or no register of the process, where it lives, names the index
abbrev pub IsFitDrop : World → (p i count : ℕ) → Type 0
IsFitDrop w p i count = (x : Process) → process_at w.processes p ≡ Some x → is_live x.state ≡ true → ((h : Held) → get x.held i ≡ Some h → count < h.holds) ⊎ IsUnnamed x.cpu i

-- the change keeps a world tied
abbrev pub IsFitChange : World → Change → Type 0
IsFitChange w (Makes s) = HasSize s
IsFitChange w (Resizes n size) = (0 < size) × (size ≤ 65536)
IsFitChange w (Locks n count) = Unit {0}
IsFitChange w (Marks n discarded) = Unit {0}
IsFitChange w (Holds p i h) = IsFitHold w p i h
IsFitChange w (Drops p i count) = IsFitDrop w p i count
IsFitChange w (Finishes p state) = is_live state ≡ false
IsFitChange w (Reserves r) = Unit {0}
IsFitChange w (Frees region first) = Unit {0}
IsFitChange w (Names text name) = has_no_flags (get w.names name) ≡ true

abbrev pub AreFitChanges : World → List Change → Type 0
AreFitChanges w [] = Unit {0}
AreFitChanges w (c ∷ cs) = IsFitChange w c × AreFitChanges (with_change w c) cs

-- A change of a call leaves what is discarded so, or makes it anew: it discards nothing, and locks nothing that is discarded.
abbrev pub IsFitLock : World → (n count : ℕ) → Type 0
IsFitLock w n count = (s : Segment) → get w.names n ≡ Some s → s.discarded ≡ true → count ≡ 0

abbrev pub SparesDiscarded : World → Change → Type 0
SparesDiscarded w (Makes s) = s.discarded ≡ false
SparesDiscarded w (Resizes n size) = Unit {0}
SparesDiscarded w (Locks n count) = IsFitLock w n count
SparesDiscarded w (Marks n true) = ⊥
SparesDiscarded w (Marks n false) = Unit {0}
SparesDiscarded w (Holds p i h) = Unit {0}
SparesDiscarded w (Drops p i count) = Unit {0}
SparesDiscarded w (Finishes p state) = is_live state ≡ false
SparesDiscarded w (Reserves r) = Unit {0}
SparesDiscarded w (Frees region first) = Unit {0}
SparesDiscarded w (Names text name) = Unit {0}

abbrev pub AllSpareDiscarded : World → List Change → Type 0
AllSpareDiscarded w [] = Unit {0}
AllSpareDiscarded w (c ∷ cs) = SparesDiscarded w c × AllSpareDiscarded (with_change w c) cs
