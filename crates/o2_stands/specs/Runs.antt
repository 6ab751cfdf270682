-- The runs of huge allocations, by what processes hold: a run is a stretch of indexes in a row that are reserved together, and its
-- first ones are held, each a segment.
use Rattle.std.specs.Prelude.{◌⊎◌, ◌≡◌, ◌≢◌, ℕ, ◌+◌, ◌<◌, ◌≤◌, ◌==◌, ◌&&◌, ◌||◌, nat_lt, not, Bool, true, false, length, if◌then◌else◌, Option, Some, None, IsSome}
use Rattle.o2_desc.specs.Bits.{has_bit}
use Rattle.o2_regions.specs.declared.held.Cause.TheVariants.{Called}
use Rattle.o2_regions.specs.declared.held.Held.{Held}
use Rattle.o2_regions.specs.Maps.{Maps, end_of, held_at, is_taken, region_of}
use Rattle.o2_store.specs.Shelf.{Shelf, entry}
use Rattle.o2_world.specs.Map.{Map, get}
use Rattle.o2_world.specs.Rulings.{is_in_run}
use Rattle.o2_world.specs.World.{Held as WorldHeld, Segment, ByCall}

-- for two processes an index is one and the same: they are one, or it is a shared one
abbrev pub IsOneFor : (process other i : ℕ) → Type 0
IsOneFor process other i = (other ≡ process) ⊎ (4096 ≤ i)

-- The runs of a world, by a look-up of what a process holds at an index.

-- a process holds a member of a run at an index
pub record IsMemberOf (held : ℕ → ℕ → Option WorldHeld) (n i : ℕ) (h : WorldHeld) : Type 0 where
  pub there : held n i ≡ Some h
  pub run : is_in_run h ≡ true

-- an index lies in the stretch of what is held
abbrev pub IsInStretch : WorldHeld → ℕ → Type 0
IsInStretch h j = (h.first ≤ j) × (j < h.first + h.reserved)

-- they are held in one run
abbrev pub AreInOne : WorldHeld → WorldHeld → Type 0
AreInOne h k = (k.first ≡ h.first) × (k.reserved ≡ h.reserved)

-- the index behind the last one of a region, by an index of it
abbrev pub region_end : ℕ → ℕ
region_end i = if nat_lt i 4096 then 4096 else 8192

-- A member lies in its stretch, which lies in one region, and it came by a call. Whoever holds an index of the stretch holds it in that
-- run, two runs have no index in common, and a member's segment is held at its index alone, in its run, and by those for whom that is one.
pub record HasStretches (held : ℕ → ℕ → Option WorldHeld) : Type 0 where
  pub inside : (n i : ℕ) (h : WorldHeld) → IsMemberOf held n i h → IsInStretch h i
  pub first : (n i : ℕ) (h : WorldHeld) → IsMemberOf held n i h → 0 < h.first
  pub end : (n i : ℕ) (h : WorldHeld) → IsMemberOf held n i h → h.first + h.reserved ≤ region_end h.first
  pub called : (n i : ℕ) (h : WorldHeld) → IsMemberOf held n i h → h.cause ≡ ByCall
  pub whole : (n i : ℕ) (h : WorldHeld) → IsMemberOf held n i h → (m j : ℕ) (k : WorldHeld) → held m j ≡ Some k → IsInStretch h j → IsOneFor n m j → AreInOne h k
  pub apart : (n i : ℕ) (h : WorldHeld) → IsMemberOf held n i h → (m j : ℕ) (k : WorldHeld) → IsMemberOf held m j k → (l : ℕ) → IsInStretch h l → IsInStretch k l → IsOneFor n m l → AreInOne h k
  pub only : (n i : ℕ) (h : WorldHeld) → IsMemberOf held n i h → (m j : ℕ) (k : WorldHeld) → held m j ≡ Some k → k.name ≡ h.name → (j ≡ i) × AreInOne h k
  pub own : (n i : ℕ) (h : WorldHeld) → IsMemberOf held n i h → (m j : ℕ) (k : WorldHeld) → held m j ≡ Some k → k.name ≡ h.name → IsOneFor n m i

-- what a process holds at an index is held so often
pub record IsSoOften (held : ℕ → ℕ → Option WorldHeld) (n i holds : ℕ) : Type 0 where
  pub hold : WorldHeld
  pub there : held n i ≡ Some hold
  pub often : hold.holds ≡ holds

-- A process holds members from the first one on, each as often, and whoever holds one of them holds the same ones.
pub record HasFronts (held : ℕ → ℕ → Option WorldHeld) : Type 0 where
  pub front : (n i : ℕ) (h : WorldHeld) → IsMemberOf held n i h → (j : ℕ) → h.first ≤ j → j ≤ i → IsSoOften held n j h.holds
  pub all : (n i : ℕ) (h : WorldHeld) → IsMemberOf held n i h → (m j : ℕ) (k : WorldHeld) → IsMemberOf held m j k → IsOneFor n m i → AreInOne h k → IsSome (held m i)

pub record HasRuns (held : ℕ → ℕ → Option WorldHeld) : Type 0 where
  pub stretches : HasStretches held
  pub fronts : HasFronts held

-- the flags of a member's segment: it isn't discardable, and under a shared index it is giveable or gettable
abbrev pub may_be_member : (index : ℕ) → Option Segment → Bool
may_be_member i None = true
may_be_member i (Some s) = not (has_bit s.flags 2) && (nat_lt i 4096 || not (s.flags == 0))

pub record HasRunFlags (held : ℕ → ℕ → Option WorldHeld) (names : Map Segment) : Type 0 where
  pub each : (n i : ℕ) (h : WorldHeld) → IsMemberOf held n i h → may_be_member i (get names h.name) ≡ true

-- a segment has 65,536 bytes, where it lives
abbrev pub is_full : Option Segment → Bool
is_full None = true
is_full (Some s) = length s.bytes == 65536

-- each member of a process but its last one has 65,536 bytes
pub record HasFullMembers (held : ℕ → ℕ → Option WorldHeld) (names : Map Segment) : Type 0 where
  pub each : (n i : ℕ) (h : WorldHeld) → IsMemberOf held n i h → IsInStretch h (i + 1) → IsSome (held n (i + 1)) → is_full (get names h.name) ≡ true

-- The same of the maps of a machine.

-- a process holds a member of a run at an index
pub record IsMember (m : Maps) (pid i : ℕ) (h : Held) : Type 0 where
  pub there : held_at m pid i ≡ Some h
  pub run : h.reserved ≢ 0

-- an index lies in the stretch of what is held
abbrev pub Covers : Held → ℕ → Type 0
Covers h j = (h.first ≤ j) × (j < h.first + h.reserved)

-- they are held in one run, in a region that both processes have
abbrev pub AreOfOne : Held → Held → Type 0
AreOfOne h k = (k.first ≡ h.first) × (k.reserved ≡ h.reserved)

-- what a process holds at an index is held so often
pub record IsHeldOften (m : Maps) (pid i holds : ℕ) : Type 0 where
  pub held : Held
  pub there : held_at m pid i ≡ Some held
  pub often : held.holds ≡ holds

pub record AreRuns (m : Maps) : Type 0 where
  -- a member lies in its stretch, which lies in one region, came by a call, and all of the stretch is taken
  pub inside : (pid i : ℕ) (h : Held) → IsMember m pid i h → Covers h i
  pub first : (pid i : ℕ) (h : Held) → IsMember m pid i h → 0 < h.first
  pub end : (pid i : ℕ) (h : Held) → IsMember m pid i h → h.first + h.reserved ≤ end_of (region_of pid h.first)
  pub called : (pid i : ℕ) (h : Held) → IsMember m pid i h → h.cause ≡ Called
  pub taken : (pid i : ℕ) (h : Held) → IsMember m pid i h → (j : ℕ) → Covers h j → is_taken m (region_of pid j) j ≡ true
  -- whoever holds an index of the stretch holds it in that run; two runs have no index in common
  pub whole : (pid i : ℕ) (h : Held) → IsMember m pid i h → (other j : ℕ) (k : Held) → held_at m other j ≡ Some k → Covers h j → IsOneFor pid other j → AreOfOne h k
  pub apart : (pid i : ℕ) (h : Held) → IsMember m pid i h → (other j : ℕ) (k : Held) → IsMember m other j k → (l : ℕ) → Covers h l → Covers k l → IsOneFor pid other l → AreOfOne h k
  -- a process holds members from the first one on, each as often, and whoever holds one of them holds the same ones
  pub front : (pid i : ℕ) (h : Held) → IsMember m pid i h → (j : ℕ) → h.first ≤ j → j ≤ i → IsHeldOften m pid j h.holds
  pub all : (pid i : ℕ) (h : Held) → IsMember m pid i h → (other j : ℕ) (k : Held) → IsMember m other j k → IsOneFor pid other i → AreOfOne h k → IsSome (held_at m other i)
  -- a member's segment is held at its index alone, and in its run
  pub only : (pid i : ℕ) (h : Held) → IsMember m pid i h → (other j : ℕ) (k : Held) → held_at m other j ≡ Some k → k.id ≡ h.id → (j ≡ i) × AreOfOne h k

-- each member but the last one has 65,536 bytes, and none is discardable
pub record AreFull (s : Shelf) (m : Maps) : Type 0 where
  pub sized : (pid i : ℕ) (h : Held) → IsMember m pid i h → Covers h (i + 1) → IsSome (held_at m pid (i + 1)) → (entry s h.id.key).size ≡ 65536
  pub fixed : (pid i : ℕ) (h : Held) → IsMember m pid i h → has_bit (entry s h.id.key).attr.flags 2 ≡ false
