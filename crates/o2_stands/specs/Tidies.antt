-- Which changes keep a world tidy.
use Rattle.std.specs.Prelude.{◌≡◌, ℕ, ◌≤◌, ◌&&◌, ◌||◌, ◌==◌, Bool, true, false, List, [], ◌∷◌, None, Some}
use Rattle.std.specs.List.{list_any}
use Rattle.o2_world.specs.Changes.{Change, Drops, Finishes, Frees, Holds, Locks, Makes, Marks, Names, Reserves, Resizes, with_change}
use Rattle.o2_world.specs.Known.{held_at, is_for_the_run, reserves}
use Rattle.o2_world.specs.Rulings.{is_in_run}
use Rattle.o2_world.specs.World.{Held, Reserve, World}
use Rattle.o2_stands.specs.Stands.{is_by_load, is_placed, is_stretch, region_at}

-- the stretches that changes reserve
abbrev pub coming : List Change → List Reserve
coming [] = []
coming (Makes s ∷ cs) = coming cs
coming (Resizes n size ∷ cs) = coming cs
coming (Locks n count ∷ cs) = coming cs
coming (Marks n discarded ∷ cs) = coming cs
coming (Holds p i h ∷ cs) = coming cs
coming (Drops p i count ∷ cs) = coming cs
coming (Finishes p state ∷ cs) = coming cs
coming (Reserves r ∷ cs) = r ∷ coming cs
coming (Frees region first ∷ cs) = coming cs
coming (Names text name ∷ cs) = coming cs

-- a stretch is among those that are reserved, or among those that come
abbrev pub is_or_will_be : List Reserve → List Reserve → (region first count : ℕ) → Bool
is_or_will_be reserved more region first count = list_any (is_stretch region first count) more || list_any (is_stretch region first count) reserved

-- What a process holds at an index is held as that is reserved, where these come: by load at a shared index that is reserved for the
-- whole run; in a run that has its stretch; and otherwise at an index that isn't reserved.
pub record IsHeldRight (reserved more : List Reserve) (n i : ℕ) (h : Held) : Type 0 where
  pub load : 4096 ≤ i → is_by_load h.cause ≡ true → list_any (is_for_the_run i) reserved ≡ true
  pub run : is_in_run h ≡ true → is_or_will_be reserved more (region_at n i) h.first h.reserved ≡ true
  pub free : is_in_run h ≡ false → (4096 ≤ i → is_by_load h.cause ≡ false) → list_any (reserves (region_at n i) i) reserved ≡ false

-- a stretch for a run: it goes with the run and begins in its region, none of its indexes is reserved, and nothing is held there but members of runs
pub record IsNewStretch (w : World) (r : Reserve) : Type 0 where
  pub goes : r.stays ≡ false
  pub placed : is_placed r ≡ true
  pub new : (i : ℕ) → reserves r.region i r ≡ true → list_any (reserves r.region i) w.reserved ≡ false
  pub runs : (n i : ℕ) (h : Held) → held_at w.processes n i ≡ Some h → is_in_run h ≡ false → reserves (region_at n i) i r ≡ false

-- what is reserved from an index on for the whole run
abbrev pub is_fixed : (region first : ℕ) → Reserve → Bool
is_fixed region first r = r.stays && ((r.region == region) && (r.first == first))

-- a stretch whose run nobody holds, and which doesn't stay for the whole run
pub record IsFreeStretch (w : World) (region first : ℕ) : Type 0 where
  pub goes : list_any (is_fixed region first) w.reserved ≡ false
  pub unheld : (n i : ℕ) (h : Held) → held_at w.processes n i ≡ Some h → is_in_run h ≡ true → region_at n i ≡ region → h.first ≡ first → ⊥

-- What is held anew is held as its index is reserved, where a step reserves the stretch of a run behind the holds of its members.
-- Only runs are reserved and freed.
abbrev pub IsTidyChange : (more : List Reserve) → World → Change → Type 0
IsTidyChange more w (Makes s) = Unit {0}
IsTidyChange more w (Resizes n size) = Unit {0}
IsTidyChange more w (Locks n count) = Unit {0}
IsTidyChange more w (Marks n discarded) = Unit {0}
IsTidyChange more w (Holds p i h) = held_at w.processes p i ≡ None → IsHeldRight w.reserved more p i h
IsTidyChange more w (Drops p i count) = Unit {0}
IsTidyChange more w (Finishes p state) = Unit {0}
IsTidyChange more w (Reserves r) = IsNewStretch w r
IsTidyChange more w (Frees region first) = IsFreeStretch w region first
IsTidyChange more w (Names text name) = Unit {0}

abbrev pub AreTidyChanges : World → List Change → Type 0
AreTidyChanges w [] = Unit {0}
AreTidyChanges w (c ∷ cs) = IsTidyChange (coming cs) w c × AreTidyChanges (with_change w c) cs
