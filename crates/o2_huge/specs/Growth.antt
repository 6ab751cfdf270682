-- What a run is given beside what it has: new members for all who hold it, and what its members are sized and cut to.
use Rattle.std.specs.Prelude.{◌⊎◌, ◌≡◌, ℕ, ◌+◌, ◌-◌, ◌*◌, ◌++◌, ◌<◌, ◌≤◌, ◌==◌, ◌&&◌, ◌||◌, Bool, true, not, List, [], ◌∷◌, flat_map, if◌then◌else◌, min, nat_le, nat_lt, Option, Some, None, IsSome}
use Rattle.o2_isa.specs.declared.cpu.Cpu.{Cpu}
use Rattle.o2_place.specs.declared.seg_id.SegId.{SegId}
use Rattle.o2_regions.specs.declared.held.Held.{Held}
use Rattle.o2_regions.specs.Maps.{Maps, held_at, is_reserved, region_of}
use Rattle.o2_store.specs.Shelf.{Shelf, entry, entry_of, place_of}
use Rattle.o2_store.specs.Sizes.{all_wanted_at, stays}
use Rattle.o2_world.specs.Changes.{Change, Drops, Resizes}
use Rattle.o2_world.specs.HugeRulings.{names_one, segments_of}
use Rattle.o2_world.specs.Rulings.{full_size, indexes}
use Rattle.o2_world.specs.SharedRulings.{shared_from}

-- an index is reserved, and nobody who could hold it holds it
pub record IsVacant (m : Maps) (pid i : ℕ) : Type 0 where
  pub reserved : is_reserved m (region_of pid i) i ≡ true
  pub free : (q : ℕ) → (q ≡ pid) ⊎ (4096 ≤ i) → held_at m q i ≡ None

abbrev pub AreVacant : Maps → (pid from to : ℕ) → Type 0
AreVacant m pid from to = (i : ℕ) → from ≤ i → i < to → IsVacant m pid i

-- what is held is in the run from an index on
abbrev pub is_of_run : ℕ → Held → Bool
is_of_run first h = not (h.reserved == 0) && (h.first == first)

-- a process holds a member of the run from an index on
pub record IsMemberAt (m : Maps) (pid first i : ℕ) : Type 0 where
  pub held : Held
  pub there : held_at m pid i ≡ Some held
  pub run : is_of_run first held ≡ true

abbrev pub AreMembers : Maps → (pid first from to : ℕ) → Type 0
AreMembers m pid first from to = (i : ℕ) → from ≤ i → i < to → IsMemberAt m pid first i

-- whoever else holds a run holds a new member as often as its first one

abbrev pub share_there : (first process : ℕ) → Option Held → List (ℕ × ℕ)
share_there first n None = []
share_there first n (Some h) = if is_of_run first h then (n, h.holds) ∷ [] else []

abbrev pub share_by : Maps → (number first process : ℕ) → List (ℕ × ℕ)
share_by m n first q = if q == n then [] else share_there first q (held_at m q first)

abbrev pub shares_in : Maps → (number first : ℕ) → List (ℕ × ℕ)
shares_in m n first = if nat_le shared_from first then flat_map (share_by m n first) (indexes 1 m.processes) else []

-- The last member that stays: its index, and its size as a word, where 0 stands for 65,536.

abbrev pub last_kept : (first members segs part : ℕ) → ℕ
last_kept first n segs part = first + (min n (segments_of segs part) - 1)

abbrev pub last_size : (members segs part : ℕ) → ℕ
last_size n segs part = if nat_lt n (segments_of segs part) then 0 else part

-- what a process holds gets a size, where it has another one
abbrev pub sized_there : Shelf → (size : ℕ) → Option Held → List Change
sized_there s size None = []
sized_there s size (Some h) = if (entry s h.id.key).size == full_size size then [] else Resizes h.id.age (full_size size) ∷ []

-- the bytes of so many members, of which all but the last have 65,536
abbrev pub bytes_there : (members last : ℕ) → ℕ
bytes_there n last = (n - 1) * 65536 + last

abbrev pub size_there : Shelf → Option Held → ℕ
size_there s None = 0
size_there s (Some h) = (entry s h.id.key).size

-- all holds of members that go

abbrev pub lost_there : (number index : ℕ) → Option Held → List Change
lost_there n i None = []
lost_there n i (Some h) = Drops n i h.holds ∷ []

abbrev pub lost_in : Maps → (number : ℕ) → List ℕ → List Change
lost_in m n [] = []
lost_in m n (i ∷ is) = lost_there n i (held_at m n i) ++ lost_in m n is

-- a selector of CS or SS is one of so many indexes from one on
abbrev pub is_cut_used : Cpu → (from count : ℕ) → Bool
is_cut_used c from count = names_one c.cs (indexes from count) || names_one c.ss (indexes from count)

-- The first change of a list is that of this segment to this size, of which this is so.
pub record FirstSized (s : Shelf) (cs : List Change) (says : SegId → ℕ → Type 0) : Type 0 where
  pub id : SegId
  pub size : ℕ
  pub live : IsSome (entry_of s id)
  pub rest : List Change
  pub change : cs ≡ Resizes id.age size ∷ rest
  pub holds : says id size

-- The first change of a list is that of a name to a size, and of each live segment of this name this is so.
pub record EachFirstSized (s : Shelf) (cs : List Change) (says : SegId → ℕ → Type 0) : Type 0 where
  pub name : ℕ
  pub size : ℕ
  pub rest : List Change
  pub change : cs ≡ Resizes name size ∷ rest
  pub each : (id : SegId) → IsSome (entry_of s id) → id.age ≡ name → says id size

-- a segment lacks room for a size: it is in memory, is to stay there, and with all that stays it doesn't fit
abbrev pub LacksRoomFor : Shelf → List SegId → SegId → ℕ → Type 0
LacksRoomFor s keep id size = IsSome (place_of s id.key) × (stays s id.key keep ≡ true) × (s.places.size < all_wanted_at s id.key keep size)
