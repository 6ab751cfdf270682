-- What processes share: what is asked of the maps, and what one process gets of another.
use Rattle.std.specs.Prelude.{◌≡◌, ℕ, ◌+◌, ◌<◌, ◌≤◌, ◌^◌, ◌==◌, ◌&&◌, Bool, true, not, nat_le, if◌then◌else◌, find, List, [], ◌∷◌, Option, Some, None, IfSome, IsSome, is_some}
use Rattle.std.specs.List.{list_all}
use Rattle.o2_desc.specs.Bits.{has_bit}
use Rattle.o2_regions.specs.declared.held.Cause.TheVariants.{Called, Loaded}
use Rattle.o2_regions.specs.declared.held.Held.{Held}
use Rattle.o2_regions.specs.Maps.{Maps, held_at, holds_of, more_of}
use Rattle.o2_store.specs.Shelf.{Shelf, entry}
use Rattle.o2_world.specs.Changes.{with_changes}
use Rattle.o2_world.specs.Holders.{process_at}
use Rattle.o2_world.specs.Known.{Known}
use Rattle.o2_world.specs.Rulings.{Ruling, by_load, indexes, refusal}
use Rattle.o2_world.specs.SharedRulings.{each_more, naming_at}
use Rattle.o2_world.specs.World.{Process, World}
use Rattle.o2_changes.specs.Holding.{rights_at}
use Rattle.o2_segs.specs.Members.{is_below, is_later_in, members_in}
use Rattle.o2_shared.specs.declared.sharing.Flag.{Flag}
use Rattle.o2_shared.specs.declared.sharing.Flag.TheVariants.{Giveable, Gettable}
use Rattle.o2_stands.specs.Knows.{Others, known_in}
use Rattle.o2_stands.specs.Parts.{Parts, cause_of}
use Rattle.o2_stands.specs.Stands.{Matches}
pub use Rattle.o2_segs.specs.Sharing.{ShareOne}

-- each may be held once more
pub record AreFew (m : Maps) : Type 0 where
  pub few : (p i : ℕ) → holds_of (held_at m p i) + 1 < 2 ^ 32

-- one hold of what another process holds
abbrev pub share_of : Held → Held
share_of h = record { id = h.id; holds = 1; cause = Called; first = h.first; reserved = h.reserved }

-- what is held goes on to be held, with its rights, and as often at least
pub record StillHolds (old new : Maps) : Type 0 where
  pub held : (q j : ℕ) (h : Held) → held_at old q j ≡ Some h → (k : Held) × (held_at new q j ≡ Some k) × (k.id ≡ h.id) × (h.holds ≤ k.holds)
  pub rights : (q j : ℕ) → IsSome (held_at old q j) → rights_at new q j ≡ rights_at old q j

-- whether a segment is shared and has a flag, of those that calls gave under shared indexes: 0 is that of a giveable segment, and
-- 1 that of a gettable one
abbrev pub may_share : (flag index : ℕ) → (loaded shared : Bool) → (flags : ℕ) → Bool
may_share flag i loaded shared flags = nat_le 4096 i && (not loaded && (shared && has_bit flags flag))

abbrev pub is_shareable : Shelf → (flag index : ℕ) → Held → Bool
is_shareable s flag i h = may_share flag i (by_load (cause_of h.cause)) (entry s h.id.key).attr.shared (entry s h.id.key).attr.flags

-- the number of the flag of a call
abbrev pub number_of : Flag → ℕ
number_of Giveable = 0
number_of Gettable = 1

-- each member is shared and has the flag
abbrev pub is_shareable_at : Shelf → (flag index : ℕ) → Option Held → Bool
is_shareable_at s flag i None = true
is_shareable_at s flag i (Some h) = is_shareable s flag i h

abbrev pub are_shareable : Shelf → Maps → (flag pid : ℕ) → List ℕ → Bool
are_shareable s m flag pid is = list_all (λ (i : ℕ). is_shareable_at s flag i (held_at m pid i)) is

-- what a process holds at an index may come to another process
abbrev pub may_share_all : Shelf → Maps → (flag pid index : ℕ) → Held → Bool
may_share_all s m flag pid i h = not (is_later_in i h) && are_shareable s m flag pid (members_in m pid i h)

-- each member has a shared index and came by a call
abbrev pub IsCalledAt : Maps → (pid i : ℕ) → Type 0
IsCalledAt m pid i = IfSome (held_at m pid i) (λ h. (4096 ≤ i) × (h.cause ≡ Loaded → ⊥))

abbrev pub AllCalled : Maps → (pid : ℕ) → List ℕ → Type 0
AllCalled m pid [] = Unit {0}
AllCalled m pid (i ∷ is) = IsCalledAt m pid i × AllCalled m pid is

-- one index, where the process holds something there
abbrev pub held_alone : Maps → (pid i : ℕ) → List ℕ
held_alone m pid i = if is_some (held_at m pid i) then i ∷ [] else []

-- what a process holds at an index once more, of what another holds there
abbrev pub more_by : Option Held → Option Held → Option Held
more_by None o = o
more_by (Some h) o = more_of o (share_of h)

-- one process holds what the other holds at an index once more; all else that is held stays
pub record SharesAt (old new : Maps) (from to i : ℕ) : Type 0 where
  pub processes : new.processes ≡ old.processes
  pub held : (q j : ℕ) → held_at new q j ≡ (if (q == to) && (j == i) then more_by (held_at old from i) (held_at old to i) else held_at old q j)

-- one process holds what the other holds at each index of a stretch below one once more; all else that is held stays
pub record SharesBelow (old new : Maps) (from to : ℕ) (h : Held) (end : ℕ) : Type 0 where
  pub processes : new.processes ≡ old.processes
  pub held : (q j : ℕ) → held_at new q j ≡ (if (q == to) && is_below h end j then more_by (held_at old from j) (held_at old to j) else held_at old q j)

-- The tables match a world in which one process holds once more what the other holds at these indexes, where they matched it.
pub record MatchesShares (s : Shelf) (old new : Maps) (from to : ℕ) (is : List ℕ) : Type 0 where
  pub world : (p : Parts) (o : Others) (w : World) (x : Process) → p.shelf ≡ s → p.maps ≡ old → process_at w.processes to ≡ Some x
      → Matches p w → Matches (record p { maps = new }) (with_changes w (each_more (known_in p o) from to is))

-- the first process that holds an index
abbrev pub holder_in : Maps → (index : ℕ) → Option ℕ
holder_in m i = find (λ (n : ℕ). is_some (held_at m n i)) (indexes 1 m.processes)

-- whether what is held is the segment of a name, which a call gave and which is shared
abbrev pub is_share_of : Shelf → (name : ℕ) → Held → Bool
is_share_of s q h = (h.id.age == q) && (not (by_load (cause_of h.cause)) && (entry s h.id.key).attr.shared)

-- the ruling of a new name at an index
abbrev pub naming_to : Known → (number size : ℕ) → (name : List ℕ) → Option ℕ → Ruling
naming_to k n size name to = if nat_le k.most k.count then refusal 8 else naming_at k n size name to
