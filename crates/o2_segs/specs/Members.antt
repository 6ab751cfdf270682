-- What a process holds under one index: that index alone, or the members of its run.
use Rattle.std.specs.Prelude.{◌≡◌, ◌≢◌, ℕ, ◌+◌, ◌-◌, ◌==◌, ◌&&◌, not, min, nat_le, nat_lt, Bool, true, false, List, [], ◌∷◌, filter, map, if◌then◌else◌, Option, Some, None, is_some}
use Rattle.std.specs.List.{list_any}
use Rattle.o2_regions.specs.declared.held.Held.{Held}
use Rattle.o2_regions.specs.Maps.{Maps, held_at}
use Rattle.o2_store.specs.Shelf.{Shelf}
use Rattle.o2_changes.specs.Holding.{less_by, rights_at}
use Rattle.o2_changes.specs.Worlds.{LosesOne}
use Rattle.std.specs.Prelude.{IsSome}
use Rattle.o2_isa.specs.declared.cpu.Cpu.{Cpu}
use Rattle.o2_world.specs.Changes.{Change, Drops, with_all, with_changes}
use Rattle.o2_world.specs.Holders.{kept, process_at}
use Rattle.o2_world.specs.Known.{held_at as world_held}
use Rattle.o2_world.specs.Rulings.{indexes, is_in_run, is_index}
use Rattle.o2_world.specs.World.{Held as WorldHeld, Process, World}
use Rattle.o2_stands.specs.Parts.{Parts}
use Rattle.o2_stands.specs.Stands.{IsTidy, Matches}

-- the index behind the last one of a stretch, as far as there are indexes
abbrev pub end_in : Held → ℕ
end_in h = min (h.first + h.reserved) 8192

-- in a run, but not its first
abbrev pub is_later_in : ℕ → Held → Bool
is_later_in index h = not (h.reserved == 0) && not (h.first == index)

-- the indexes of a run that a process holds
abbrev pub run_in : Maps → (pid : ℕ) → Held → List ℕ
run_in m pid h = filter (λ (i : ℕ). is_some (held_at m pid i)) (indexes h.first h.reserved)

abbrev pub members_in : Maps → (pid index : ℕ) → Held → List ℕ
members_in m pid index h = if h.reserved == 0 then index ∷ [] else run_in m pid h

-- no hold is left once one goes
abbrev pub is_last_in : Option Held → Bool
is_last_in None = false
is_last_in (Some h) = nat_le h.holds 1

abbrev pub is_gone_in : Maps → (pid : ℕ) → List ℕ → (selector : ℕ) → Bool
is_gone_in m pid is selector = list_any (λ (i : ℕ). is_index selector i && is_last_in (held_at m pid i)) is

-- DS and ES behind it
abbrev pub freed_in : Maps → (pid : ℕ) → List ℕ → Cpu → Cpu
freed_in m pid is c = record c { ds = if is_gone_in m pid is c.ds then 0 else c.ds; es = if is_gone_in m pid is c.es then 0 else c.es }

-- an index of a stretch below one
abbrev pub is_below : Held → (end i : ℕ) → Bool
is_below h end i = nat_le h.first i && nat_lt i end

-- a process holds one hold less at each index of a stretch below one; all else that is held stays
pub record TakesBelow (old new : Maps) (pid : ℕ) (h : Held) (end : ℕ) : Type 0 where
  pub processes : new.processes ≡ old.processes
  pub held : (q j : ℕ) → held_at new q j ≡ (if (q == pid) && is_below h end j then less_by 1 (held_at old q j) else held_at old q j)
  pub rights : (q j : ℕ) → IsSome (held_at new q j) → rights_at new q j ≡ rights_at old q j

-- the same of the whole stretch
abbrev pub TakesRun : Maps → Maps → (pid : ℕ) → Held → Type 0
TakesRun old new pid h = TakesBelow old new pid h (end_in h)

-- What a process holds at an index may go from a world: a segment alone as it may, and the members of a run where the world is tidy.
pub record MayLose (w : World) (pid i : ℕ) : Type 0 where
  pub alone : (h : WorldHeld) → world_held w.processes pid i ≡ Some h → is_in_run h ≡ false → LosesOne w pid i
  pub run : (h : WorldHeld) → world_held w.processes pid i ≡ Some h → is_in_run h ≡ true → IsTidy w.processes w.names w.reserved

-- the members below an index, of which one hold goes each
abbrev pub below_in : Maps → (pid : ℕ) → Held → (end : ℕ) → List ℕ
below_in m pid h end = filter (λ (i : ℕ). is_some (held_at m pid i)) (indexes h.first (end - h.first))

abbrev pub below_drops : Maps → (pid : ℕ) → Held → (end : ℕ) → List Change
below_drops m pid h end = map (λ (i : ℕ). Drops pid i 1) (below_in m pid h end)

-- a world with these changes, without the names that nobody holds any more
abbrev pub with_names_kept : World → List Change → World
with_names_kept w cs = let v = with_changes w cs in record v { names = kept v.processes v.names }

-- Store and tables match a tidy world in which one hold goes of each member below an index of a run that a process holds, without the
-- names that nobody holds any more. Its stretch stays reserved.
pub record MatchesBelow (s t : Shelf) (old new : Maps) (pid : ℕ) (h : Held) (end : ℕ) : Type 0 where
  pub world : (p : Parts) (w : World) (x : Process) (i : ℕ) → p.shelf ≡ s → p.maps ≡ old → process_at w.processes pid ≡ Some x
      → held_at old pid i ≡ Some h → h.reserved ≢ 0
      → IsTidy w.processes w.names w.reserved → Matches p w → Matches (record p { shelf = t; maps = new }) (with_names_kept w (below_drops old pid h end))

-- the same of all its members
abbrev pub MatchesMembers : (s t : Shelf) (old new : Maps) (pid : ℕ) (h : Held) → Type 0
MatchesMembers s t old new pid h = MatchesBelow s t old new pid h (end_in h)

-- Store and tables match a world in which one hold goes of what a process holds at an index, or of each member of its run, where what
-- nobody holds any more is gone.
pub record MatchesFree (s t : Shelf) (old new : Maps) (pid i : ℕ) (h : Held) : Type 0 where
  pub world : (p : Parts) (w : World) (x : Process) → p.shelf ≡ s → p.maps ≡ old → process_at w.processes pid ≡ Some x
      → MayLose w pid i → Matches p w → Matches (record p { shelf = t; maps = new }) (with_all w (map (λ (j : ℕ). Drops pid j 1) (members_in old pid i h)))
