-- What a step needs in the memory of a store.
use Rattle.std.specs.Prelude.{◌≡◌, ℕ, ◌+◌, List, [], ◌∷◌, ◌++◌, length, map, filter, not, ◌||◌, nat_lt, if◌then◌else◌, Option, Some, None, true, false}
use Rattle.o2_base.specs.declared.selector.Selector.{Selector}
use Rattle.o2_isa.specs.View.{Registers}
use Rattle.o2_service.specs.Needs.{needs}
use Rattle.o2_isa.specs.declared.cpu.Cpu.{Cpu}
use Rattle.o2_isa.specs.Presence.{is_in}
use Rattle.o2_place.specs.declared.seg_id.SegId.{SegId}
use Rattle.o2_place.specs.Layout.{over}
use Rattle.o2_regions.specs.declared.held.Held.{Held}
use Rattle.o2_regions.specs.Maps.{Maps}
use Rattle.o2_store.specs.Shelf.{Shelf, entry, rounded}
use Rattle.o2_segbus.specs.Bus.{held_under}
use Rattle.o2_segbus.specs.Seen.{gone_in}
use Rattle.o2_world.specs.Calls.{Before}
use Rattle.o2_gate.specs.declared.arguments.Arguments.{Arguments}
use Rattle.o2_gate.specs.Targets.{targets}
use Rattle.o2_run.specs.Room.{seated, touched}
use Rattle.o2_world.specs.Slots.{Pointer}

-- the names that a step needs, as far as they are known before it: those in the segment registers, and those that it touches
abbrev pub needed_names : Before → List ℕ
needed_names b = seated b.view.registers ++ touched b

-- those of the names whose segments weren't discarded
abbrev pub whole_names : Shelf → List ℕ → List ℕ
whole_names s names = filter (λ n. not (gone_in s n)) names

-- what a segment takes of the memory that is locked or has one of these names
abbrev pub room_at : Shelf → List ℕ → ℕ → ℕ
room_at s names k = if nat_lt 0 (entry s k).attr.lock || is_in (entry s k).age names then rounded (entry s k).size else 0

-- what all these take together, each once
abbrev pub room_in : Shelf → List ℕ → ℕ
room_in s names = over (room_at s names) (length s.entries)

-- the segment under a selector, with no new size
abbrev pub pair_of : Option Held → List (SegId × ℕ)
pair_of None = []
pair_of (Some h) = (h.id, 0) ∷ []

-- those in the segment registers
abbrev pub seated_in : Maps → ℕ → Cpu → List (SegId × ℕ)
seated_in m pid c =
    pair_of (held_under m pid c.es) ++ pair_of (held_under m pid c.cs) ++ pair_of (held_under m pid c.ss) ++ pair_of (held_under m pid c.ds)

-- those under selectors
abbrev pub under_all : Maps → ℕ → List ℕ → List (SegId × ℕ)
under_all m pid [] = []
under_all m pid (s ∷ ss) = pair_of (held_under m pid s) ++ under_all m pid ss

-- the selectors of pointers
abbrev pub selectors_of : List Pointer → List ℕ
selectors_of ps = map (λ (p : Pointer). p.selector) ps

-- those behind the pointers of a call
abbrev pub aimed_in : Maps → ℕ → Arguments → List (SegId × ℕ)
aimed_in m pid a = under_all m pid (selectors_of (targets a))

-- the names that a step needed, behind it: those that it needed before, and those in its segment registers
abbrev pub all_names : Before → (after : Registers) → List ℕ
all_names b after = needed_names b ++ seated after

-- the names of segments
abbrev pub ages_of : List (SegId × ℕ) → List ℕ
ages_of [] = []
ages_of (p ∷ ps) = p.0.age ∷ ages_of ps

-- each is needed
pub record AreNeeded (need these : List (SegId × ℕ)) : Type 0 where
  pub each : (k : ℕ) → needs these k ≡ true → needs need k ≡ true

-- a selector that was missed: it names what isn't among these segments, and is one of these names
pub record IsWanted (m : Maps) (pid : ℕ) (need : List (SegId × ℕ)) (names : List ℕ) (s : Selector) : Type 0 where
  pub held : Held
  pub under : held_under m pid s.0 ≡ Some held
  pub named : is_in held.id.age names ≡ true
  pub other : is_in held.id.age (ages_of need) ≡ false

-- how many of these names aren't among the segments
abbrev pub left_in : List ℕ → List (SegId × ℕ) → ℕ
left_in [] need = 0
left_in (n ∷ ns) need = (if is_in n (ages_of need) then 0 else 1) + left_in ns need
