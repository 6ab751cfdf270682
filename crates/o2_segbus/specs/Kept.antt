-- The tables of a store and of the maps of processes, without the memory and the descriptors, as lists of numbers.
use Rattle.std.specs.Prelude.{ℕ, Bool, true, false, List, [], ◌∷◌, length, map, Option, Some, None}
use Rattle.o2_desc.specs.declared.descriptor.Descriptor.{Descriptor}
use Rattle.o2_entries.specs.declared.Entry.{Entry}
use Rattle.o2_place.specs.declared.ranges.Range.{Range}
use Rattle.o2_place.specs.declared.clock.Mark.{Mark}
use Rattle.o2_regions.specs.declared.held.Held.{Held}
use Rattle.o2_regions.specs.declared.held.Cause.{Cause}
use Rattle.o2_regions.specs.declared.held.Cause.TheVariants.{Loaded, Called, Alias}
use Rattle.o2_regions.specs.Maps.{Maps}
use Rattle.o2_store.specs.Shelf.{Shelf}

abbrev pub bit : Bool → ℕ
bit true = 1
bit false = 0

abbrev pub cause_number : Cause → ℕ
cause_number Loaded = 0
cause_number Called = 1
cause_number Alias = 2

abbrev pub ranges_told : List Range → List ℕ
ranges_told [] = []
ranges_told (r ∷ rs) = r.id ∷ r.at ∷ r.len ∷ ranges_told rs

abbrev pub marks_told : List Mark → List ℕ
marks_told [] = []
marks_told (m ∷ ms) = bit m.present ∷ bit m.used ∷ marks_told ms

abbrev pub image_told : Option (ℕ × ℕ) → List ℕ → List ℕ
image_told None ns = 0 ∷ ns
image_told (Some p) ns = 1 ∷ p.0 ∷ p.1 ∷ ns

abbrev pub entries_told : List (Option Entry) → List ℕ
entries_told [] = []
entries_told (None ∷ es) = 0 ∷ entries_told es
entries_told (Some e ∷ es) = 1 ∷ e.age ∷ e.size ∷ e.kept ∷ e.attr.flags ∷ e.attr.lock ∷ bit e.attr.clean ∷ bit e.attr.shared ∷ bit e.attr.gone ∷ image_told e.image (entries_told es)

abbrev pub held_told : List (Option Held) → List ℕ
held_told [] = []
held_told (None ∷ hs) = 0 ∷ held_told hs
held_told (Some h ∷ hs) = 1 ∷ h.id.key ∷ h.id.age ∷ h.holds ∷ cause_number h.cause ∷ h.first ∷ h.reserved ∷ held_told hs

abbrev pub numbers_told : Shelf → Maps → List ℕ
numbers_told s m = s.places.size ∷ s.places.most ∷ s.turns.hand ∷ s.swap.most ∷ s.made ∷ m.processes ∷ length s.swap.lists ∷ []

-- how many descriptors each process has
abbrev pub lengths_of : List (List Descriptor) → List ℕ
lengths_of tables = map (λ (t : List Descriptor). length t) tables

-- the numbers, the ranges, the clock, the segments, the numbers of a call, the maps, what is reserved, how long the tables are,
-- and each owner's blocks
abbrev pub planes : Shelf → Maps → List (List ℕ)
planes s m =
    numbers_told s m ∷ ranges_told s.places.ranges ∷ marks_told s.turns.marks ∷ s.turns.places ∷ entries_told s.entries ∷ s.keys ∷ held_told m.held ∷ map bit m.reserved ∷
    lengths_of m.tables ∷ s.swap.lists
