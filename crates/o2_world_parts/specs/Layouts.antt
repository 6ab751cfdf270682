-- The words of a call by its slots, each with the place of its lowest word, and what a call gives that is done.
use Rattle.std.specs.Prelude.{ℕ, zero, suc, Bool, List, [], ◌∷◌, drop, map, slice_index}
use Rattle.o2_isa.specs.View.{View}
use Rattle.o2_world.specs.declared.types.Argument.{Argument}
use Rattle.o2_world.specs.declared.types.Slot.{Slot}
use Rattle.o2_world.specs.Outcomes.{Done}
use Rattle.o2_world.specs.Slots.{Pointer, are_good, pointers_at, shown_at, targets_at, words_in}
use Rattle.o2_world_parts.specs.declared.effect.Done as code_done
use Rattle.o2_world_parts.specs.Edits.{changes_of}

-- so many arguments as words by their places from the top of the stack, where the last one lies; those that are missing are 0
abbrev pub from_top : (words : ℕ) → List ℕ → List ℕ
from_top zero args = []
from_top (suc n) args = slice_index args n ∷ from_top n args

-- the slots, each with the place of its lowest word
abbrev pub placed : List Slot → List (Slot × ℕ)
placed [] = []
placed (s ∷ ss) = (s, words_in ss) ∷ placed ss

abbrev pub shown_by : (ℕ → ℕ) → Slot × ℕ → Argument
shown_by a p = shown_at p.0 a p.1

abbrev pub good_by : View → (ℕ → ℕ) → Slot × ℕ → Bool
good_by v a p = are_good v (pointers_at p.0 v a p.1)

abbrev pub where_to : Pointer → ℕ × ℕ
where_to p = (p.selector, p.offset)

abbrev pub targets_by : (ℕ → ℕ) → Slot × ℕ → List (ℕ × ℕ)
targets_by a p = map where_to (targets_at p.0 a p.1)

-- what a call gives that is done
abbrev pub done_of : (input : List ℕ) → code_done.Done → Done
done_of input d = record { values = d.values.items; parts = d.parts.items; changes = changes_of d.edits.items; input = drop d.read input; piece = d.piece.items }
