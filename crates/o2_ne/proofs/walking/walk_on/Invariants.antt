use Rattle.std.proofs.Common.{◌≡◌, ◌≤◌, ◌-◌, length, false, []}
use Rattle.o2_ne.specs.Steps.{steps}
use Rattle.o2_ne.specs.NameTable.{name_step}
use Rattle.o2_ne.specs.NameViews.{Walks, walk}
use Rattle.o2_ne.proofs.walking.walk_on.Given as goal

abbrev pub invariant-loop : goal.invariant-loop
invariant-loop l =
    (steps (name_step l.file) (length l.file - l.counter) (walk l.file l.walking) ≡ steps (name_step l.file) (length l.file) (record { found = []; place = l.at; ended = false }))
    × (Walks l.file l.at l.walking × (length l.walking.places.items ≤ l.counter))
