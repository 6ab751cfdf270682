use Rattle.std.proofs.Common.{◌≡◌, map, take}
use Rattle.std.specs.Prelude.{slice_index}
use Rattle.o2_world_parts.specs.Layouts.{shown_by}
use Rattle.o2_world_parts.proofs.slots.shown.Given as goal

abbrev pub invariant-loop-pair : goal.invariant-loop-pair
invariant-loop-pair l = l.all.items ≡ map (shown_by (slice_index l.words)) (take l.pair-index l.slots)
