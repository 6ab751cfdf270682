use Rattle.std.proofs.Common.{◌≡◌, take}
use Rattle.std.specs.Prelude.{flat_map, slice_index}
use Rattle.o2_world_parts.specs.Layouts.{targets_by}
use Rattle.o2_world_parts.proofs.slots.targets.Given as goal

abbrev pub invariant-loop-pair : goal.invariant-loop-pair
invariant-loop-pair l = l.all.items ≡ flat_map (targets_by (slice_index l.words)) (take l.pair-index l.slots)
