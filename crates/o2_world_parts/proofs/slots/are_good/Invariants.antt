use Rattle.std.proofs.Common.{◌≡◌, drop}
use Rattle.std.specs.Prelude.{slice_index}
use Rattle.std.specs.List.{list_all}
use Rattle.o2_world.specs.Views.{view_of}
use Rattle.o2_world_parts.specs.Layouts.{good_by}
use Rattle.o2_world_parts.proofs.slots.are_good.Given as goal

abbrev pub invariant-loop-pair : goal.invariant-loop-pair
invariant-loop-pair l =
    list_all (good_by (view_of l.names l.process) (slice_index l.words)) (drop l.pair-index l.slots)
    ≡ list_all (good_by (view_of l.names l.process) (slice_index l.words)) l.slots
