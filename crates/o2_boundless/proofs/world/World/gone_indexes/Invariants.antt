use Rattle.std.proofs.Common.{◌≡◌, take}
use Rattle.o2_world.specs.Outcomes.{gone_indexes}
use Rattle.o2_world_parts.specs.Edits.{changes_of}
use Rattle.o2_boundless.specs.Shown.{known_by}
use Rattle.o2_boundless.proofs.world.World.gone_indexes.Given as goal

abbrev pub invariant-loop-edit : goal.invariant-loop-edit
invariant-loop-edit l = l.indexes.items ≡ gone_indexes (known_by l.self) (changes_of (take l.edit-index l.edits))
