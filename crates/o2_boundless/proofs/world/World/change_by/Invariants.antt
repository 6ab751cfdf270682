use Rattle.std.proofs.Common.{◌≡◌, take}
use Rattle.o2_world.specs.Changes.{with_changes}
use Rattle.o2_world_parts.specs.Edits.{changes_of}
use Rattle.o2_boundless.proofs.world.World.change_by.Given as goal

abbrev pub invariant-loop-edit : goal.invariant-loop-edit
invariant-loop-edit l = l.self ≡ record l.initial.self { world = with_changes l.initial.self.world (changes_of (take l.edit-index l.edits)) }
