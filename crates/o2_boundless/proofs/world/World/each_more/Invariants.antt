use Rattle.std.proofs.Common.{◌≡◌, take}
use Rattle.o2_world.specs.SharedRulings.{each_more}
use Rattle.o2_boundless.specs.Shown.{known_by}
use Rattle.o2_world_parts.specs.Edits.{changes_of}
use Rattle.o2_boundless.proofs.world.World.each_more.Given as goal

abbrev pub invariant-loop-index : goal.invariant-loop-index
invariant-loop-index l = changes_of l.edits.items ≡ each_more (known_by l.self) l.from l.to (take l.index-index l.indexes)
