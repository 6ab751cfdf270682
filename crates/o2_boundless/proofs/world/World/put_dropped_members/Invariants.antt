use Rattle.std.proofs.Common.{◌≡◌, ◌++◌, take}
use Rattle.o2_world.specs.HugeRulings.{dropped_members}
use Rattle.o2_world_parts.specs.Edits.{changes_of}
use Rattle.o2_boundless.specs.Shown.{known_by}
use Rattle.o2_boundless.proofs.world.World.put_dropped_members.Given as goal

abbrev pub invariant-loop-k : goal.invariant-loop-k
invariant-loop-k l = changes_of l.edits.items ≡ changes_of l.initial.edits.items ++ dropped_members (known_by l.self) l.number (take l.k l.indexes)
