use Rattle.std.proofs.Common.{◌≡◌, ◌++◌, take}
use Rattle.o2_world.specs.HugeRulings.{new_members}
use Rattle.o2_world_parts.specs.Edits.{changes_of}
use Rattle.o2_boundless.proofs.huge.put_members.Given as goal

abbrev pub invariant-loop-k : goal.invariant-loop-k
invariant-loop-k l = changes_of l.edits.items ≡ changes_of l.initial.edits.items ++ new_members l.name l.run.first l.run.count l.flags l.holders (take l.k l.indexes) (take l.k l.sizes)
