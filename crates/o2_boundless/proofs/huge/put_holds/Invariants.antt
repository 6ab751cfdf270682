use Rattle.std.proofs.Common.{◌≡◌, ◌++◌, take}
use Rattle.o2_world.specs.HugeRulings.{all_hold}
use Rattle.o2_world_parts.specs.Edits.{changes_of}
use Rattle.o2_boundless.proofs.huge.put_holds.Given as goal

abbrev pub invariant-loop-k : goal.invariant-loop-k
invariant-loop-k l = changes_of l.edits.items ≡ changes_of l.initial.edits.items ++ all_hold l.name l.run.first l.run.count l.index (take l.k l.holders)
