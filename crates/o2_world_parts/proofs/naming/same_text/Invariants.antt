use Rattle.std.proofs.Common.{◌≡◌, drop}
use Rattle.o2_world.specs.Known.{same_text}
use Rattle.o2_world_parts.proofs.naming.same_text.Given as goal

abbrev pub invariant-loop-k : goal.invariant-loop-k
invariant-loop-k l = same_text l.one l.other ≡ same_text (drop l.k l.one) (drop l.k l.other)
