use Rattle.std.proofs.Common.{◌≡◌, take}
use Rattle.o2_world.specs.HugeRulings.{all_bytes}
use Rattle.o2_boundless.specs.Shown.{known_by}
use Rattle.o2_boundless.proofs.world.World.all_bytes.Given as goal

abbrev pub invariant-loop-k : goal.invariant-loop-k
invariant-loop-k l = l.bytes ≡ all_bytes (known_by l.self) l.number (take l.k l.indexes)
