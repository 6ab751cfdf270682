use Rattle.std.proofs.Common.{◌≡◌, take}
use Rattle.o2_world.specs.Views.{bytes_in, holds_in}
use Rattle.o2_world_parts.specs.Effects.{written}
use Rattle.o2_world_parts.proofs.pointing.bytes_after.Given as goal

abbrev pub invariant-loop-k : goal.invariant-loop-k
invariant-loop-k l = l.bytes.items ≡ written (holds_in l.held) (take l.k l.targets) (take l.k l.parts) (bytes_in l.names) l.name
