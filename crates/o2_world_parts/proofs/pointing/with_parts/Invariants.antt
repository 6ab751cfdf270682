use Rattle.std.proofs.Common.{◌≡◌, take}
use Rattle.o2_world.specs.Views.{bytes_in, holds_in, with_bytes}
use Rattle.o2_world_parts.specs.Effects.{written}
use Rattle.o2_world_parts.proofs.pointing.with_parts.Given as goal

abbrev pub invariant-loop-pair : goal.invariant-loop-pair
invariant-loop-pair l = l.after.items ≡ with_bytes (take l.pair-index l.names) (written (holds_in l.held) l.targets l.parts (bytes_in l.names))
