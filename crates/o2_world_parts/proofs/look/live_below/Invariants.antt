use Rattle.std.proofs.Common.{◌≡◌, ◌≤◌}
use Rattle.o2_world.specs.Known.{live_below}
use Rattle.o2_world_parts.proofs.look.live_below.Given as goal

abbrev pub invariant-loop-name : goal.invariant-loop-name
invariant-loop-name l = (l.count ≡ live_below l.names l.name) × (l.count ≤ l.name)
