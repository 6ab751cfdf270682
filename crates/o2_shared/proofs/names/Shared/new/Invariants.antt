use Rattle.std.proofs.Common.{◌≡◌, ◌≤◌, None, replicate}
use Rattle.std.specs.Vec.{vec_capacity}
use Rattle.o2_shared.proofs.names.Shared.new.Given as goal

abbrev pub invariant-loop : goal.invariant-loop
invariant-loop l = record {
  room : 4096 ≤ vec_capacity l.names;
  so_far : l.names.items ≡ replicate l.counter None;
}
