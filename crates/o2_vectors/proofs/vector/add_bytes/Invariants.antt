use Rattle.std.proofs.Common.{◌≡◌, ◌++◌, ◌+◌, drop, map}
use Rattle.serde_json.specs.View.{view}
use Rattle.o2_vectors.specs.Json.{cells}
use Rattle.o2_vectors.proofs.vector.add_bytes.Given as goal

abbrev pub invariant-loop-at : goal.invariant-loop-at
invariant-loop-at l = map view l.out.items ++ cells (l.base + l.at) (drop l.at l.bytes) ≡ map view l.initial.out.items ++ cells l.base l.bytes
