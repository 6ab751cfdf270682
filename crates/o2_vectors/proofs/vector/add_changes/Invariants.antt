use Rattle.std.proofs.Common.{◌≡◌, ◌++◌, ◌+◌, drop, map}
use Rattle.serde_json.specs.View.{view}
use Rattle.o2_vectors.specs.Json.{changes}
use Rattle.o2_vectors.proofs.vector.add_changes.Given as goal

abbrev pub invariant-loop-at : goal.invariant-loop-at
invariant-loop-at l = map view l.out.items ++ changes (l.base + l.at) (drop l.at l.old) (drop l.at l.new) ≡ map view l.initial.out.items ++ changes l.base l.old l.new
