use Rattle.std.proofs.Common.{◌≡◌, ◌++◌, drop, map}
use Rattle.serde_json.specs.View.{view}
use Rattle.o2_vectors.specs.Json.{naturals}
use Rattle.o2_vectors.proofs.vector.add_row.Given as goal

abbrev pub invariant-loop-part : goal.invariant-loop-part
invariant-loop-part l = map view l.out.items ++ naturals (drop l.part-index l.row) ≡ map view l.initial.out.items ++ naturals l.row
