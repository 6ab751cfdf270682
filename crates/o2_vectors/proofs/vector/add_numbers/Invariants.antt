use Rattle.std.proofs.Common.{◌≡◌, ◌++◌, drop, map}
use Rattle.serde_json.specs.View.{view}
use Rattle.o2_vectors.specs.Json.{naturals}
use Rattle.o2_vectors.proofs.vector.add_numbers.Given as goal

abbrev pub invariant-loop-byte : goal.invariant-loop-byte
invariant-loop-byte l = map view l.out.items ++ naturals (drop l.byte-index l.bytes) ≡ map view l.initial.out.items ++ naturals l.bytes
