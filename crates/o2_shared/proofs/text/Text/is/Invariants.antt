use Rattle.std.proofs.Common.{◌≡◌, drop}
use Rattle.o2_world.specs.Known.{same_text}
use Rattle.o2_world.specs.SharedNames.{folded}
use Rattle.o2_shared.proofs.text.Text.is.Given as goal

abbrev pub invariant-loop-k : goal.invariant-loop-k
invariant-loop-k l = same_text l.self (folded l.text) ≡ same_text (drop l.k l.self) (drop l.k (folded l.text))
