use Rattle.o2_stands.proofs.Alike.{written_matches}
use Rattle.o2_stands.proofs.laws.what_a_call_writes_is_seen.Goals as goal

pub returns : goal.returns
returns c = λ p t m number r u v f g inside ready same written runs matches. written_matches u v same p t m number r f g inside ready written runs matches
