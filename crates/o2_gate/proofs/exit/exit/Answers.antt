use Rattle.o2_gate.proofs.Fails.{by_lines}
use Rattle.o2_gate.proofs.exit.exit.Goals as goal

pub returns-in-Failed-clause-part : goal.returns-in-Failed-clause-part
returns-in-Failed-clause-part g c = λ e k none lines. by_lines e k _ _ _ _ _ none lines c.in-Failed.ensures.line
