use Rattle.std.proofs.Common.{inl, inr, refl}
use Rattle.o2_gate.proofs.Fails.{on_failed}
use Rattle.o2_gate.proofs.Puts.{both_by}
use Rattle.o2_gate.proofs.write.put_both.Goals as goal

pub returns-in-Done-clause-both : goal.returns-in-Done-clause-both
returns-in-Done-clause-both g c = λ f. both_by _ _ _ _ _ _ _ (c.in-Done.ensures.console f) c.put_call.ensures.report

pub returns-in-Failed-clause-failed : goal.returns-in-Failed-clause-failed
returns-in-Failed-clause-failed g c = inl refl

pub returns-in-Done-clause-failed : goal.returns-in-Done-clause-failed
returns-in-Done-clause-failed g c = on_failed _ c.put_call.result (inr c.put_call.ensures.puts)
