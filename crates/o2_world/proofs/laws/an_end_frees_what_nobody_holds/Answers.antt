use Rattle.o2_world.proofs.TiedWorld.{end_used, end_own, end_texts, end_swept}
use Rattle.o2_world.proofs.laws.an_end_frees_what_nobody_holds.Goals as goal

pub returns-clause-reserves : goal.returns-clause-reserves
returns-clause-reserves c = end_used

pub returns-clause-own : goal.returns-clause-own
returns-clause-own c = end_own

pub returns-clause-texts : goal.returns-clause-texts
returns-clause-texts c = end_texts

pub returns-clause-swept : goal.returns-clause-swept
returns-clause-swept c = end_swept
