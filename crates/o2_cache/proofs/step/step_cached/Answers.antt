use Rattle.o2_isa.proofs.StepLaws.{boundless, stepped_frame, stepped_agrees, stepped_present}
use Rattle.o2_isa.proofs.Sizes.{stepped_lengths}
use Rattle.o2_isa.proofs.Writes.{stepped_writes}
use Rattle.o2_cache.proofs.step.step_cached.Goals as goal

pub returns-clause-boundless : goal.returns-clause-boundless
returns-clause-boundless g c = λ f b. boundless f _ _ _ b c.one_step.ensures

pub returns-clause-frame : goal.returns-clause-frame
returns-clause-frame g c = stepped_frame _ _ _ c.one_step.ensures

pub returns-clause-lengths : goal.returns-clause-lengths
returns-clause-lengths g c = stepped_lengths _ _ _ c.one_step.ensures

pub returns-clause-writes : goal.returns-clause-writes
returns-clause-writes g c = stepped_writes _ _ _ c.one_step.ensures

pub returns-clause-agrees : goal.returns-clause-agrees
returns-clause-agrees g c = λ a. stepped_agrees _ _ _ c.one_step.ensures a

pub returns-clause-present : goal.returns-clause-present
returns-clause-present g c = λ f b m n i. stepped_present f c.one_step.result _ _ b c.one_step.ensures m n i
