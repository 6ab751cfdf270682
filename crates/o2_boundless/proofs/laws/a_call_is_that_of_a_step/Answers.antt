use Rattle.o2_boundless.proofs.Kept.{call_is_step, row_is_serviced}
use Rattle.o2_boundless.proofs.laws.a_call_is_that_of_a_step.Goals as goal

pub returns : goal.returns
returns c = record { rows = row_is_serviced; world = call_is_step }
