use Rattle.o2_isa.proofs.StepLaws.{boundless, gate_step_loads_none, stepped_missed, stepped_present, step_loads_few}
use Rattle.o2_isa.proofs.laws.presence_is_invisible.Goals as goal

pub returns : goal.returns
returns c = record { boundless = boundless; missed = stepped_missed; present = stepped_present; few = step_loads_few; gates = gate_step_loads_none }
