use Rattle.o2_stands.proofs.Moves.{step_ready, step_stands}
use Rattle.o2_stands.proofs.Views.{bus_writes}
use Rattle.o2_stands.proofs.laws.steps_are_seen.Goals as goal

pub returns-clause-stands : goal.returns-clause-stands
returns-clause-stands c = λ p t m bytes ps names next reserved f g i r s w. step_stands p t m ps names next reserved bytes f g i r s w

pub returns-clause-ready : goal.returns-clause-ready
returns-clause-ready c = step_ready

pub returns-clause-written : goal.returns-clause-written
returns-clause-written c = λ p t m g k pid x h ps names next reserved lawful stands f. bus_writes p ps names next reserved lawful stands g k t m pid x h f
