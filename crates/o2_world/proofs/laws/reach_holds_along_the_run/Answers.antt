use Rattle.o2_world.specs.Run.{after}
use Rattle.o2_world.proofs.Openings.{opening_told}
use Rattle.o2_world.proofs.RunReach.{reach_is}
use Rattle.o2_world.proofs.StepTold.{step_told, told_along}
use Rattle.o2_world.proofs.laws.reach_holds_along_the_run.Goals as goal

pub returns-clause-step : goal.returns-clause-step
returns-clause-step c = step_told

pub returns-clause-run : goal.returns-clause-run
returns-clause-run c = λ s reserved script input starts w fit e sound k. reach_is (after s w k) (told_along s w sound (opening_told s reserved script input starts w fit e) k).1
