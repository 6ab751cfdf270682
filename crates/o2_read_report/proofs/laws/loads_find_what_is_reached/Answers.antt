use Rattle.o2_world.specs.Run.{after}
use Rattle.o2_world.proofs.StepTold.{told_along}
use Rattle.o2_read_report.proofs.Loads.{finds_reach}
use Rattle.o2_read_report.proofs.laws.loads_find_what_is_reached.Goals as goal

pub returns-clause-worlds : goal.returns-clause-worlds
returns-clause-worlds c = λ w q p sound told at s here. finds_reach w q p sound told at s here

pub returns-clause-runs : goal.returns-clause-runs
returns-clause-runs c = λ setting w k q p sound told at s here.
    let both = told_along setting w sound told k in
    finds_reach (after setting w k) q p both.0 both.1 at s here
