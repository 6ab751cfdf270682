use Rattle.o2_world.specs.Run.{after}
use Rattle.o2_ramsem_laws.specs.Kept.{number_at}
use Rattle.o2_ramsem_laws.proofs.Reports.{number_read_off}
use Rattle.o2_ramsem_laws.proofs.Runs.{played_along}
use Rattle.o2_ramsem_laws.proofs.laws.semaphores_are_read_off_the_report.Goals as goal

pub returns : goal.returns
returns c = λ s t w v place other first last k begin end j is low high also least most selectors offsets plain plainer e.
    number_read_off place other selectors offsets (number_at (after s w k) place) (number_at (after t v j) other) (after s w k) (after t v j)
    (played_along s w place first last is k low high) (played_along t v other begin end also j least most) plain plainer e
