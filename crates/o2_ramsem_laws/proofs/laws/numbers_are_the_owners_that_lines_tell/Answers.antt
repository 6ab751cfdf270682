use Rattle.o2_world.specs.Run.{after}
use Rattle.o2_ramsem_laws.specs.Told.{told}
use Rattle.o2_ramsem_laws.specs.Kept.{number_at}
use Rattle.o2_ramsem_laws.proofs.Openings.{opening_untold}
use Rattle.o2_ramsem_laws.proofs.Runs.{played_along}
use Rattle.o2_ramsem_laws.proofs.Sequences.{owner_is}
use Rattle.o2_ramsem_laws.proofs.laws.numbers_are_the_owners_that_lines_tell.Goals as goal

pub returns-clause-number : goal.returns-clause-number
returns-clause-number c = λ s w place first last k is low high.
    owner_is (number_at (after s w k) place) (told place (after s w k).lines) (played_along s w place first last is k low high)

pub returns-clause-answers : goal.returns-clause-answers
returns-clause-answers c = λ s w place first last k is low high. (played_along s w place first last is k low high).answers

pub returns-clause-opening : goal.returns-clause-opening
returns-clause-opening c = λ s reserved script input starts w e place. opening_untold place s reserved script input starts w e
