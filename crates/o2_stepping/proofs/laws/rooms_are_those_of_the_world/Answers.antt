use Rattle.o2_stepping.proofs.NextRooms.{fits, fits_in_part, full, lacks}
use Rattle.o2_stepping.proofs.laws.rooms_are_those_of_the_world.Goals as goal

pub returns-clause-fits : goal.returns-clause-fits
returns-clause-fits c = λ p s w q m d next same is quiet room. fits p s w q next m d same is quiet room

pub returns-clause-lacks : goal.returns-clause-lacks
returns-clause-lacks c = λ p s w q next more. lacks p s w q next more

pub returns-clause-full : goal.returns-clause-full
returns-clause-full c = λ p s w lawful set stands wordless x. full p s w lawful set stands wordless x

pub returns-clause-fits_in_part : goal.returns-clause-fits_in_part
returns-clause-fits_in_part c = λ p s w q m d next same is stay quiet room. fits_in_part p s w q next m d same is stay quiet room
