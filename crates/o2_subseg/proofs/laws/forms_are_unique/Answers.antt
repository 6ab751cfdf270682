use Rattle.std.proofs.Common.{ap}
use Rattle.o2_world.specs.Heaps.{controls}
use Rattle.o2_subseg.proofs.Chains.{heap_read}
use Rattle.o2_subseg.proofs.Forms.{heaps_same}
use Rattle.o2_subseg.proofs.laws.forms_are_unique.Goals as goal

pub returns : goal.returns
returns c b d g h are be e f sized same = ap controls (heaps_same b d g h (heap_read b g are e) (heap_read d h be f) sized same)
