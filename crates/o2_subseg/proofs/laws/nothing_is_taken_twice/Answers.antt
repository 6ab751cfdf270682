use Rattle.std.proofs.Common.{refl}
use Rattle.o2_subseg.proofs.Lowest.{runs_kept, call_leaves_taken}
use Rattle.o2_subseg.proofs.laws.nothing_is_taken_twice.Goals as goal

pub returns : goal.returns
returns c k first next last a b calls are be one e runs two = runs_kept k b be (call_leaves_taken first next one refl are e) runs two
