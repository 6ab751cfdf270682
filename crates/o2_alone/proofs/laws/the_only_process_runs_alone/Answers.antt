use Rattle.o2_world.specs.Starts.{all_started}
use Rattle.std.proofs.Common.{refl}
use Rattle.o2_alone.proofs.laws.the_only_process_runs_alone.Goals as goal

pub returns : goal.returns
unfolding all_started
returns c = λ s reserved input start. refl
