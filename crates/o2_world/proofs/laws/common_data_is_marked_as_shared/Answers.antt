-- Computed from the definitions.
use Rattle.std.proofs.Common.{refl}
use Rattle.o2_world.specs.Starts.{all_started}
use Rattle.o2_world.proofs.laws.common_data_is_marked_as_shared.Goals as goal

pub returns : goal.returns
unfolding all_started
returns c = refl
