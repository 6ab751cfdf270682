use Rattle.o2_world.proofs.TiedWorld.{changed_tied}
use Rattle.o2_world.proofs.laws.fit_changes_keep_a_world_tied.Goals as goal

pub returns : goal.returns
returns c = λ w d p e at lives good sizes. changed_tied w d p e at lives good sizes
