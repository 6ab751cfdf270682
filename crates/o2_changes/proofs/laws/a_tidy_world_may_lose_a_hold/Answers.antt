use Rattle.o2_changes.proofs.Losing.{loses_one}
use Rattle.o2_changes.proofs.laws.a_tidy_world_may_lose_a_hold.Goals as goal

pub returns : goal.returns
returns c = loses_one
