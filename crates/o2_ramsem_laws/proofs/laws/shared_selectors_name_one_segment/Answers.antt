use Rattle.o2_ramsem_laws.proofs.Sharing.{shared_is}
use Rattle.o2_ramsem_laws.proofs.laws.shared_selectors_name_one_segment.Goals as goal

pub returns : goal.returns
returns c = shared_is
