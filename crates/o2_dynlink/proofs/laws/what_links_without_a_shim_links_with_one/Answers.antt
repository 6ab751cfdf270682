use Rattle.o2_dynlink.proofs.Shims.{links_with_it}
use Rattle.o2_dynlink.proofs.laws.what_links_without_a_shim_links_with_one.Goals as goal

pub returns : goal.returns
returns c = links_with_it
