use Rattle.o2_dynlink.proofs.Items.{nth_item, nth_there}
use Rattle.o2_dynlink.proofs.listed.reference_from_0.Goals as goal

pub unreachable-requires : goal.unreachable-requires
unreachable-requires c = nth_there _ c.args.k c.requires.exists c.in-None.ensures

pub returns : goal.returns
returns c = nth_item _ c.args.k _ _ c.in-Some.ensures
