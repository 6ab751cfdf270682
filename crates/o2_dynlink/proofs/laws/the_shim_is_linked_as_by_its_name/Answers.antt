use Rattle.o2_dynlink.proofs.Shims.{called_alike, ordinal_alike}
use Rattle.o2_dynlink.proofs.laws.the_shim_is_linked_as_by_its_name.Goals as goal

pub returns : goal.returns
returns c = record { ordinal = ordinal_alike; called = called_alike }
