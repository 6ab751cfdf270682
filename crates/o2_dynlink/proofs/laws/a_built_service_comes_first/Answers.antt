use Rattle.o2_dynlink.proofs.Shims.{called_first, ordinal_first}
use Rattle.o2_dynlink.proofs.laws.a_built_service_comes_first.Goals as goal

pub returns : goal.returns
returns c = record { ordinal = ordinal_first; called = called_first }
