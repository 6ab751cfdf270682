use Rattle.o2_service.proofs.Unheld.{unheld_new}
use Rattle.test_service.proofs.calls.nobody.Goals as goal

pub returns : goal.returns
returns c = unheld_new c.in_ok-regions.regions 1 c.in_ok-regions.ensures.nothing c.in_ok-regions.ensures.unheld
