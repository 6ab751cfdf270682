use Rattle.o2_store.specs.Trials.{IsReady}
use Rattle.o2_service.specs.Trials.{IsUnheld}
use Rattle.test_service.proofs.scripts.first_part.Given as goal

abbrev pub invariant-loop-part : goal.invariant-loop-part
invariant-loop-part g l = record { ready : IsReady l.store l.images (g.S.SwapDevice.blocks l.swap); unheld : IsUnheld l.regions }
