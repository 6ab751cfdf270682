use Rattle.o2_store.specs.Trials.{IsReady}
use Rattle.test_store.proofs.plain.unlock_each.Given as goal

abbrev pub invariant-loop-segment : goal.invariant-loop-segment
invariant-loop-segment g l = IsReady l.store l.images (g.S.SwapDevice.blocks l.swap)
