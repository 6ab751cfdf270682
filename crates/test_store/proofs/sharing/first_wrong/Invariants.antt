use Rattle.o2_store.specs.Trials.{IsReady}
use Rattle.test_store.proofs.sharing.first_wrong.Given as goal

abbrev pub invariant-loop-line : goal.invariant-loop-line
invariant-loop-line g l = IsReady l.store l.images (g.S.SwapDevice.blocks l.swap)
