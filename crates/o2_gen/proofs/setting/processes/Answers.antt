use Rattle.o2_gen.proofs.Settings.{pushed}
use Rattle.o2_gen.proofs.setting.processes.Goals as goal

pub loop-preserved : goal.loop-preserved
loop-preserved c = pushed c.loop.counter _ _ _ _ c.in_ok-push.ensures.items c.in_ok-process.ensures c.loop.invariant
