use Rattle.std.proofs.Common.{subst}
use Rattle.o2_image.specs.Whole.{IsRunnable}
use Rattle.o2_image.proofs.Runnable.{runnable}
use Rattle.o2_image.proofs.module.Module.is_runnable.Goals as goal

pub returns : goal.returns
returns c = subst IsRunnable c.self.view_is (runnable _ _ _ _ _ c.self.invariant c.module.ensures.own c.as_slice.ensures.sizes)
