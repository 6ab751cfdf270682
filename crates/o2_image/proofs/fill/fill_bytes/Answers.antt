use Rattle.std.proofs.Common.{[], refl}
use Rattle.o2_image.proofs.FillSteps.{filled}
use Rattle.o2_image.proofs.fill.fill_bytes.Goals as goal

pub returns : goal.returns
returns c = filled c.args.bytes.now c.args.bytes.now [] c.args.into.now c.copy_front.new.into c.copy_front.new.into refl c.copy_front.auto.into refl c.copy_front.ensures (λ k h. refl)
