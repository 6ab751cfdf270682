use Rattle.o2_bus.proofs.Filled.{filled_longer}
use Rattle.o2_bus.proofs.plain.Plain.add.Goals as goal

pub invariant_of-self : goal.invariant_of-self
invariant_of-self c = record { filled = filled_longer _ _ _ c.args.self.now.filled c.push_segment.ensures.kept }
