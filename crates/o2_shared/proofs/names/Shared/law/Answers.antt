use Rattle.o2_shared.proofs.Ordered.{distinct}
use Rattle.o2_shared.proofs.names.Shared.law.Goals as goal

pub returns-clause-distinct : goal.returns-clause-distinct
returns-clause-distinct c = rw (← c.self.view_is) (distinct c.self.inside.names.items c.self.inside.order.items c.self.invariant.1)
