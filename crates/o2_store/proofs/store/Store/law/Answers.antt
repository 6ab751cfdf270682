use Rattle.std.proofs.Common.{length, arith}
use Rattle.o2_store.proofs.Loads.{all_blocks}
use Rattle.o2_store.proofs.store.Store.law.Goals as goal

pub returns-clause-sum : goal.returns-clause-sum
returns-clause-sum c = rw (← c.self.view_is) (c.law.ensures.sum (length c.self.inside.entries) (let e = c.self.invariant.0.places_most in omega (arith, e)))

pub returns-clause-blocks : goal.returns-clause-blocks
returns-clause-blocks c = rw (← c.self.view_is) (all_blocks c.self.inside.swap (length c.self.inside.entries) c.none_twice.ensures.long c.self.invariant.0.swap_most)
