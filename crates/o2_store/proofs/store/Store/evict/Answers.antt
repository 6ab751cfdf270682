use Rattle.std.proofs.Common.{refl, subst}
use Rattle.o2_store.specs.Shelf.{Shelf, IsFull}
use Rattle.o2_store.proofs.Departing.{leave_still}
use Rattle.o2_store.proofs.Loads.{full_load}
use Rattle.o2_store.proofs.store.Store.evict.Goals as goal

pub returns-clause-loads : goal.returns-clause-loads
returns-clause-loads g c = λ e. full_load c.args.self.now c.law.ensures.shelf c.law.ensures.blocks (subst (λ (x : Shelf). IsFull x) (c.evict_one.ensures.lacks e).0 (c.evict_one.ensures.full e))

pub returns-then-is_none-clause-leave : goal.returns-then-is_none-clause-leave
returns-then-is_none-clause-leave g c = λ len l. leave_still c.args.self.now c.args.self.now len refl

pub returns-then-is_none-2-clause-leave : goal.returns-then-is_none-2-clause-leave
returns-then-is_none-2-clause-leave g c = λ len l. leave_still c.args.self.now c.args.self.now len refl
