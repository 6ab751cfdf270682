use Rattle.std.proofs.Common.{refl}
use Rattle.o2_store.proofs.Added.{zeros_added, others_added}
use Rattle.o2_store.proofs.store.Store.add_zero.Goals as goal

pub returns-clause-zeros : goal.returns-clause-zeros
returns-clause-zeros c = zeros_added c.args.self.now c.add.new.self _ c.add.result c.law.ensures.shelf refl c.add.ensures.added

pub returns-clause-others : goal.returns-clause-others
returns-clause-others c = others_added c.args.self.now c.add.new.self _ c.add.result c.add.ensures.added
