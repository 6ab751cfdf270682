use Rattle.std.proofs.Common.{refl}
use Rattle.o2_store.proofs.Added.{front_added, others_added}
use Rattle.o2_store.proofs.store.Store.add_front.Goals as goal

pub returns-clause-bytes : goal.returns-clause-bytes
returns-clause-bytes c = front_added c.args.self.now c.add.new.self _ c.args.module c.args.seg c.add.result c.law.ensures.shelf refl c.add.ensures.added

pub returns-clause-others : goal.returns-clause-others
returns-clause-others c = others_added c.args.self.now c.add.new.self _ c.add.result c.add.ensures.added
