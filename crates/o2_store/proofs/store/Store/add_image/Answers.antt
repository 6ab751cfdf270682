use Rattle.std.proofs.Common.{refl}
use Rattle.o2_store.proofs.Added.{image_added, others_added}
use Rattle.o2_store.proofs.store.Store.add_image.Goals as goal

pub returns-clause-bytes : goal.returns-clause-bytes
returns-clause-bytes c = image_added c.args.self.now c.add.new.self _ c.args.module c.args.seg c.add.result c.law.ensures.shelf refl c.add.ensures.added

pub returns-clause-others : goal.returns-clause-others
returns-clause-others c = others_added c.args.self.now c.add.new.self _ c.add.result c.add.ensures.added
