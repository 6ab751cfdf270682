use Rattle.o2_dumping.proofs.ImageWhole.{image_apart}
use Rattle.o2_dumping.proofs.writer.head_piece.Goals as goal

pub returns-clause-apart : goal.returns-clause-apart
returns-clause-apart c = λ enough block core is.
    image_apart c.args.machine.now.store.now c.args.machine.now.regions.now c.args.machine.now.processes.now block c.args.machine.now.blocks c.args.machine.now.steps c.args.machine.now.console
    (record {
      shelf = c.law.ensures.shelf;
      once = c.law.ensures.once;
      below = c.law.ensures.below;
      within = c.law.ensures.within;
      positive = c.law.ensures.positive;
      apart = c.law.ensures.apart;
    })
    enough core is
