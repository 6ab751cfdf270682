use Rattle.std.proofs.Common.{arith, refl}
use Rattle.o2_outer.specs.declared.sink.Put.TheVariants as put
use Rattle.o2_dumping.proofs.Imaging.{image_parts}
use Rattle.o2_dumping.proofs.ImageWhole.{image_back}
use Rattle.o2_dumping.proofs.Settling.{bases_low}
use Rattle.o2_dumping.proofs.Putting.{first_front, last_put, more_put, none_put, part_written, since}
use Rattle.o2_dumping.proofs.writer.write.Goals as goal

pub returns-in-Failed-clause-text : goal.returns-in-Failed-clause-text
returns-in-Failed-clause-text g c = λ told.
    first_front _ _ _ _ _ (image_parts c.args.machine.now.store.now c.args.machine.now.regions.now c.args.machine.now.processes.now (g.S.SwapDevice.block c.args.swap.now)
    c.args.machine.now.blocks c.args.machine.now.steps c.args.machine.now.console)
    (rw (c.as_slice.ensures, c.head_piece-head.ensures.text) at c.in-Failed.ensures.takes)

pub returns-in_default : goal.returns-in_default
returns-in_default g c = record {
  text = λ told.
      part_written _ _ _ _ _ _ _ _ c.in_default.not-Done
      (more_put _ _ _ _ _ _ _ (none_put _ _)
      (image_parts c.args.machine.now.store.now c.args.machine.now.regions.now c.args.machine.now.processes.now (g.S.SwapDevice.block c.args.swap.now)
      c.args.machine.now.blocks c.args.machine.now.steps c.args.machine.now.console)
      (rw (c.as_slice.ensures, c.head_piece-head.ensures.text) at c.in-Done.ensures.takes))
      refl (c.put_segments.ensures.text told);
  read_back = λ held enough told done. absurd (c.in_default.not-Done done);
  apart = c.head_piece-head.ensures.apart;
  read = c.put_segments.ensures.read;
  causes = since _ _ _ _ _ _ _ c.in-Done.ensures.count (omega arith) c.put_segments.ensures.causes;
  idle = c.put_segments.ensures.idle;
}

pub put_behind-requires-clause-base : goal.put_behind-requires-clause-base
put_behind-requires-clause-base g c =
    bases_low c.args.machine.now.store.now c.args.machine.now.regions.now c.requires.settled c.law.ensures.shelf c.law.ensures.within c.law.ensures.positive

pub returns-in-Done-put_behind-clause-text : goal.returns-in-Done-put_behind-clause-text
returns-in-Done-put_behind-clause-text g c = λ told.
    last_put _ _ _ _ _ put.Done
    (more_put _ _ _ _ _ _ _
    (more_put _ _ _ _ _ _ _ (none_put _ _)
    (image_parts c.args.machine.now.store.now c.args.machine.now.regions.now c.args.machine.now.processes.now (g.S.SwapDevice.block c.args.swap.now)
    c.args.machine.now.blocks c.args.machine.now.steps c.args.machine.now.console)
    (rw (c.as_slice.ensures, c.head_piece-head.ensures.text) at c.in-Done.ensures.takes))
    refl (c.in-Done-put_segments.ensures.text told))
    c.in-Done-put_behind.ensures.text

pub returns-in-Failed-put_behind-clause-text : goal.returns-in-Failed-put_behind-clause-text
returns-in-Failed-put_behind-clause-text g c = λ told.
    last_put _ _ _ _ _ put.Failed
    (more_put _ _ _ _ _ _ _
    (more_put _ _ _ _ _ _ _ (none_put _ _)
    (image_parts c.args.machine.now.store.now c.args.machine.now.regions.now c.args.machine.now.processes.now (g.S.SwapDevice.block c.args.swap.now)
    c.args.machine.now.blocks c.args.machine.now.steps c.args.machine.now.console)
    (rw (c.as_slice.ensures, c.head_piece-head.ensures.text) at c.in-Done.ensures.takes))
    refl (c.in-Done-put_segments.ensures.text told))
    c.in-Failed-put_behind.ensures.text

pub returns-in-Done-put_behind-clause-read_back : goal.returns-in-Done-put_behind-clause-read_back
returns-in-Done-put_behind-clause-read_back g c = λ held enough told done.
    image_back c.args.machine.now.store.now c.args.machine.now.regions.now c.args.machine.now.processes.now (g.S.SwapDevice.block c.args.swap.now) c.args.machine.now.blocks
    c.args.machine.now.steps c.args.machine.now.console
    (record {
      shelf = c.law.ensures.shelf;
      once = c.law.ensures.once;
      below = c.law.ensures.below;
      within = c.law.ensures.within;
      positive = c.law.ensures.positive;
      apart = c.law.ensures.apart;
    })
    c.law-2.ensures c.requires.settled held
    (bases_low c.args.machine.now.store.now c.args.machine.now.regions.now c.requires.settled c.law.ensures.shelf c.law.ensures.within c.law.ensures.positive)
    enough c.head_piece-head.ensures.blocks c.head_piece-head.ensures.steps c.head_piece-head.ensures.console c.requires.processes
    (c.in-Done-put_behind.ensures.rows refl) (c.in-Done-put_behind.ensures.fits refl) (c.in-Done-put_segments.ensures.fits told refl)
