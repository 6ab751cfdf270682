use Rattle.o2_segbus.proofs.Writings.{inside_is}
use Rattle.o2_segbus.proofs.seg_bus.SegBus.over_registers.Goals as goal

pub invariant_of-result : goal.invariant_of-result
invariant_of-result c =
    record {
      process = c.requires.process;
      inside = inside_is c.args.store.now c.law.ensures.shelf c.law.ensures.within;
      named = c.requires.named;
      settled = c.requires.settled;
      loaded = c.requires.loaded;
    }
