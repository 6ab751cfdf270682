use Rattle.std.proofs.Common.{arith, ◌+◌, ◌-◌, ◌/◌}
use Rattle.o2_entries.proofs.Numbers.{rises}
use Rattle.o2_dumping.specs.Told.{numbers}
use Rattle.o2_dumping.proofs.Lists.{are_below, are_from, is_place}
use Rattle.o2_dumping.proofs.places.place_among.Goals as goal

pub loop-low-preserved-then-is_below : goal.loop-low-preserved-then-is_below
loop-low-preserved-then-is_below c = record {
  order = omega arith;
  within = c.loop-low.invariant.within;
  below = are_below (numbers c.args.store.now) c.args.key (c.loop-low.low + (c.loop-low.high - c.loop-low.low) / 2) c.is_below.result
      (rises 0 c.args.store.now.entries) (omega arith) c.is_below.ensures c.if-is_below.true;
  from = c.loop-low.invariant.from;
}

pub loop-low-preserved : goal.loop-low-preserved
loop-low-preserved c = record {
  order = omega arith;
  within = omega arith;
  below = c.loop-low.invariant.below;
  from = are_from (numbers c.args.store.now) c.args.key (c.loop-low.low + (c.loop-low.high - c.loop-low.low) / 2) c.is_below.result
      (rises 0 c.args.store.now.entries) c.is_below.ensures c.if-is_below.false;
}

pub returns : goal.returns
returns c = is_place (numbers c.args.store.now) c.args.key c.loop-low.low (omega arith) c.loop-low.invariant.below
    (λ i h l. c.loop-low.invariant.from i (omega arith) l)
