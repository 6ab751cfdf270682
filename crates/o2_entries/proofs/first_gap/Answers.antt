use Rattle.std.proofs.Common.{◌≡◌, ◌≢◌, ◌+◌, ◌-◌, ◌/◌, get_or, arith}
use Rattle.o2_entries.proofs.Numbers.{gap_before, gap_after}
use Rattle.o2_entries.proofs.first_gap.Goals as goal

pub loop-low-preserved-then-live-middle : goal.loop-low-preserved-then-live-middle
loop-low-preserved-then-live-middle c =
    let i = c.loop-low.invariant in
    let m = c.loop-low.low + (c.loop-low.high - c.loop-low.low) / 2 in
    let t = c.loop-low-test.true in
    let e : get_or c.args.live.now m 0 ≡ m = c.if-live-middle.true in
    record {
      order = omega (arith, t);
      within = i.within;
      before = λ k l. gap_before c.args.live.now m k c.requires (omega (arith, t, i.within)) e (omega (arith, l));
      after = i.after;
    }

pub loop-low-preserved : goal.loop-low-preserved
loop-low-preserved c =
    let i = c.loop-low.invariant in
    let m = c.loop-low.low + (c.loop-low.high - c.loop-low.low) / 2 in
    let t = c.loop-low-test.true in
    let e : get_or c.args.live.now m 0 ≢ m = c.if-live-middle.false in
    record {
      order = omega (arith, i.order);
      within = omega (arith, t, i.within);
      before = i.before;
      after = λ k l w. gap_after c.args.live.now m k c.requires (omega (arith, t, i.within)) e (omega (arith, l)) w;
    }
