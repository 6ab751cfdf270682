use Rattle.o2_service.proofs.Clocks.{held_learned, learns_refl, learns_trans, to_first, to_next}
use Rattle.o2_service.proofs.learning.learn_held.Goals as goal

pub loop-pid-init : goal.loop-pid-init
loop-pid-init c = record { learned = learns_refl c.args.store.now c.args.regions.now; held = c.requires.held; clear = to_first c.args.regions.now c.law.ensures }

pub loop-pid-preserved : goal.loop-pid-preserved
loop-pid-preserved c =
    let i = c.loop-pid.invariant in
    let e = c.learn_process.ensures.learned in
    record {
      learned = learns_trans c.args.store.now c.loop-pid.store c.learn_process.new.store c.args.regions.now c.loop-pid.regions c.learn_process.new.regions i.learned e;
      held = held_learned c.loop-pid.store c.learn_process.new.store c.loop-pid.regions c.learn_process.new.regions e i.held;
      clear = to_next c.loop-pid.regions c.learn_process.new.regions c.loop-pid.pid e.bits i.clear c.learn_process.ensures.clear;
    }
