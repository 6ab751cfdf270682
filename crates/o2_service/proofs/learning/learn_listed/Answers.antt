use Rattle.o2_service.proofs.Clocks.{held_learned, learns_refl, learns_trans}
use Rattle.o2_service.proofs.learning.learn_listed.Goals as goal

pub loop-round-init : goal.loop-round-init
loop-round-init c = record { learned = learns_refl c.args.store.now c.args.regions.now; held = c.requires.held }

pub loop-round-preserved : goal.loop-round-preserved
loop-round-preserved c =
    let i = c.loop-round.invariant in
    let e = c.learn_next.ensures.learned in
    record {
      learned = learns_trans c.args.store.now c.loop-round.store c.learn_next.new.store c.args.regions.now c.loop-round.regions c.learn_next.new.regions i.learned e;
      held = held_learned c.loop-round.store c.learn_next.new.store c.loop-round.regions c.learn_next.new.regions e i.held;
    }

pub returns-in-Clear-clause-learned : goal.returns-in-Clear-clause-learned
returns-in-Clear-clause-learned c =
    learns_trans c.args.store.now c.loop-round.store c.learn_next.new.store c.args.regions.now c.loop-round.regions c.learn_next.new.regions c.loop-round.invariant.learned c.learn_next.ensures.learned

pub returns-in-More-clause-learned : goal.returns-in-More-clause-learned
returns-in-More-clause-learned c =
    learns_trans c.args.store.now c.loop-round.store c.learn_next.new.store c.args.regions.now c.loop-round.regions c.learn_next.new.regions c.loop-round.invariant.learned c.learn_next.ensures.learned
