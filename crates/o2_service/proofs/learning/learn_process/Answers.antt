use Rattle.std.proofs.Common.{◌∙◌, sym, arith}
use Rattle.o2_service.proofs.Clocks.{below_end, below_far, below_next, held_learned, learns_refl, learns_trans, next_from, next_small, none_below}
use Rattle.o2_service.proofs.learning.learn_process.Goals as goal

pub loop-round-init : goal.loop-round-init
loop-round-init c = record { learned = learns_refl c.args.store.now c.args.regions.now; held = c.requires.held; clear = none_below c.args.regions.now c.args.pid; rises = omega arith }

pub loop-round-preserved : goal.loop-round-preserved
loop-round-preserved c =
    let i = c.loop-round.invariant in
    let e = c.learn_at.ensures.learned in
    record {
      learned = learns_trans c.args.store.now c.loop-round.store c.learn_at.new.store c.args.regions.now c.loop-round.regions c.learn_at.new.regions i.learned e;
      held = held_learned c.loop-round.store c.learn_at.new.store c.loop-round.regions c.learn_at.new.regions e i.held;
      clear = below_next c.loop-round.regions c.learn_at.new.regions c.args.pid c.loop-round.from c.in-Some.index (sym c.next_held.ensures ∙ c.in-Some.is) i.clear e.bits c.learn_at.ensures.clear;
      rises = (let l = next_from c.loop-round.regions c.args.pid c.loop-round.from c.in-Some.index (sym c.next_held.ensures ∙ c.in-Some.is) in omega (arith, i.rises, l));
    }

pub returns-in_default-clause-clear : goal.returns-in_default-clause-clear
returns-in_default-clause-clear c = below_end c.loop-round.regions c.args.pid c.loop-round.from (sym c.next_held.ensures ∙ c.in_default.is) c.loop-round.invariant.clear

pub returns-clause-clear : goal.returns-clause-clear
returns-clause-clear c = below_far c.loop-round.regions c.args.pid c.loop-round.from (omega (arith, c.loop-round.invariant.rises, c.loop-round-test.false)) c.loop-round.invariant.clear

pub learn_at-requires-clause-index : goal.learn_at-requires-clause-index
learn_at-requires-clause-index c = next_small c.loop-round.regions c.args.pid c.loop-round.from c.in-Some.index (sym c.next_held.ensures ∙ c.in-Some.is)

pub overflow_add-from : goal.overflow_add-from
overflow_add-from c = (let l = next_small c.loop-round.regions c.args.pid c.loop-round.from c.in-Some.index (sym c.next_held.ensures ∙ c.in-Some.is) in omega (arith, l))
