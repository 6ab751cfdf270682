use Rattle.std.proofs.Common.{ap, sym, ◌∙◌, refl, arith}
use Rattle.o2_conf.specs.Dispatch.{lives}
use Rattle.o2_sched.specs.Schedule.{Schedule, work_left}
use Rattle.o2_segs.proofs.Sharing.{few_more}
use Rattle.o2_machine.proofs.Slicing.{not_stopped}
use Rattle.o2_machine.proofs.Turns.{same_space}
use Rattle.o2_machine.proofs.turn.MachineSteps.slice.Goals as goal

pub returns-then-is_some-clause-steps : goal.returns-then-is_some-clause-steps
returns-then-is_some-clause-steps c = λ device block s w stands. record { wordless = λ j below. absurd (omega (arith, below)); silent = λ j below. absurd (omega (arith, below)); stands = stands }

pub returns-then-ahead-eq0-clause-steps : goal.returns-then-ahead-eq0-clause-steps
returns-then-ahead-eq0-clause-steps c = λ device block s w stands. record {
  wordless = λ j below. absurd (omega (arith, below));
  silent = λ j below. absurd (omega (arith, below));
  stands = same_space _ c.args.self.now _ _ _ _ s w stands (record { sched = c.ahead-ahead.ensures.same; avail = refl; budget = refl; bytes = refl; lines = refl }) stands.space stands.set stands.spells;
}

pub returns-then-ahead-eq0-clause-same : goal.returns-then-ahead-eq0-clause-same
returns-then-ahead-eq0-clause-same c = λ last e. absurd (not_stopped c.args.self.now.last last (sym c.is_some.ensures ∙ c.if-is_some.false) e)

pub returns-clause-steps : goal.returns-clause-steps
returns-clause-steps c = λ device block s w stands.
    c.steps_at_once.ensures.steps device block s w
    (same_space _ c.args.self.now _ _ _ _ s w stands (record { sched = c.ahead-ahead.ensures.same; avail = refl; budget = refl; bytes = refl; lines = refl }) stands.space stands.set stands.spells)

pub returns-clause-same : goal.returns-clause-same
returns-clause-same c = λ last e. absurd (not_stopped c.args.self.now.last last (sym c.is_some.ensures ∙ c.if-is_some.false) e)

pub returns-clause-device : goal.returns-clause-device
returns-clause-device c = λ blocks goes.
    c.steps_at_once.ensures.device blocks (record {
      together = goes.together;
      marked = λ n. goes.marked n ∙ ap (λ (z : Schedule). lives z.flags n) (sym c.ahead-ahead.ensures.same);
      few = (let f = goes.few in let b = ap (λ (z : Schedule). z.dispatch.budget) c.ahead-ahead.ensures.same in omega (arith, f, b));
      budget = (let f = goes.budget in let b = ap (λ (z : Schedule). z.dispatch.budget) c.ahead-ahead.ensures.same in omega (arith, f, b));
      held = few_more _ _ _ (let b = ap (λ (z : Schedule). z.dispatch.budget) c.ahead-ahead.ensures.same in omega (arith, b)) goes.held;
    })

pub returns-clause-idle : goal.returns-clause-idle
returns-clause-idle c = λ none. c.steps_at_once.ensures.idle none

pub returns-then-ahead-eq0-clause-left : goal.returns-then-ahead-eq0-clause-left
returns-then-ahead-eq0-clause-left c = (let same = ap work_left c.ahead-ahead.ensures.same in omega (arith, same))

pub returns-clause-left : goal.returns-clause-left
returns-clause-left c = (let same = ap work_left c.ahead-ahead.ensures.same in let left = c.steps_at_once.ensures.left in omega (arith, same, left))
