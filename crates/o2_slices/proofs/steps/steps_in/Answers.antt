use Rattle.std.proofs.Common.{◌+◌, ◌∙◌, refl, inl, inr, arith}
use Rattle.o2_slices.proofs.OverBus.{as_often, one_more}
use Rattle.o2_slices.proofs.steps.steps_in.Goals as goal

pub steps-init : goal.steps-init
steps-init c = record {
  steps = refl;
  within = omega arith;
  same_store = refl;
  same_regions = refl;
  process = c.requires.process;
  holds = c.requires.holds;
  agrees = c.requires.agrees;
}

pub steps-preserved : goal.steps-preserved
steps-preserved c =
    let e = c.step_in.ensures in
    record {
      steps = one_more c.args.pid c.steps.done _ _ _ c.steps.invariant.steps (c.in-Done.ensures.step refl);
      within = omega (arith, c.steps-test.true);
      same_store = e.same_store ∙ c.steps.invariant.same_store;
      same_regions = e.same_regions ∙ c.steps.invariant.same_regions;
      process = e.process;
      holds = e.holds;
      agrees = e.agrees;
    }

pub returns-in-Waits-clause-sliced : goal.returns-in-Waits-clause-sliced
returns-in-Waits-clause-sliced c = record {
  last = _;
  steps = as_often c.args.pid _ _ (c.in-Waits.ensures.again refl) (c.steps.done + 1) c.args.most
      (one_more c.args.pid c.steps.done _ _ _ c.steps.invariant.steps (c.in-Waits.ensures.step refl)) (omega (arith, c.steps-test.true));
  behind = inl refl;
}

pub returns-in-Undone-clause-sliced : goal.returns-in-Undone-clause-sliced
returns-in-Undone-clause-sliced c = record { last = _; steps = c.steps.invariant.steps; behind = inr (c.in-Undone.ensures.still refl) }

pub returns-else-not-has_trap_flag-clause-sliced : goal.returns-else-not-has_trap_flag-clause-sliced
returns-else-not-has_trap_flag-clause-sliced c = record { last = _; steps = c.steps.invariant.steps; behind = inl refl }

pub returns-after-steps-clause-sliced : goal.returns-after-steps-clause-sliced
returns-after-steps-clause-sliced c = record { last = _; steps = c.steps.invariant.steps; behind = inl refl }
