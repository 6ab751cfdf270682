use Rattle.std.proofs.Common.{None, IsTrue, arith, length, ◌∙◌, sym, subst}
use Rattle.std.proofs.lemmas.Result.{err_from_is_err_and}
use Rattle.o2_outer.proofs.Inputs.{goes_then, seen_before}
use Rattle.o2_run.proofs.Reached.{gains_untold, input_at, went_by, closed_by, fits_at, rose_since}
use Rattle.o2_run.proofs.StopLines.{failed_last, lined_by}
use Rattle.o2_run.proofs.Sliced.{sliced}
use Rattle.o2_run.proofs.Answered.{gives, ran_is, still_fresh, end_is, fault_is, ends_with, ends_at, cause_of, either_rose, for_input}
use Rattle.o2_run.proofs.whole.run.Goals as goal

pub slice-done-requires : goal.slice-done-requires
slice-done-requires g c = record { device = record { blocks = g.S.SwapDevice.blocks c.steps.swap; over = c.steps.invariant.device } }

pub turn-requires : goal.turn-requires
turn-requires g c = record { device = c.slice-done.ensures.device _ c.steps.invariant.device }

pub steps-preserved-then-done-gt0 : goal.steps-preserved-then-done-gt0
steps-preserved-then-done-gt0 g c = record {
  fresh = λ n. c.slice-done.ensures.stops ∙ c.steps.invariant.fresh n;
  device = c.slice-done.ensures.device _ c.steps.invariant.device;
  goes_on = c.steps.invariant.goes_on;
  reached = λ n tells text may s w a b stands input to_console to_report.
      let before = c.steps.invariant.reached n tells text may s w a b stands input to_console to_report in
      sliced _ s w _ _ _ _ _ _ _ _ c.slice-done.result before (c.slice-done.ensures.steps _ _ s _ before.stands);
  input_count = c.steps.invariant.input_count;
  console_count = c.steps.invariant.console_count;
  report_count = c.steps.invariant.report_count;
  swap_count = c.steps.invariant.swap_count;
  swap_blocks = c.steps.invariant.swap_blocks;
  fixed = c.slice-done.ensures.fixed ∙ c.steps.invariant.fixed;
  swap_told = c.steps.invariant.swap_told;
  unswapped = c.steps.invariant.unswapped;
  idle = λ n tells text may s w stands input none fits.
      let still = c.steps.invariant.idle n tells text may s w stands input none fits in
      (still.0, c.slice-done.ensures.idle still.1);
}

pub steps-preserved : goal.steps-preserved
steps-preserved g c =
    let is = ran_is c.turn.result (gives _ _ _ c.in_ok-more.ensures c.if-not-more.false) in
    record {
      fresh = λ n. c.turn.ensures.stops ∙ still_fresh c.turn.result is;
      device = c.turn.ensures.device;
      goes_on = goes_then _ _ _ c.steps.invariant.goes_on c.turn.ensures.goes_on;
      reached = λ n tells text may s w a b stands input to_console to_report.
          let before = c.steps.invariant.reached n (c.turn.ensures.swap_told tells) text (seen_before text _ _ c.turn.ensures.goes_on may) s w a b stands input to_console to_report in
          let h = sliced _ s w _ _ _ _ _ _ _ _ c.slice-done.result before (c.slice-done.ensures.steps _ _ s _ before.stands) in
          went_by _ _ _ (g.S.SwapDevice.blocks c.steps.swap) s w _ _ _ _ _ _ _ _ _ _ _ _ _ _ (length w.lines) c.turn.result is _ h _
          (c.turn.ensures.turns (c.slice-done.ensures.stops ∙ c.steps.invariant.fresh n) tells text may s _ h.stands (input_at h))
          (c.turn.ensures.puts (c.slice-done.ensures.stops ∙ c.steps.invariant.fresh n) tells text may s _ h.stands (input_at h));
      input_count = omega (arith, c.steps.invariant.input_count, c.turn.ensures.input_count);
      console_count = omega (arith, c.steps.invariant.console_count, c.turn.ensures.console_count);
      report_count = omega (arith, c.steps.invariant.report_count, c.turn.ensures.report_count);
      swap_count = omega (arith, c.steps.invariant.swap_count, c.turn.ensures.swap_count);
      swap_blocks = c.turn.ensures.swap_blocks ∙ c.steps.invariant.swap_blocks;
      fixed = c.turn.ensures.fixed ∙ (c.slice-done.ensures.fixed ∙ c.steps.invariant.fixed);
      swap_told = λ w. c.steps.invariant.swap_told (c.turn.ensures.swap_told w);
      unswapped = λ e. c.turn.ensures.unswapped e ∙ c.steps.invariant.unswapped e;
      idle = λ n tells text may s w stands input none fits.
          let S = g.S.SwapDevice in
          let still = c.steps.invariant.idle n tells text (seen_before text _ _ c.turn.ensures.goes_on may) s w stands input none fits in
          let told : IsTrue (S.told c.steps.swap) = subst (λ z. IsTrue (S.told z)) (sym still.0) tells in
          let before = c.steps.invariant.reached n told text (seen_before text _ _ c.turn.ensures.goes_on may) s w None None stands input (gains_untold _ _) (gains_untold _ _) in
          let h = sliced _ s w _ _ _ _ _ _ _ _ c.slice-done.result before (c.slice-done.ensures.steps _ _ s _ before.stands) in
          let turned = c.turn.ensures.idle (c.slice-done.ensures.stops ∙ c.steps.invariant.fresh n) told text may s _ h.stands (input_at h) (c.slice-done.ensures.idle still.1) (fits_at h fits) in
          (turned.0 ∙ still.0, turned.1);
    }

pub returns-then-not-more-clause-texts : goal.returns-then-not-more-clause-texts
returns-then-not-more-clause-texts g c = λ n tells text may s w a b stands input to_console to_report.
    let before = c.steps.invariant.reached n (c.turn.ensures.swap_told tells) text (seen_before text _ _ c.turn.ensures.goes_on may) s w a b stands input to_console to_report in
    let h = sliced _ s w _ _ _ _ _ _ _ _ c.slice-done.result before (c.slice-done.ensures.steps _ _ s _ before.stands) in
    closed_by _ _ _ (g.S.SwapDevice.blocks c.args.swap.now) s w _ _ _ _ _ _ _ _ _ _ _ _ _ _ (length w.lines) c.turn.result (end_is c.turn.result (gives _ _ _ c.in_ok-more.ensures c.if-not-more.true)) _ h _ (Unit {0})
    (c.turn.ensures.turns (c.slice-done.ensures.stops ∙ c.steps.invariant.fresh n) tells text may s _ h.stands (input_at h)) (c.turn.ensures.puts (c.slice-done.ensures.stops ∙ c.steps.invariant.fresh n) tells text may s _ h.stands (input_at h))

pub returns-then-not-more-clause-stopped : goal.returns-then-not-more-clause-stopped
returns-then-not-more-clause-stopped g c = ends_at _ c.turn.result (gives _ _ _ c.in_ok-more.ensures c.if-not-more.true) c.turn.ensures.stops

pub returns-in_err-more-clause-texts : goal.returns-in_err-more-clause-texts
returns-in_err-more-clause-texts g c = λ n tells text may s w a b stands input to_console to_report.
    let p = err_from_is_err_and c.from_residual.result c.from_residual.ensures.1 in
    let fresh = c.slice-done.ensures.stops ∙ c.steps.invariant.fresh n in
    let before = c.steps.invariant.reached n (c.turn.ensures.swap_told tells) text (seen_before text _ _ c.turn.ensures.goes_on may) s w a b stands input to_console to_report in
    let h = sliced _ s w _ _ _ _ _ _ _ _ c.slice-done.result before (c.slice-done.ensures.steps _ _ s _ before.stands) in
    rw (p.1, p.2) (lined_by _ _ _ (g.S.SwapDevice.blocks c.args.swap.now) s w _ _ _ _ _ _ _ _ _ _ _ _ _ _ (length w.lines) c.turn.result _ (fault_is c.turn.result _ (sym c.in_err-more.ensures)) _ c.steps.invariant.swap_blocks h _ _ _
    (failed_last g.R.Sink.puts g.R.Sink.faults c.args.report.now c.steps.report c.turn.new.report c.steps.invariant.report_count) (c.turn.ensures.line fresh) (c.turn.ensures.turns fresh tells text may s _ h.stands (input_at h)) (c.turn.ensures.puts fresh tells text may s _ h.stands (input_at h)))

pub returns-in_err-more-clause-stopped : goal.returns-in_err-more-clause-stopped
returns-in_err-more-clause-stopped g c =
    let p = err_from_is_err_and c.from_residual.result c.from_residual.ensures.1 in
    rw (p.1, p.2) (ends_with _ c.turn.result _ (sym c.in_err-more.ensures) c.turn.ensures.stops)

pub returns-in_err-more-clause-no_swap_stop : goal.returns-in_err-more-clause-no_swap_stop
returns-in_err-more-clause-no_swap_stop g c = λ off n.
    let p = err_from_is_err_and c.from_residual.result c.from_residual.ensures.1 in
    rw (p.1, p.2) (for_input c.turn.result _ (sym c.in_err-more.ensures) (c.turn.ensures.no_swap_stop off (c.slice-done.ensures.stops ∙ c.steps.invariant.fresh n)))

pub returns-in_err-more-clause-cause : goal.returns-in_err-more-clause-cause
returns-in_err-more-clause-cause g c = λ n.
    let p = err_from_is_err_and c.from_residual.result c.from_residual.ensures.1 in
    rw (p.1, p.2) (cause_of _ _ _ _ _ _ (either_rose _ _ _ _ _ _ c.steps.invariant.console_count c.steps.invariant.report_count) (rose_since _ _ _ c.steps.invariant.input_count) (rose_since _ _ _ c.steps.invariant.swap_count)
    c.turn.result _ (sym c.in_err-more.ensures) (c.turn.ensures.cause (c.slice-done.ensures.stops ∙ c.steps.invariant.fresh n)))

pub returns-then-not-more-clause-goes_on : goal.returns-then-not-more-clause-goes_on
returns-then-not-more-clause-goes_on g c = goes_then _ _ _ c.steps.invariant.goes_on c.turn.ensures.goes_on

pub returns-in_err-more-clause-goes_on : goal.returns-in_err-more-clause-goes_on
returns-in_err-more-clause-goes_on g c = goes_then _ _ _ c.steps.invariant.goes_on c.turn.ensures.goes_on

pub returns-then-not-more-clause-idle : goal.returns-then-not-more-clause-idle
returns-then-not-more-clause-idle g c = λ n tells text may s w stands input none fits.
    let S = g.S.SwapDevice in
    let still = c.steps.invariant.idle n tells text (seen_before text _ _ c.turn.ensures.goes_on may) s w stands input none fits in
    let told : IsTrue (S.told c.steps.swap) = subst (λ z. IsTrue (S.told z)) (sym still.0) tells in
    let before = c.steps.invariant.reached n told text (seen_before text _ _ c.turn.ensures.goes_on may) s w None None stands input (gains_untold _ _) (gains_untold _ _) in
    let h = sliced _ s w _ _ _ _ _ _ _ _ c.slice-done.result before (c.slice-done.ensures.steps _ _ s _ before.stands) in
    let turned = c.turn.ensures.idle (c.slice-done.ensures.stops ∙ c.steps.invariant.fresh n) told text may s _ h.stands (input_at h) (c.slice-done.ensures.idle still.1) (fits_at h fits) in
    (turned.0 ∙ still.0, turned.1)

pub returns-in_err-more-clause-idle : goal.returns-in_err-more-clause-idle
returns-in_err-more-clause-idle g c = λ n tells text may s w stands input none fits.
    let S = g.S.SwapDevice in
    let still = c.steps.invariant.idle n tells text (seen_before text _ _ c.turn.ensures.goes_on may) s w stands input none fits in
    let told : IsTrue (S.told c.steps.swap) = subst (λ z. IsTrue (S.told z)) (sym still.0) tells in
    let before = c.steps.invariant.reached n told text (seen_before text _ _ c.turn.ensures.goes_on may) s w None None stands input (gains_untold _ _) (gains_untold _ _) in
    let h = sliced _ s w _ _ _ _ _ _ _ _ c.slice-done.result before (c.slice-done.ensures.steps _ _ s _ before.stands) in
    let turned = c.turn.ensures.idle (c.slice-done.ensures.stops ∙ c.steps.invariant.fresh n) told text may s _ h.stands (input_at h) (c.slice-done.ensures.idle still.1) (fits_at h fits) in
    (turned.0 ∙ still.0, turned.1)
