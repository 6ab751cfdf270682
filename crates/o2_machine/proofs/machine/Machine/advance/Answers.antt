use Rattle.std.proofs.Common.{◌+◌, ◌-◌, refl, inl, subst, sym, ◌∙◌, ap, arith, inr, None}
use Rattle.o2_outer.specs.Inputs.{left_as}
use Rattle.o2_conf.specs.Dispatch.{lives}
use Rattle.o2_regions.specs.Lives.{lives as is_marked}
use Rattle.o2_world.specs.Effect.{effect}
use Rattle.o2_world.specs.Run.{before}
use Rattle.o2_world.specs.World.{is_live}
use Rattle.o2_run.specs.declared.fault.Fault.{Fault}
use Rattle.o2_run.proofs.Reached.{rose_since}
use Rattle.std.specs.Prelude.{length, None, Err, Bool, Result}
use Rattle.o2_run.specs.Pieces.{counts, told_counts, FaultPart, puts_of}
use Rattle.o2_stepping.specs.Pieces.{HandsWhole, LatePart, RanHands}
use Rattle.o2_stepping.specs.declared.one_step.Ran.{Ran}
use Rattle.o2_sched.specs.Schedule.{Schedule, is_step, work_left}
use Rattle.o2_sched.proofs.Work.{counted_less}
use Rattle.o2_space.proofs.Framing.{set_kept}
use Rattle.o2_space.specs.Acts.{ActsFault}
use Rattle.o2_space.specs.Nexts.{FaultSays}
use Rattle.o2_space.specs.Parts.{parts_in}
use Rattle.o2_space.specs.Stands.{GoTogether}
use Rattle.o2_space.specs.declared.space.Space.{Space}
use Rattle.o2_segs.specs.Sharing.{AreHeldAtMost}
use Rattle.o2_segs.proofs.Sharing.{few_more}
use Rattle.o2_machine.proofs.Behinds.{few_left}
use Rattle.o2_machine.proofs.Hands.{stop_line_put, by_stop, one_line, failed_all, failed_spent}
use Rattle.o2_machine.proofs.Marks.{marked_next, some_number}
use Rattle.o2_store.specs.Idle.{IsIdle}
use Rattle.o2_store.proofs.Framing.{device_for, device_refl}
use Rattle.o2_machine.proofs.Turns.{begins_here, live_of, none_comes, turn_here, failed_stop, of_next, faulted, went, late, stopped_by, caused_stop, line_of_stop, left_at_stop, failed_puts, went_puts, late_puts, closes_ended, ended_in_part, closes_spent, spent_in_part}
use Rattle.o2_machine.proofs.machine.Machine.advance.Goals as goal

-- A turn without a step.

pub returns-in-Done-clause-turns : goal.returns-in-Done-clause-turns
returns-in-Done-clause-turns g c = λ tells text may s w stands left.
    closes_ended c.args.self.now _ _ _ s w _ _ _ _ stands (record { sched = refl; avail = refl; budget = refl; bytes = refl; lines = refl }) refl left (sym c.requires.pick ∙ c.in-AllEnded.is) c.in-Done.ensures.takes

pub returns-in-Failed-clause-turns : goal.returns-in-Failed-clause-turns
returns-in-Failed-clause-turns g c = λ tells text may s w stands left.
    inr (ended_in_part c.args.self.now _ _ _ s w _ _ _ _ stands (record { sched = refl; avail = refl; budget = refl; bytes = refl; lines = refl }) refl left (sym c.requires.pick ∙ c.in-AllEnded.is) c.in-Failed.ensures.takes)

pub returns-in-Done-put-clause-turns : goal.returns-in-Done-put-clause-turns
returns-in-Done-put-clause-turns g c = λ tells text may s w stands left.
    closes_spent c.args.self.now _ _ _ s w _ _ _ _ stands (record { sched = refl; avail = refl; budget = refl; bytes = refl; lines = refl }) refl left (sym c.requires.pick ∙ c.in-BudgetSpent.is) c.in-Done-put.ensures.takes

pub returns-in-Failed-put-clause-turns : goal.returns-in-Failed-put-clause-turns
returns-in-Failed-put-clause-turns g c = λ tells text may s w stands left.
    inr (spent_in_part c.args.self.now _ _ _ s w _ _ _ _ stands (record { sched = refl; avail = refl; budget = refl; bytes = refl; lines = refl }) refl left (sym c.requires.pick ∙ c.in-BudgetSpent.is) c.in-Failed-put.ensures.takes)

pub returns-in-Done-clause-puts : goal.returns-in-Done-clause-puts
returns-in-Done-clause-puts g c = λ tells text may s w stands left. one_line _ _ _ _ _ _ c.in-Done.ensures.puts

pub returns-in-Failed-clause-puts : goal.returns-in-Failed-clause-puts
returns-in-Failed-clause-puts g c = λ tells text may s w stands left. failed_all c.args.self.now _ _ s w _ stands (one_line _ _ _ _ _ _ c.in-Failed.ensures.puts) (sym c.requires.pick ∙ c.in-AllEnded.is)

pub returns-in-Done-put-clause-puts : goal.returns-in-Done-put-clause-puts
returns-in-Done-put-clause-puts g c = λ tells text may s w stands left. one_line _ _ _ _ _ _ c.in-Done-put.ensures.puts

pub returns-in-Failed-put-clause-puts : goal.returns-in-Failed-put-clause-puts
returns-in-Failed-put-clause-puts g c = λ tells text may s w stands left. failed_spent c.args.self.now _ _ s w _ stands (one_line _ _ _ _ _ _ c.in-Failed-put.ensures.puts) (sym c.requires.pick ∙ c.in-BudgetSpent.is)

pub returns-in-Done-clause-idle : goal.returns-in-Done-clause-idle
returns-in-Done-clause-idle g c = λ tells text may s w stands left fits none. record { device = refl; none = none }

pub returns-in-Failed-clause-idle : goal.returns-in-Failed-clause-idle
returns-in-Failed-clause-idle g c = λ tells text may s w stands left fits none. record { device = refl; none = none }

pub returns-in-Done-put-clause-idle : goal.returns-in-Done-put-clause-idle
returns-in-Done-put-clause-idle g c = λ tells text may s w stands left fits none. record { device = refl; none = none }

pub returns-in-Failed-put-clause-idle : goal.returns-in-Failed-put-clause-idle
returns-in-Failed-put-clause-idle g c = λ tells text may s w stands left fits none. record { device = refl; none = none }

pub returns-in-Done-clause-frame : goal.returns-in-Done-clause-frame
returns-in-Done-clause-frame g c = device_refl _ _ _ c.args.swap.now _ (λ failed. cc)

pub returns-in-Failed-clause-frame : goal.returns-in-Failed-clause-frame
returns-in-Failed-clause-frame g c = device_refl _ _ _ c.args.swap.now _ (λ failed. cc)

pub returns-in-Done-put-clause-frame : goal.returns-in-Done-put-clause-frame
returns-in-Done-put-clause-frame g c = device_refl _ _ _ c.args.swap.now _ (λ failed. cc)

pub returns-in-Failed-put-clause-frame : goal.returns-in-Failed-put-clause-frame
returns-in-Failed-put-clause-frame g c = device_refl _ _ _ c.args.swap.now _ (λ failed. cc)

-- A step.

pub act-requires-clause-some : goal.act-requires-clause-some
act-requires-clause-some g c = some_number c.args.self.now.sched.flags c.in-Step.pid (live_of c.args.self.now.sched.flags c.args.pick c.in-Step.pid c.in-Step.is c.requires.live)

pub act-requires-clause-live : goal.act-requires-clause-live
act-requires-clause-live g c = c.requires.device.marked c.in-Step.pid ∙ live_of c.args.self.now.sched.flags c.args.pick c.in-Step.pid c.in-Step.is c.requires.live

pub act-requires-clause-made : goal.act-requires-clause-made
act-requires-clause-made g c = (let f = c.requires.device.few in omega (arith, f))

pub act-requires-clause-few : goal.act-requires-clause-few
act-requires-clause-few g c = few_left c.args.self.now.space.regions (4294967290 - c.args.self.now.sched.dispatch.budget) (omega arith) c.requires.device.held

pub act-requires-clause-together : goal.act-requires-clause-together
act-requires-clause-together g c = c.requires.device.together

pub returns-in-Err-Sink-clause-turns : goal.returns-in-Err-Sink-clause-turns
returns-in-Err-Sink-clause-turns g c = λ tells text may s w stands left.
    let S = g.S.SwapDevice in
    let new = c.act.new in
    inl (
      none_comes c.args.self.now _ _ s w c.in-Step.pid None None None None stands (sym c.requires.pick ∙ c.in-Step.is) (live_of c.args.self.now.sched.flags c.args.pick c.in-Step.pid c.in-Step.is c.requires.live),
      faulted c.args.self.now _ _ s w c.in-Step.pid _ _ _ _ stands (sym c.requires.pick ∙ c.in-Step.is) (live_of c.args.self.now.sched.flags c.args.pick c.in-Step.pid c.in-Step.is c.requires.live) _ (S.blocks new.swap) (S.block new.swap) _ _
          (record { sched = refl; avail = c.act.ensures.keeps.avail; budget = refl; bytes = refl; lines = refl })
          (set_kept c.args.self.now.space new.self (S.blocks c.args.swap.now) (S.blocks new.swap) (S.block c.args.swap.now) (S.block new.swap) c.act.ensures.keeps c.act.ensures.device.blocks s stands.set)
          (λ chosen p at. subst (λ (f : Fault). ActsFault (before s w c.in-Step.pid p) w (parts_in new.self (S.blocks new.swap) (S.block new.swap))
          (left_as text (g.I.Source.left c.args.input.now) (g.I.Source.past c.args.input.now)) (left_as text (g.I.Source.left new.input) (g.I.Source.past new.input))
          (g.C.Sink.taken c.args.console.now) (g.C.Sink.taken new.console) (g.R.Sink.taken c.args.report.now) (g.R.Sink.taken new.report) f) c.in-Err-Sink.field-0-is
          (c.in-Err-Sink.ensures.acts text may s w p tells (begins_here stands at left) (turn_here stands (sym c.requires.pick ∙ c.in-Step.is) chosen)))
          (λ chosen p at. subst (λ (f : Fault). FaultSays (S.blocks c.args.swap.now) s w f) c.in-Err-Sink.field-0-is
          (c.in-Err-Sink.ensures.next_room text may s w p tells (begins_here stands at left) (turn_here stands (sym c.requires.pick ∙ c.in-Step.is) chosen)))
          (λ chosen p at. c.in-Err-Sink.ensures.spells text may s w p tells (begins_here stands at left) (turn_here stands (sym c.requires.pick ∙ c.in-Step.is) chosen)),
    )

pub returns-in-Err-Stopped-clause-turns : goal.returns-in-Err-Stopped-clause-turns
returns-in-Err-Stopped-clause-turns g c = λ tells text may s w stands left.
    let S = g.S.SwapDevice in
    let new = c.act.new in
    stopped_by c.args.self.now _ _ s w c.in-Step.pid _ _ _ _ stands (sym c.requires.pick ∙ c.in-Step.is) (live_of c.args.self.now.sched.flags c.args.pick c.in-Step.pid c.in-Step.is c.requires.live) _ (S.blocks new.swap) (S.block new.swap)
    c.in-Err-Stopped.why c.put_stop.result _ _ _
    (record { sched = refl; avail = c.act.ensures.keeps.avail; budget = refl; bytes = refl; lines = refl }) left
    (set_kept c.args.self.now.space new.self (S.blocks c.args.swap.now) (S.blocks new.swap) (S.block c.args.swap.now) (S.block new.swap) c.act.ensures.keeps c.act.ensures.device.blocks s stands.set)
    (λ chosen p at. subst (λ (f : Fault). ActsFault (before s w c.in-Step.pid p) w (parts_in new.self (S.blocks new.swap) (S.block new.swap))
    (left_as text (g.I.Source.left c.args.input.now) (g.I.Source.past c.args.input.now)) (left_as text (g.I.Source.left new.input) (g.I.Source.past new.input))
    (g.C.Sink.taken c.args.console.now) (g.C.Sink.taken new.console) (g.R.Sink.taken c.args.report.now) (g.R.Sink.taken new.report) f) c.in-Err-Stopped.field-0-is
    (c.in-Err-Stopped.ensures.acts text may s w p tells (begins_here stands at left) (turn_here stands (sym c.requires.pick ∙ c.in-Step.is) chosen)))
    (λ chosen p at. subst (λ (f : Fault). FaultSays (S.blocks c.args.swap.now) s w f) c.in-Err-Stopped.field-0-is
    (c.in-Err-Stopped.ensures.next_room text may s w p tells (begins_here stands at left) (turn_here stands (sym c.requires.pick ∙ c.in-Step.is) chosen)))
    (λ chosen p at. c.in-Err-Stopped.ensures.spells text may s w p tells (begins_here stands at left) (turn_here stands (sym c.requires.pick ∙ c.in-Step.is) chosen))
    c.put_stop.ensures.text c.put_stop.ensures.whole

pub returns-then-ran-clause-turns : goal.returns-then-ran-clause-turns
returns-then-ran-clause-turns g c = λ tells text may s w stands left.
    let S = g.S.SwapDevice in
    let new = c.act.new in (
      none_comes c.args.self.now _ _ s w c.in-Step.pid None None None None stands (sym c.requires.pick ∙ c.in-Step.is) (live_of c.args.self.now.sched.flags c.args.pick c.in-Step.pid c.in-Step.is c.requires.live),
      went c.args.self.now _ _ s w c.in-Step.pid _ _ _ _ stands (sym c.requires.pick ∙ c.in-Step.is) (live_of c.args.self.now.sched.flags c.args.pick c.in-Step.pid c.in-Step.is c.requires.live) c.stepped.new.self (S.blocks new.swap) (S.block new.swap) _ new.self c.in-Ok.ran
          (record { space = c.stepped.ensures.space; avail = c.act.ensures.keeps.avail; budget = c.stepped.ensures.budget; bytes = c.stepped.ensures.bytes; lines = c.stepped.ensures.lines })
          (set_kept c.args.self.now.space new.self (S.blocks c.args.swap.now) (S.blocks new.swap) (S.block c.args.swap.now) (S.block new.swap) c.act.ensures.keeps c.act.ensures.device.blocks s stands.set)
          (λ chosen p at. c.in-Ok.ensures.acts text may s w p tells (begins_here stands at left) (turn_here stands (sym c.requires.pick ∙ c.in-Step.is) chosen))
          (λ chosen p at. c.in-Ok.ensures.next_room text may s w p tells (begins_here stands at left) (turn_here stands (sym c.requires.pick ∙ c.in-Step.is) chosen))
          (λ chosen p at. c.in-Ok.ensures.spells text may s w p tells (begins_here stands at left) (turn_here stands (sym c.requires.pick ∙ c.in-Step.is) chosen)) c.stepped.ensures.sched c.if-ran.true,
    )

pub returns-else-ran-clause-turns : goal.returns-else-ran-clause-turns
returns-else-ran-clause-turns g c = λ tells text may s w stands left.
    let S = g.S.SwapDevice in
    let new = c.act.new in
    inl (
      none_comes c.args.self.now _ _ s w c.in-Step.pid None None None None stands (sym c.requires.pick ∙ c.in-Step.is) (live_of c.args.self.now.sched.flags c.args.pick c.in-Step.pid c.in-Step.is c.requires.live),
      late c.args.self.now _ _ s w c.in-Step.pid _ _ _ _ stands (sym c.requires.pick ∙ c.in-Step.is) (live_of c.args.self.now.sched.flags c.args.pick c.in-Step.pid c.in-Step.is c.requires.live) c.stepped.new.self (S.blocks new.swap) (S.block new.swap) _ new.self c.in-Ok.ran
          (record { space = c.stepped.ensures.space; avail = c.act.ensures.keeps.avail; budget = c.stepped.ensures.budget; bytes = c.stepped.ensures.bytes; lines = c.stepped.ensures.lines })
          (set_kept c.args.self.now.space new.self (S.blocks c.args.swap.now) (S.blocks new.swap) (S.block c.args.swap.now) (S.block new.swap) c.act.ensures.keeps c.act.ensures.device.blocks s stands.set)
          (λ chosen p at. c.in-Ok.ensures.acts text may s w p tells (begins_here stands at left) (turn_here stands (sym c.requires.pick ∙ c.in-Step.is) chosen))
          (λ chosen p at. c.in-Ok.ensures.next_room text may s w p tells (begins_here stands at left) (turn_here stands (sym c.requires.pick ∙ c.in-Step.is) chosen))
          (λ chosen p at. c.in-Ok.ensures.spells text may s w p tells (begins_here stands at left) (turn_here stands (sym c.requires.pick ∙ c.in-Step.is) chosen)) c.stepped.ensures.sched c.if-ran.false,
    )

pub returns-in-Err-Stopped-clause-cause : goal.returns-in-Err-Stopped-clause-cause
returns-in-Err-Stopped-clause-cause g c = caused_stop _ _ _ _ _ _ c.in-Err-Stopped.why c.in-Err-Stopped.field-0-is c.in-Err-Stopped.ensures.cause

pub returns-in-Err-Stopped-clause-line : goal.returns-in-Err-Stopped-clause-line
returns-in-Err-Stopped-clause-line g c = line_of_stop _ _ c.in-Err-Stopped.why (λ e. rose_since _ _ _ c.act.ensures.report_count (c.put_stop.ensures.cause e))

pub returns-in-Err-Stopped-clause-left : goal.returns-in-Err-Stopped-clause-left
returns-in-Err-Stopped-clause-left g c = left_at_stop _ c.in-Err-Stopped.why

pub returns-then-ran-clause-left : goal.returns-then-ran-clause-left
returns-then-ran-clause-left g c = (let same = ap work_left c.stepped.ensures.sched in let less = counted_less c.args.self.now.sched (ap is_step (sym c.requires.pick ∙ c.in-Step.is)) in omega (arith, same, less))

pub returns-in-Err-Sink-clause-device : goal.returns-in-Err-Sink-clause-device
returns-in-Err-Sink-clause-device g c = record {
  together = c.act.ensures.together;
  marked = λ n. c.in-Err-Sink.ensures.marks n ∙ c.requires.device.marked n;
  few = (let f = c.requires.device.few in let m = c.in-Err-Sink.ensures.adds.made in omega (arith, f, m));
  budget = (let f = c.requires.device.budget in omega (arith, f));
  held = few_more _ _ _ (omega arith) (c.in-Err-Sink.ensures.adds.held (4294967290 - c.args.self.now.sched.dispatch.budget) (let b = c.requires.device.budget in omega (arith, b)) c.requires.device.held);
}

pub returns-in-Err-Stopped-clause-device : goal.returns-in-Err-Stopped-clause-device
returns-in-Err-Stopped-clause-device g c = record {
  together = c.act.ensures.together;
  marked = λ n. c.in-Err-Stopped.ensures.marks n ∙ c.requires.device.marked n;
  few = (let f = c.requires.device.few in let m = c.in-Err-Stopped.ensures.adds.made in omega (arith, f, m));
  budget = (let f = c.requires.device.budget in omega (arith, f));
  held = few_more _ _ _ (omega arith)
      (c.in-Err-Stopped.ensures.adds.held (4294967290 - c.args.self.now.sched.dispatch.budget)
      (let b = c.requires.device.budget in omega (arith, b)) c.requires.device.held);
}

pub returns-then-ran-clause-device : goal.returns-then-ran-clause-device
returns-then-ran-clause-device g c =
    let old = c.args.self.now in
    let new = c.act.new in
    let marks = marked_next old.space.ends new.self.ends old.sched.flags c.in-Step.pid (is_live c.in-Ok.ran.state) (some_number old.sched.flags c.in-Step.pid (live_of c.args.self.now.sched.flags c.args.pick c.in-Step.pid c.in-Step.is c.requires.live)) c.requires.device.marked c.in-Ok.ensures.marks in
    record {
      together = subst (λ (z : Space). GoTogether z (g.S.SwapDevice.blocks new.swap)) (sym c.stepped.ensures.space) c.act.ensures.together;
      marked = λ n. ap (λ (z : Space). is_marked z.ends n) c.stepped.ensures.space ∙ marks n ∙ ap (λ (z : Schedule). lives z.flags n) (sym c.stepped.ensures.sched);
      few =
          (let f = c.requires.device.few in
          let m = c.in-Ok.ensures.adds.made in
          let l = c.stepped.ensures.left in
          let z = ap (λ (x : Space). x.store.made) c.stepped.ensures.space in
          omega (arith, f, m, l, z));
      budget = (let f = c.requires.device.budget in let l = c.stepped.ensures.left in omega (arith, f, l));
      held = subst (λ (z : Space). AreHeldAtMost z.regions (4294967290 - c.stepped.new.self.sched.dispatch.budget)) (sym c.stepped.ensures.space)
          (few_more new.self.regions (4294967290 - old.sched.dispatch.budget + 1) (4294967290 - c.stepped.new.self.sched.dispatch.budget)
          (let l = c.stepped.ensures.left in let b = c.requires.device.budget in omega (arith, l, b))
          (c.in-Ok.ensures.adds.held (4294967290 - old.sched.dispatch.budget) (let b = c.requires.device.budget in omega (arith, b)) c.requires.device.held));
    }

pub returns-else-ran-clause-device : goal.returns-else-ran-clause-device
returns-else-ran-clause-device g c =
    let old = c.args.self.now in
    let new = c.act.new in
    let marks = marked_next old.space.ends new.self.ends old.sched.flags c.in-Step.pid (is_live c.in-Ok.ran.state) (some_number old.sched.flags c.in-Step.pid (live_of c.args.self.now.sched.flags c.args.pick c.in-Step.pid c.in-Step.is c.requires.live)) c.requires.device.marked c.in-Ok.ensures.marks in
    record {
      together = subst (λ (z : Space). GoTogether z (g.S.SwapDevice.blocks new.swap)) (sym c.stepped.ensures.space) c.act.ensures.together;
      marked = λ n. ap (λ (z : Space). is_marked z.ends n) c.stepped.ensures.space ∙ marks n ∙ ap (λ (z : Schedule). lives z.flags n) (sym c.stepped.ensures.sched);
      few =
          (let f = c.requires.device.few in
          let m = c.in-Ok.ensures.adds.made in
          let l = c.stepped.ensures.left in
          let z = ap (λ (x : Space). x.store.made) c.stepped.ensures.space in
          omega (arith, f, m, l, z));
      budget = (let f = c.requires.device.budget in let l = c.stepped.ensures.left in omega (arith, f, l));
      held = subst (λ (z : Space). AreHeldAtMost z.regions (4294967290 - c.stepped.new.self.sched.dispatch.budget)) (sym c.stepped.ensures.space)
          (few_more new.self.regions (4294967290 - old.sched.dispatch.budget + 1) (4294967290 - c.stepped.new.self.sched.dispatch.budget)
          (let l = c.stepped.ensures.left in let b = c.requires.device.budget in omega (arith, l, b))
          (c.in-Ok.ensures.adds.held (4294967290 - old.sched.dispatch.budget) (let b = c.requires.device.budget in omega (arith, b)) c.requires.device.held));
    }

pub returns-in-Err-Sink-clause-puts : goal.returns-in-Err-Sink-clause-puts
returns-in-Err-Sink-clause-puts g c = λ tells text may s w stands left.
    failed_puts c.args.self.now _ _ s w c.in-Step.pid None None None None stands (sym c.requires.pick ∙ c.in-Step.is) (live_of c.args.self.now.sched.flags c.args.pick c.in-Step.pid c.in-Step.is c.requires.live) _ _ _ _ _ _
    (λ chosen p at. subst (λ (f : Fault). FaultPart (effect (before s w c.in-Step.pid p))
    (told_counts (g.C.Sink.puts c.args.console.now) (g.C.Sink.puts c.act.new.console) (g.R.Sink.puts c.args.report.now) (g.R.Sink.puts c.act.new.report) 0
    (g.R.Sink.taken c.args.report.now) (g.R.Sink.taken c.act.new.report)) f) c.in-Err-Sink.field-0-is
    (c.in-Err-Sink.ensures.part text may s w p tells (begins_here stands at left) (turn_here stands (sym c.requires.pick ∙ c.in-Step.is) chosen)))

pub returns-in-Err-Stopped-clause-puts : goal.returns-in-Err-Stopped-clause-puts
returns-in-Err-Stopped-clause-puts g c = λ tells text may s w stands left.
    by_stop s w _ c.in-Err-Stopped.why
    (stop_line_put _ _ _ _ _ (length w.lines) _ _
    (subst (λ (f : Fault). RanHands (counts (g.C.Sink.puts c.args.console.now) (g.C.Sink.puts c.act.new.console) (g.R.Sink.puts c.args.report.now) (g.R.Sink.puts c.act.new.report) 0) (Err f)) c.in-Err-Stopped.field-0-is c.in-Err-Stopped.ensures.puts)
    c.put_stop.ensures.puts)

pub returns-then-ran-clause-puts : goal.returns-then-ran-clause-puts
returns-then-ran-clause-puts g c = λ tells text may s w stands left.
    went_puts c.args.self.now _ _ s w c.in-Step.pid None None None None stands (sym c.requires.pick ∙ c.in-Step.is) (live_of c.args.self.now.sched.flags c.args.pick c.in-Step.pid c.in-Step.is c.requires.live) _ _ _ _ _ _ c.in-Ok.ran.tally
    (λ chosen p at. (c.in-Ok.ensures.acts text may s w p tells (begins_here stands at left) (turn_here stands (sym c.requires.pick ∙ c.in-Step.is) chosen)).puts)
    (subst (λ (z : Bool). HandsWhole z (counts (g.C.Sink.puts c.args.console.now) (g.C.Sink.puts c.act.new.console) (g.R.Sink.puts c.args.report.now) (g.R.Sink.puts c.act.new.report) 0) (puts_of c.in-Ok.ran.tally.bytes) c.in-Ok.ran.tally.lines) c.if-ran.true c.in-Ok.ensures.puts)

pub returns-else-ran-clause-puts : goal.returns-else-ran-clause-puts
returns-else-ran-clause-puts g c = λ tells text may s w stands left.
    late_puts c.args.self.now _ _ s w c.in-Step.pid None None None None stands (sym c.requires.pick ∙ c.in-Step.is) (live_of c.args.self.now.sched.flags c.args.pick c.in-Step.pid c.in-Step.is c.requires.live) _ _ _ _ _ _
    (λ chosen p at. subst (λ (z : Bool). LatePart z (effect (before s w c.in-Step.pid p))
    (told_counts (g.C.Sink.puts c.args.console.now) (g.C.Sink.puts c.act.new.console) (g.R.Sink.puts c.args.report.now) (g.R.Sink.puts c.act.new.report) 0
    (g.R.Sink.taken c.args.report.now) (g.R.Sink.taken c.act.new.report))) c.if-ran.false
    (c.in-Ok.ensures.part text may s w p tells (begins_here stands at left) (turn_here stands (sym c.requires.pick ∙ c.in-Step.is) chosen)))

pub returns-in-Err-Sink-clause-idle : goal.returns-in-Err-Sink-clause-idle
returns-in-Err-Sink-clause-idle g c = λ tells text may s w stands left fits none.
    of_next c.args.self.now _ _ s w c.in-Step.pid None None None None stands (sym c.requires.pick ∙ c.in-Step.is) (live_of c.args.self.now.sched.flags c.args.pick c.in-Step.pid c.in-Step.is c.requires.live) _
    (λ on chosen p at. c.act.ensures.idle text may s w p tells (begins_here stands at left) (turn_here stands (sym c.requires.pick ∙ c.in-Step.is) chosen) (fits on) none)

pub returns-in-Err-Stopped-clause-idle : goal.returns-in-Err-Stopped-clause-idle
returns-in-Err-Stopped-clause-idle g c = λ tells text may s w stands left fits none.
    of_next c.args.self.now _ _ s w c.in-Step.pid None None None None stands (sym c.requires.pick ∙ c.in-Step.is) (live_of c.args.self.now.sched.flags c.args.pick c.in-Step.pid c.in-Step.is c.requires.live) _
    (λ on chosen p at. c.act.ensures.idle text may s w p tells (begins_here stands at left) (turn_here stands (sym c.requires.pick ∙ c.in-Step.is) chosen) (fits on) none)

pub returns-then-ran-clause-idle : goal.returns-then-ran-clause-idle
returns-then-ran-clause-idle g c = λ tells text may s w stands left fits none.
    subst (λ (z : Space). IsIdle z.store c.args.swap.now c.act.new.swap) (sym c.stepped.ensures.space)
    (of_next c.args.self.now _ _ s w c.in-Step.pid None None None None stands (sym c.requires.pick ∙ c.in-Step.is) (live_of c.args.self.now.sched.flags c.args.pick c.in-Step.pid c.in-Step.is c.requires.live) _
    (λ on chosen p at. c.act.ensures.idle text may s w p tells (begins_here stands at left) (turn_here stands (sym c.requires.pick ∙ c.in-Step.is) chosen) (fits on) none))

pub returns-else-ran-clause-idle : goal.returns-else-ran-clause-idle
returns-else-ran-clause-idle g c = λ tells text may s w stands left fits none.
    subst (λ (z : Space). IsIdle z.store c.args.swap.now c.act.new.swap) (sym c.stepped.ensures.space)
    (of_next c.args.self.now _ _ s w c.in-Step.pid None None None None stands (sym c.requires.pick ∙ c.in-Step.is) (live_of c.args.self.now.sched.flags c.args.pick c.in-Step.pid c.in-Step.is c.requires.live) _
    (λ on chosen p at. c.act.ensures.idle text may s w p tells (begins_here stands at left) (turn_here stands (sym c.requires.pick ∙ c.in-Step.is) chosen) (fits on) none))

pub returns-in-Err-Sink-clause-frame : goal.returns-in-Err-Sink-clause-frame
returns-in-Err-Sink-clause-frame g c = device_for _ _ _ _ _ _ _ (λ failed. absurd (cc)) c.in-Err-Sink.ensures.device

pub returns-in-Err-Stopped-clause-frame : goal.returns-in-Err-Stopped-clause-frame
returns-in-Err-Stopped-clause-frame g c =
    device_for _ _ _ _ _ _ _ (λ failed. ap (λ (f : Fault). let r : Result Ran Fault = Err f in r) (failed_stop c.in-Err-Stopped.field-0 c.in-Err-Stopped.why c.in-Err-Stopped.field-0-is failed)) c.in-Err-Stopped.ensures.device

pub returns-then-ran-clause-frame : goal.returns-then-ran-clause-frame
returns-then-ran-clause-frame g c = device_for _ _ _ _ _ _ _ (λ failed. absurd (cc)) c.in-Ok.ensures.device

pub returns-else-ran-clause-frame : goal.returns-else-ran-clause-frame
returns-else-ran-clause-frame g c = device_for _ _ _ _ _ _ _ (λ failed. absurd (cc)) c.in-Ok.ensures.device

pub stepped-requires-clause-pick : goal.stepped-requires-clause-pick
stepped-requires-clause-pick g c = ap is_step (sym c.requires.pick ∙ c.in-Step.is)

pub stepped-requires-clause-live : goal.stepped-requires-clause-live
stepped-requires-clause-live g c = live_of c.args.self.now.sched.flags c.args.pick c.in-Step.pid c.in-Step.is c.requires.live
