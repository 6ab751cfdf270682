use Rattle.std.proofs.Common.{◌≡◌, ℕ, [], List, Option, None, ap, sym, ◌∙◌, refl, subst, true}
use Rattle.std.specs.Prelude.{Result, Ok, Err}
use Rattle.o2_outer.specs.Inputs.{left_as}
use Rattle.o2_outer.proofs.TextLemmas.{gains_none}
use Rattle.o2_isa.specs.declared.cpu.Stop.TheVariants as stop
use Rattle.o2_isa.specs.View.{View, Filling, IsBound, whole, no_hidden}
use Rattle.o2_isa.specs.Steps.{State as Machine, state}
use Rattle.o2_world.specs.Calls.{Effect, serviced, trapped}
use Rattle.o2_world.specs.Effect.{answered, single_stepped}
use Rattle.o2_world.specs.World.{is_live}
use Rattle.o2_world.specs.declared.types.State.{State}
use Rattle.o2_world.specs.declared.types.State.TheVariants.{Exited}
use Rattle.o2_gate.specs.Befores.{boundless, before_call}
use Rattle.o2_gate.specs.Pointed.{IsAway}
use Rattle.o2_gate.specs.declared.called.Called.TheVariants as called
use Rattle.o2_stepping.specs.Ran.{Leaves, IsDone}
use Rattle.o2_stepping.specs.declared.tally.Tally.{Tally}
use Rattle.o2_stepping.proofs.Leaving.{effect_by, done_by, ended_stays, waited}
use Rattle.o2_gate.specs.Targets.{targets}
use Rattle.o2_gate.specs.Pointed.{are_ready}
use Rattle.o2_stepping.proofs.Gates.{done_boundless, trap_boundless, gate_boundless, away_by, whole_same, frame_by, frame_then, moved, by_answer, fault_by, still_of, missed_by, none_asked, none_missed, none_undone, asked_of, points_from, undone_missed, undone_of}
use Rattle.o2_gate.proofs.Writing.{writes_data, writes_then, agrees_then}
use Rattle.o2_stepping.proofs.Touches.{loads_missed, touched_present, call_missed, call_present, told_by, told_before}
use Rattle.o2_world.specs.Effect.{effect}
use Rattle.o2_run.specs.declared.fault.Fault.{Fault}
use Rattle.o2_run.specs.Pieces.{Counts, told_counts, PartHands}
use Rattle.o2_gate.specs.declared.called.Called.{Called}
use Rattle.o2_stepping.specs.Pieces.{AttemptHands, AttemptPart}
use Rattle.o2_stepping.proofs.Puts.{no_hands, asked_hands, back_hands, exit_hands, trap_hands, waits_hands, fault_hands, behind, behind_told, trap_part, fault_part}
use Rattle.o2_stepping.proofs.one_step.run_one.Goals as goal

pub returns-in-Done-clause-leaves_as : goal.returns-in-Done-clause-leaves_as
returns-in-Done-clause-leaves_as g c = λ text m f input known bound left same.
    let v : View = g.B.Bus.view c.args.bus.now in
    let w : View = g.B.Bus.view c.step_cached.new.bus in
    let b = before_call (boundless f v) c.args.pid c.args.cpu.now input known in
    let cpu = c.step_cached.new.cpu in
    let r : Result Machine stop.the_data = Ok (state cpu (boundless f w)) in
    subst (λ (e : Effect). Leaves b e cpu (whole f v).bytes (whole f w).bytes (left_as text (g.I.Source.left c.args.input.now) (g.I.Source.past c.args.input.now))
    (left_as text (g.I.Source.left c.args.input.now) (g.I.Source.past c.args.input.now)) (g.C.Sink.taken c.args.console.now) (g.C.Sink.taken c.args.console.now)
    (g.R.Sink.taken c.args.report.now) (g.R.Sink.taken c.outlived.new.report) c.outlived.result)
    (sym (effect_by b r (done_boundless f v w c.args.cpu.now cpu (c.in-Done.ensures.boundless f bound))))
    (c.outlived.ensures.leaves f b (answered b r) cpu (whole f v).bytes w
    (left_as text (g.I.Source.left c.args.input.now) (g.I.Source.past c.args.input.now)) _ _ _ _ refl refl (record { state = refl; piece = refl; lines = refl; cpu = refl; changes = refl; waits = refl; bytes = λ n. refl; input = left; to_console = gains_none _; to_report = gains_none _ }))

pub returns-in-Done-clause-leaves : goal.returns-in-Done-clause-leaves
returns-in-Done-clause-leaves g c = λ f input known bound left same. returns-in-Done-clause-leaves_as g c None tt f input known bound left same

pub returns-in-Trap-clause-leaves_as : goal.returns-in-Trap-clause-leaves_as
returns-in-Trap-clause-leaves_as g c = λ text m f input known bound left same.
    let v : View = g.B.Bus.view c.args.bus.now in
    let w : View = g.B.Bus.view c.step_cached.new.bus in
    let b = before_call (boundless f v) c.args.pid c.args.cpu.now input known in
    let cpu = c.step_cached.new.cpu in
    let step = c.in-Trap.ensures.step in
    let registers = ap (λ (s : Machine). s.cpu) step.1 in
    let bytes = whole_same f v w (ap (λ (s : Machine). s.view) step.1) in
    subst (λ (e : Effect). Leaves b e cpu (whole f v).bytes (whole f w).bytes (left_as text (g.I.Source.left c.args.input.now) (g.I.Source.past c.args.input.now)) (left_as text (g.I.Source.left c.args.input.now) (g.I.Source.past c.args.input.now))
    (g.C.Sink.taken c.args.console.now) (g.C.Sink.taken c.args.console.now) (g.R.Sink.taken c.args.report.now)
    (g.R.Sink.taken c.trap.new.report) c.trap.result)
    (sym (effect_by b (Err (stop.Trap c.in-Trap.vector c.in-Trap.field-1)) (trap_boundless f v w c.args.cpu.now cpu c.in-Trap.vector c.in-Trap.field-1 (c.in-Trap.ensures.boundless f bound))))
    (c.trap.ensures.leaves b cpu (whole f v).bytes (whole f w).bytes _ _ refl (sym registers) registers left bytes bytes)

pub returns-in-Trap-clause-leaves : goal.returns-in-Trap-clause-leaves
returns-in-Trap-clause-leaves g c = λ f input known bound left same. returns-in-Trap-clause-leaves_as g c None tt f input known bound left same

pub returns-in-Miss-clause-leaves_as : goal.returns-in-Miss-clause-leaves_as
returns-in-Miss-clause-leaves_as g c = λ text m f input known bound left same.
    let step = c.in-Miss.ensures.step in
    record {
      cpu = ap (λ (s : Machine). s.cpu) step.1;
      bytes = whole_same f (g.B.Bus.view c.args.bus.now) (g.B.Bus.view c.step_cached.new.bus) (ap (λ (s : Machine). s.view) step.1);
      input = refl;
      to_console = refl;
      to_report = refl;
    }

pub returns-in-Miss-clause-leaves : goal.returns-in-Miss-clause-leaves
returns-in-Miss-clause-leaves g c = λ f input known bound left same. returns-in-Miss-clause-leaves_as g c None tt f input known bound left same

pub returns-in-Miss-clause-away : goal.returns-in-Miss-clause-away
returns-in-Miss-clause-away g c = λ bound.
    let f : Filling = record { blocks = λ n. []; hidden = no_hidden } in
    away_by (g.B.Bus.view c.args.bus.now) c.in-Miss.sel _ (c.in-Miss.ensures.boundless f bound).1

pub returns-in-Ok-Back-clause-leaves_as : goal.returns-in-Ok-Back-clause-leaves_as
returns-in-Ok-Back-clause-leaves_as g c = λ text m f input known bound left same.
    let v : View = g.B.Bus.view c.args.bus.now in
    let w : View = g.B.Bus.view c.step_cached.new.bus in
    let new : View = g.B.Bus.view c.call.new.bus in
    let b = before_call (boundless f v) c.args.pid c.args.cpu.now input known in
    let step = c.in-Gate.ensures.step in
    let bound_then : IsBound w = subst (λ (s : Machine). IsBound s.view) (sym step.1) bound in
    let does = moved f c.args.pid input known c.in-Gate.service c.in-Gate.next c.call.new.cpu new _ _ _ _ _ _ (Ok c.in-Ok-Back.field-0) (state c.step_cached.new.cpu w) (state c.args.cpu.now v) step.1
    (c.in-Ok-Back.ensures.does text m f input known bound_then left (record { avail = same.avail })) in
    let made = by_answer f c.args.pid input known c.in-Gate.service c.in-Gate.next c.call.new.cpu new _ _ _ _ _ _ v c.args.cpu.now c.in-Ok-Back.field-0 (called.Back c.in-Ok-Back.bytes) c.in-Ok-Back.field-0-is does in
    subst (λ (e : Effect). Leaves b e c.call.new.cpu (whole f v).bytes (whole f new).bytes (left_as text (g.I.Source.left c.args.input.now) (g.I.Source.past c.args.input.now))
    (left_as text (g.I.Source.left c.call.new.input) (g.I.Source.past c.call.new.input)) (g.C.Sink.taken c.args.console.now) (g.C.Sink.taken c.call.new.console)
    (g.R.Sink.taken c.args.report.now) (g.R.Sink.taken c.outlived-in-Ok-Back.new.report) c.outlived-in-Ok-Back.result)
    (sym (effect_by b (Err (stop.Gate c.in-Gate.service c.in-Gate.next)) (gate_boundless f v w c.args.cpu.now c.step_cached.new.cpu c.in-Gate.service c.in-Gate.next (c.in-Gate.ensures.boundless f bound))))
    (c.outlived-in-Ok-Back.ensures.leaves f b (serviced b c.in-Gate.service c.in-Gate.next) c.call.new.cpu (whole f v).bytes new
    (left_as text (g.I.Source.left c.args.input.now) (g.I.Source.past c.args.input.now)) _ _ _ _ refl refl made)

pub returns-in-Ok-Back-clause-leaves : goal.returns-in-Ok-Back-clause-leaves
returns-in-Ok-Back-clause-leaves g c = λ f input known bound left same. returns-in-Ok-Back-clause-leaves_as g c None tt f input known bound left same

pub returns-in-Ok-Trap-clause-leaves_as : goal.returns-in-Ok-Trap-clause-leaves_as
returns-in-Ok-Trap-clause-leaves_as g c = λ text m f input known bound left same.
    let v : View = g.B.Bus.view c.args.bus.now in
    let w : View = g.B.Bus.view c.step_cached.new.bus in
    let new : View = g.B.Bus.view c.call.new.bus in
    let b = before_call (boundless f v) c.args.pid c.args.cpu.now input known in
    let step = c.in-Gate.ensures.step in
    let bound_then : IsBound w = subst (λ (s : Machine). IsBound s.view) (sym step.1) bound in
    let does = moved f c.args.pid input known c.in-Gate.service c.in-Gate.next c.call.new.cpu new _ _ _ _ _ _ (Ok c.in-Ok-Trap.field-0) (state c.step_cached.new.cpu w) (state c.args.cpu.now v) step.1
    (c.in-Ok-Trap.ensures.does text m f input known bound_then left (record { avail = same.avail })) in
    let vector = c.in-Ok-Trap.vector in
    let t = by_answer f c.args.pid input known c.in-Gate.service c.in-Gate.next c.call.new.cpu new _ _ _ _ _ _ v c.args.cpu.now c.in-Ok-Trap.field-0 (called.Trap vector _) c.in-Ok-Trap.field-0-is does in
    let bytes = whole_same f v new t.untouched.view in
    let base = c.trap-in-Ok-Trap.ensures.leaves b c.call.new.cpu (whole f v).bytes (whole f new).bytes (left_as text (g.I.Source.left c.args.input.now) (g.I.Source.past c.args.input.now))
    (g.C.Sink.taken c.args.console.now) refl (sym t.untouched.cpu) t.untouched.cpu left bytes bytes in
    let P : Effect → Option (List ℕ) → Option (List ℕ) → Option (List ℕ) → Type 0 = λ e j d r. Leaves b e c.call.new.cpu (whole f v).bytes (whole f new).bytes
    (left_as text (g.I.Source.left c.args.input.now) (g.I.Source.past c.args.input.now)) j (g.C.Sink.taken c.args.console.now) d r
    (g.R.Sink.taken c.trap-in-Ok-Trap.new.report) c.trap-in-Ok-Trap.result in
    let one = single_stepped b (trapped b vector) in
    let eff = effect_by b (Err (stop.Gate c.in-Gate.service c.in-Gate.next)) (gate_boundless f v w c.args.cpu.now c.step_cached.new.cpu c.in-Gate.service c.in-Gate.next (c.in-Gate.ensures.boundless f bound))
    ∙ ap (λ (e : Effect). single_stepped b e) t.effect in
    subst (λ (e : Effect). P e (left_as text (g.I.Source.left c.call.new.input) (g.I.Source.past c.call.new.input)) (g.C.Sink.taken c.call.new.console) (g.R.Sink.taken c.args.report.now)) (sym eff)
    (subst (λ (j : Option (List ℕ)). P one j (g.C.Sink.taken c.call.new.console) (g.R.Sink.taken c.args.report.now)) (sym t.untouched.input)
    (subst (λ (d : Option (List ℕ)). P one (left_as text (g.I.Source.left c.args.input.now) (g.I.Source.past c.args.input.now)) d (g.R.Sink.taken c.args.report.now)) (sym t.untouched.to_console)
    (subst (λ (r : Option (List ℕ)). P one (left_as text (g.I.Source.left c.args.input.now) (g.I.Source.past c.args.input.now)) (g.C.Sink.taken c.args.console.now) r) t.untouched.to_report base)))

pub returns-in-Ok-Trap-clause-leaves : goal.returns-in-Ok-Trap-clause-leaves
returns-in-Ok-Trap-clause-leaves g c = λ f input known bound left same. returns-in-Ok-Trap-clause-leaves_as g c None tt f input known bound left same

pub returns-in-Ok-Exited-clause-leaves_as : goal.returns-in-Ok-Exited-clause-leaves_as
returns-in-Ok-Exited-clause-leaves_as g c = λ text m f input known bound left same.
    let v : View = g.B.Bus.view c.args.bus.now in
    let w : View = g.B.Bus.view c.step_cached.new.bus in
    let new : View = g.B.Bus.view c.call.new.bus in
    let b = before_call (boundless f v) c.args.pid c.args.cpu.now input known in
    let step = c.in-Gate.ensures.step in
    let bound_then : IsBound w = subst (λ (s : Machine). IsBound s.view) (sym step.1) bound in
    let does = moved f c.args.pid input known c.in-Gate.service c.in-Gate.next c.call.new.cpu new _ _ _ _ _ _ (Ok c.in-Ok-Exited.field-0) (state c.step_cached.new.cpu w) (state c.args.cpu.now v) step.1
    (c.in-Ok-Exited.ensures.does text m f input known bound_then left (record { avail = same.avail })) in
    let made = by_answer f c.args.pid input known c.in-Gate.service c.in-Gate.next c.call.new.cpu new _ _ _ _ _ _ v c.args.cpu.now c.in-Ok-Exited.field-0 (called.Exited c.in-Ok-Exited.code) c.in-Ok-Exited.field-0-is does in
    let ends : State = Exited c.in-Ok-Exited.code in
    let tally : Tally = record { bytes = 0; lines = 2 } in
    let e = serviced b c.in-Gate.service c.in-Gate.next in
    subst (λ (y : Effect). IsDone y (record { state = ends; tally = tally; whole = true }) c.call.new.cpu (whole f new).bytes
    (left_as text (g.I.Source.left c.call.new.input) (g.I.Source.past c.call.new.input)) (g.C.Sink.taken c.args.console.now) (g.C.Sink.taken c.call.new.console)
    (g.R.Sink.taken c.args.report.now) (g.R.Sink.taken c.call.new.report))
    (sym (effect_by b (Err (stop.Gate c.in-Gate.service c.in-Gate.next)) (gate_boundless f v w c.args.cpu.now c.step_cached.new.cpu c.in-Gate.service c.in-Gate.next (c.in-Gate.ensures.boundless f bound))
    ∙ ended_stays b e (ap is_live made.state)))
    (done_by f e ends tally c.call.new.cpu new _ _ _ _ _ made)

pub returns-in-Ok-Exited-clause-leaves : goal.returns-in-Ok-Exited-clause-leaves
returns-in-Ok-Exited-clause-leaves g c = λ f input known bound left same. returns-in-Ok-Exited-clause-leaves_as g c None tt f input known bound left same

pub returns-in-Ok-Missed-clause-leaves_as : goal.returns-in-Ok-Missed-clause-leaves_as
returns-in-Ok-Missed-clause-leaves_as g c = λ text m f input known bound left same.
    let v : View = g.B.Bus.view c.args.bus.now in
    let w : View = g.B.Bus.view c.step_cached.new.bus in
    let new : View = g.B.Bus.view c.call.new.bus in
    let step = c.in-Gate.ensures.step in
    let bound_then : IsBound w = subst (λ (s : Machine). IsBound s.view) (sym step.1) bound in
    let does = moved f c.args.pid input known c.in-Gate.service c.in-Gate.next c.call.new.cpu new _ _ _ _ _ _ (Ok c.in-Ok-Missed.field-0) (state c.step_cached.new.cpu w) (state c.args.cpu.now v) step.1
    (c.in-Ok-Missed.ensures.does text m f input known bound_then left (record { avail = same.avail })) in
    still_of f c.call.new.cpu c.args.cpu.now v new _ _ _ _ _ _
    (by_answer f c.args.pid input known c.in-Gate.service c.in-Gate.next c.call.new.cpu new _ _ _ _ _ _ v c.args.cpu.now c.in-Ok-Missed.field-0 (called.Missed c.in-Ok-Missed.sel) c.in-Ok-Missed.field-0-is does)

pub returns-in-Ok-Missed-clause-leaves : goal.returns-in-Ok-Missed-clause-leaves
returns-in-Ok-Missed-clause-leaves g c = λ f input known bound left same. returns-in-Ok-Missed-clause-leaves_as g c None tt f input known bound left same

pub returns-in-Ok-Missed-clause-away : goal.returns-in-Ok-Missed-clause-away
returns-in-Ok-Missed-clause-away g c = λ bound.
    subst (λ (s : Machine). IsAway s.view c.in-Ok-Missed.sel) c.in-Gate.ensures.step.1
    (missed_by (g.B.Bus.view c.step_cached.new.bus) c.in-Ok-Missed.field-0 c.in-Ok-Missed.sel c.in-Ok-Missed.field-0-is c.in-Ok-Missed.ensures.away)

pub returns-in-Err-clause-leaves_as : goal.returns-in-Err-clause-leaves_as
returns-in-Err-clause-leaves_as g c = λ text m f input known bound left same.
    let v : View = g.B.Bus.view c.args.bus.now in
    let w : View = g.B.Bus.view c.step_cached.new.bus in
    let new : View = g.B.Bus.view c.call.new.bus in
    let step = c.in-Gate.ensures.step in
    let bound_then : IsBound w = subst (λ (s : Machine). IsBound s.view) (sym step.1) bound in
    fault_by f c.args.pid input known c.in-Gate.service c.in-Gate.next c.call.new.cpu new _ _ _ _ _ _ v c.args.cpu.now c.in-Err.fault
    (gate_boundless f v w c.args.cpu.now c.step_cached.new.cpu c.in-Gate.service c.in-Gate.next (c.in-Gate.ensures.boundless f bound)) c.in-Err.ensures.input_service
    (moved f c.args.pid input known c.in-Gate.service c.in-Gate.next c.call.new.cpu new _ _ _ _ _ _ (Err c.in-Err.fault) (state c.step_cached.new.cpu w) (state c.args.cpu.now v) step.1
    (c.in-Err.ensures.does text m f input known bound_then left (record { avail = same.avail })))

pub returns-in-Err-clause-leaves : goal.returns-in-Err-clause-leaves
returns-in-Err-clause-leaves g c = λ f input known bound left same. returns-in-Err-clause-leaves_as g c None tt f input known bound left same

pub returns-in-Ok-Back-clause-frame : goal.returns-in-Ok-Back-clause-frame
returns-in-Ok-Back-clause-frame g c =
    frame_then (g.B.Bus.view c.args.bus.now) (g.B.Bus.view c.step_cached.new.bus) (g.B.Bus.view c.call.new.bus) c.step_cached.ensures.frame
    (frame_by (g.B.Bus.view c.step_cached.new.bus) (g.B.Bus.view c.call.new.bus) c.call.ensures.frame)

pub returns-in-Ok-Exited-clause-frame : goal.returns-in-Ok-Exited-clause-frame
returns-in-Ok-Exited-clause-frame g c =
    frame_then (g.B.Bus.view c.args.bus.now) (g.B.Bus.view c.step_cached.new.bus) (g.B.Bus.view c.call.new.bus) c.step_cached.ensures.frame
    (frame_by (g.B.Bus.view c.step_cached.new.bus) (g.B.Bus.view c.call.new.bus) c.call.ensures.frame)

pub returns-in-Ok-Trap-clause-frame : goal.returns-in-Ok-Trap-clause-frame
returns-in-Ok-Trap-clause-frame g c =
    frame_then (g.B.Bus.view c.args.bus.now) (g.B.Bus.view c.step_cached.new.bus) (g.B.Bus.view c.call.new.bus) c.step_cached.ensures.frame
    (frame_by (g.B.Bus.view c.step_cached.new.bus) (g.B.Bus.view c.call.new.bus) c.call.ensures.frame)

pub returns-in-Ok-Missed-clause-frame : goal.returns-in-Ok-Missed-clause-frame
returns-in-Ok-Missed-clause-frame g c =
    frame_then (g.B.Bus.view c.args.bus.now) (g.B.Bus.view c.step_cached.new.bus) (g.B.Bus.view c.call.new.bus) c.step_cached.ensures.frame
    (frame_by (g.B.Bus.view c.step_cached.new.bus) (g.B.Bus.view c.call.new.bus) c.call.ensures.frame)

pub returns-in-Err-clause-frame : goal.returns-in-Err-clause-frame
returns-in-Err-clause-frame g c =
    frame_then (g.B.Bus.view c.args.bus.now) (g.B.Bus.view c.step_cached.new.bus) (g.B.Bus.view c.call.new.bus) c.step_cached.ensures.frame
    (frame_by (g.B.Bus.view c.step_cached.new.bus) (g.B.Bus.view c.call.new.bus) c.call.ensures.frame)

pub returns-in-Done-clause-away : goal.returns-in-Done-clause-away
returns-in-Done-clause-away g c = λ bound. none_missed c.outlived.result _ c.outlived.ensures.done

pub returns-in-Trap-clause-away : goal.returns-in-Trap-clause-away
returns-in-Trap-clause-away g c = λ bound. none_missed c.trap.result _ c.trap.ensures.done

pub returns-in-Ok-Back-clause-away : goal.returns-in-Ok-Back-clause-away
returns-in-Ok-Back-clause-away g c = λ bound. none_missed c.outlived-in-Ok-Back.result _ c.outlived-in-Ok-Back.ensures.done

pub returns-in-Ok-Trap-clause-away : goal.returns-in-Ok-Trap-clause-away
returns-in-Ok-Trap-clause-away g c = λ bound. none_missed c.trap-in-Ok-Trap.result _ c.trap-in-Ok-Trap.ensures.done

-- The names that the step touches.

pub returns-in-Miss-clause-missed : goal.returns-in-Miss-clause-missed
returns-in-Miss-clause-missed g c = λ f input known bound.
    loads_missed f (g.B.Bus.view c.args.bus.now) c.args.cpu.now c.args.pid input known c.in-Miss.sel (c.in-Miss.ensures.boundless f bound).1

pub returns-in-Done-clause-missed : goal.returns-in-Done-clause-missed
returns-in-Done-clause-missed g c = λ f input known bound. none_missed c.outlived.result _ c.outlived.ensures.done

pub returns-in-Trap-clause-missed : goal.returns-in-Trap-clause-missed
returns-in-Trap-clause-missed g c = λ f input known bound. none_missed c.trap.result _ c.trap.ensures.done

pub returns-in-Ok-Back-clause-missed : goal.returns-in-Ok-Back-clause-missed
returns-in-Ok-Back-clause-missed g c = λ f input known bound. none_missed c.outlived-in-Ok-Back.result _ c.outlived-in-Ok-Back.ensures.done

pub returns-in-Ok-Trap-clause-missed : goal.returns-in-Ok-Trap-clause-missed
returns-in-Ok-Trap-clause-missed g c = λ f input known bound. none_missed c.trap-in-Ok-Trap.result _ c.trap-in-Ok-Trap.ensures.done

pub returns-in-Ok-Missed-clause-missed : goal.returns-in-Ok-Missed-clause-missed
returns-in-Ok-Missed-clause-missed g c = λ f input known bound.
    let v : View = g.B.Bus.view c.args.bus.now in
    let w : View = g.B.Bus.view c.step_cached.new.bus in
    let step = c.in-Gate.ensures.step in
    let bound_then : IsBound w = subst (λ (s : Machine). IsBound s.view) (sym step.1) bound in
    call_missed f v c.args.cpu.now c.args.pid input known c.in-Gate.service c.in-Gate.next
    (gate_boundless f v w c.args.cpu.now c.step_cached.new.cpu c.in-Gate.service c.in-Gate.next (c.in-Gate.ensures.boundless f bound)) c.in-Ok-Missed.sel
    (told_by c.args.pid input known c.in-Gate.service c.in-Ok-Missed.field-0 (called.Missed c.in-Ok-Missed.sel) (state c.step_cached.new.cpu w) (state c.args.cpu.now v)
    c.in-Ok-Missed.field-0-is step.1 (c.in-Ok-Missed.ensures.names input known bound_then) f)

pub returns-in-Done-clause-present : goal.returns-in-Done-clause-present
returns-in-Done-clause-present g c = λ f input known bound never.
    let v : View = g.B.Bus.view c.args.bus.now in
    let w : View = g.B.Bus.view c.step_cached.new.bus in
    touched_present f v c.args.cpu.now c.args.pid input known (Ok (state c.step_cached.new.cpu (boundless f w)))
    (done_boundless f v w c.args.cpu.now c.step_cached.new.cpu (c.in-Done.ensures.boundless f bound)) refl (c.in-Done.ensures.present f bound refl)

pub returns-in-Trap-clause-present : goal.returns-in-Trap-clause-present
returns-in-Trap-clause-present g c = λ f input known bound never.
    let v : View = g.B.Bus.view c.args.bus.now in
    let w : View = g.B.Bus.view c.step_cached.new.bus in
    touched_present f v c.args.cpu.now c.args.pid input known (Err (stop.Trap c.in-Trap.vector c.in-Trap.field-1))
    (trap_boundless f v w c.args.cpu.now c.step_cached.new.cpu c.in-Trap.vector c.in-Trap.field-1 (c.in-Trap.ensures.boundless f bound)) refl (c.in-Trap.ensures.present f bound refl)

pub returns-in-Ok-Back-clause-present : goal.returns-in-Ok-Back-clause-present
returns-in-Ok-Back-clause-present g c = λ f input known bound never.
    let v : View = g.B.Bus.view c.args.bus.now in
    let w : View = g.B.Bus.view c.step_cached.new.bus in
    let step = c.in-Gate.ensures.step in
    let bound_then : IsBound w = subst (λ (s : Machine). IsBound s.view) (sym step.1) bound in
    call_present f v c.args.cpu.now c.args.pid input known c.in-Gate.service c.in-Gate.next
    (gate_boundless f v w c.args.cpu.now c.step_cached.new.cpu c.in-Gate.service c.in-Gate.next (c.in-Gate.ensures.boundless f bound)) (c.in-Gate.ensures.present f bound refl)
    (told_by c.args.pid input known c.in-Gate.service c.in-Ok-Back.field-0 (called.Back c.in-Ok-Back.bytes) (state c.step_cached.new.cpu w) (state c.args.cpu.now v)
    c.in-Ok-Back.field-0-is step.1 (c.in-Ok-Back.ensures.names input known bound_then) f)

pub returns-in-Ok-Exited-clause-present : goal.returns-in-Ok-Exited-clause-present
returns-in-Ok-Exited-clause-present g c = λ f input known bound never.
    let v : View = g.B.Bus.view c.args.bus.now in
    let w : View = g.B.Bus.view c.step_cached.new.bus in
    let step = c.in-Gate.ensures.step in
    let bound_then : IsBound w = subst (λ (s : Machine). IsBound s.view) (sym step.1) bound in
    call_present f v c.args.cpu.now c.args.pid input known c.in-Gate.service c.in-Gate.next
    (gate_boundless f v w c.args.cpu.now c.step_cached.new.cpu c.in-Gate.service c.in-Gate.next (c.in-Gate.ensures.boundless f bound)) (c.in-Gate.ensures.present f bound refl)
    (told_by c.args.pid input known c.in-Gate.service c.in-Ok-Exited.field-0 (called.Exited c.in-Ok-Exited.code) (state c.step_cached.new.cpu w) (state c.args.cpu.now v)
    c.in-Ok-Exited.field-0-is step.1 (c.in-Ok-Exited.ensures.names input known bound_then) f)

pub returns-in-Ok-Trap-clause-present : goal.returns-in-Ok-Trap-clause-present
returns-in-Ok-Trap-clause-present g c = λ f input known bound never.
    let v : View = g.B.Bus.view c.args.bus.now in
    let w : View = g.B.Bus.view c.step_cached.new.bus in
    let step = c.in-Gate.ensures.step in
    let bound_then : IsBound w = subst (λ (s : Machine). IsBound s.view) (sym step.1) bound in
    call_present f v c.args.cpu.now c.args.pid input known c.in-Gate.service c.in-Gate.next
    (gate_boundless f v w c.args.cpu.now c.step_cached.new.cpu c.in-Gate.service c.in-Gate.next (c.in-Gate.ensures.boundless f bound)) (c.in-Gate.ensures.present f bound refl)
    (told_by c.args.pid input known c.in-Gate.service c.in-Ok-Trap.field-0 (called.Trap c.in-Ok-Trap.vector _) (state c.step_cached.new.cpu w) (state c.args.cpu.now v)
    c.in-Ok-Trap.field-0-is step.1 (c.in-Ok-Trap.ensures.names input known bound_then) f)

pub returns-in-Err-clause-present : goal.returns-in-Err-clause-present
returns-in-Err-clause-present g c = λ f input known bound never.
    let v : View = g.B.Bus.view c.args.bus.now in
    let w : View = g.B.Bus.view c.step_cached.new.bus in
    let step = c.in-Gate.ensures.step in
    let bound_then : IsBound w = subst (λ (s : Machine). IsBound s.view) (sym step.1) bound in
    call_present f v c.args.cpu.now c.args.pid input known c.in-Gate.service c.in-Gate.next
    (gate_boundless f v w c.args.cpu.now c.step_cached.new.cpu c.in-Gate.service c.in-Gate.next (c.in-Gate.ensures.boundless f bound)) (c.in-Gate.ensures.present f bound refl)
    (told_before c.args.pid input known c.in-Gate.service (Err c.in-Err.fault) (state c.step_cached.new.cpu w) (state c.args.cpu.now v)
    step.1 (c.in-Err.ensures.names input known bound_then) f)

-- What it writes, and the segment registers.

pub returns-in-Done-clause-writes : goal.returns-in-Done-clause-writes
returns-in-Done-clause-writes g c = λ agrees. writes_data (g.B.Bus.view c.args.bus.now) (g.B.Bus.view c.step_cached.new.bus) c.args.cpu.now agrees c.step_cached.ensures.writes

pub returns-in-Trap-clause-writes : goal.returns-in-Trap-clause-writes
returns-in-Trap-clause-writes g c = λ agrees. writes_data (g.B.Bus.view c.args.bus.now) (g.B.Bus.view c.step_cached.new.bus) c.args.cpu.now agrees c.step_cached.ensures.writes

pub returns-in-Miss-clause-writes : goal.returns-in-Miss-clause-writes
returns-in-Miss-clause-writes g c = λ agrees. writes_data (g.B.Bus.view c.args.bus.now) (g.B.Bus.view c.step_cached.new.bus) c.args.cpu.now agrees c.step_cached.ensures.writes

pub returns-in-Ok-Back-clause-writes : goal.returns-in-Ok-Back-clause-writes
returns-in-Ok-Back-clause-writes g c = λ agrees.
    writes_then (g.B.Bus.view c.args.bus.now) (g.B.Bus.view c.step_cached.new.bus) (g.B.Bus.view c.call.new.bus) c.step_cached.ensures.frame.held
    (writes_data (g.B.Bus.view c.args.bus.now) (g.B.Bus.view c.step_cached.new.bus) c.args.cpu.now agrees c.step_cached.ensures.writes) c.call.ensures.writes

pub returns-in-Ok-Back-clause-agrees : goal.returns-in-Ok-Back-clause-agrees
returns-in-Ok-Back-clause-agrees g c = λ agrees.
    agrees_then c.step_cached.new.cpu c.call.new.cpu (g.B.Bus.view c.step_cached.new.bus) (g.B.Bus.view c.call.new.bus) c.call.ensures.frame c.call.ensures.selectors (c.step_cached.ensures.agrees agrees)

pub returns-in-Ok-Exited-clause-writes : goal.returns-in-Ok-Exited-clause-writes
returns-in-Ok-Exited-clause-writes g c = λ agrees.
    writes_then (g.B.Bus.view c.args.bus.now) (g.B.Bus.view c.step_cached.new.bus) (g.B.Bus.view c.call.new.bus) c.step_cached.ensures.frame.held
    (writes_data (g.B.Bus.view c.args.bus.now) (g.B.Bus.view c.step_cached.new.bus) c.args.cpu.now agrees c.step_cached.ensures.writes) c.call.ensures.writes

pub returns-in-Ok-Exited-clause-agrees : goal.returns-in-Ok-Exited-clause-agrees
returns-in-Ok-Exited-clause-agrees g c = λ agrees.
    agrees_then c.step_cached.new.cpu c.call.new.cpu (g.B.Bus.view c.step_cached.new.bus) (g.B.Bus.view c.call.new.bus) c.call.ensures.frame c.call.ensures.selectors (c.step_cached.ensures.agrees agrees)

pub returns-in-Ok-Trap-clause-writes : goal.returns-in-Ok-Trap-clause-writes
returns-in-Ok-Trap-clause-writes g c = λ agrees.
    writes_then (g.B.Bus.view c.args.bus.now) (g.B.Bus.view c.step_cached.new.bus) (g.B.Bus.view c.call.new.bus) c.step_cached.ensures.frame.held
    (writes_data (g.B.Bus.view c.args.bus.now) (g.B.Bus.view c.step_cached.new.bus) c.args.cpu.now agrees c.step_cached.ensures.writes) c.call.ensures.writes

pub returns-in-Ok-Trap-clause-agrees : goal.returns-in-Ok-Trap-clause-agrees
returns-in-Ok-Trap-clause-agrees g c = λ agrees.
    agrees_then c.step_cached.new.cpu c.call.new.cpu (g.B.Bus.view c.step_cached.new.bus) (g.B.Bus.view c.call.new.bus) c.call.ensures.frame c.call.ensures.selectors (c.step_cached.ensures.agrees agrees)

pub returns-in-Ok-Missed-clause-writes : goal.returns-in-Ok-Missed-clause-writes
returns-in-Ok-Missed-clause-writes g c = λ agrees.
    writes_then (g.B.Bus.view c.args.bus.now) (g.B.Bus.view c.step_cached.new.bus) (g.B.Bus.view c.call.new.bus) c.step_cached.ensures.frame.held
    (writes_data (g.B.Bus.view c.args.bus.now) (g.B.Bus.view c.step_cached.new.bus) c.args.cpu.now agrees c.step_cached.ensures.writes) c.call.ensures.writes

pub returns-in-Ok-Missed-clause-agrees : goal.returns-in-Ok-Missed-clause-agrees
returns-in-Ok-Missed-clause-agrees g c = λ agrees.
    agrees_then c.step_cached.new.cpu c.call.new.cpu (g.B.Bus.view c.step_cached.new.bus) (g.B.Bus.view c.call.new.bus) c.call.ensures.frame c.call.ensures.selectors (c.step_cached.ensures.agrees agrees)

pub returns-in-Err-clause-writes : goal.returns-in-Err-clause-writes
returns-in-Err-clause-writes g c = λ agrees.
    writes_then (g.B.Bus.view c.args.bus.now) (g.B.Bus.view c.step_cached.new.bus) (g.B.Bus.view c.call.new.bus) c.step_cached.ensures.frame.held
    (writes_data (g.B.Bus.view c.args.bus.now) (g.B.Bus.view c.step_cached.new.bus) c.args.cpu.now agrees c.step_cached.ensures.writes) c.call.ensures.writes

pub returns-in-Err-clause-agrees : goal.returns-in-Err-clause-agrees
returns-in-Err-clause-agrees g c = λ agrees.
    agrees_then c.step_cached.new.cpu c.call.new.cpu (g.B.Bus.view c.step_cached.new.bus) (g.B.Bus.view c.call.new.bus) c.call.ensures.frame c.call.ensures.selectors (c.step_cached.ensures.agrees agrees)

-- Nothing is changed where a segment is missed.

pub returns-in-Miss-clause-still : goal.returns-in-Miss-clause-still
returns-in-Miss-clause-still g c =
    let same = c.in-Miss.ensures.step.1 in (ap (λ (s : Machine). s.cpu) same, ap (λ (s : Machine). s.view) same, refl, refl, refl)

pub returns-in-Done-clause-still : goal.returns-in-Done-clause-still
returns-in-Done-clause-still g c = none_undone c.outlived.result _ c.outlived.ensures.done

pub returns-in-Done-clause-ready : goal.returns-in-Done-clause-ready
returns-in-Done-clause-ready g c = none_asked c.outlived.result _ c.outlived.ensures.done

pub returns-in-Trap-clause-still : goal.returns-in-Trap-clause-still
returns-in-Trap-clause-still g c = none_undone c.trap.result _ c.trap.ensures.done

pub returns-in-Trap-clause-ready : goal.returns-in-Trap-clause-ready
returns-in-Trap-clause-ready g c = none_asked c.trap.result _ c.trap.ensures.done

pub returns-in-Ok-Back-clause-still : goal.returns-in-Ok-Back-clause-still
returns-in-Ok-Back-clause-still g c = none_undone c.outlived-in-Ok-Back.result _ c.outlived-in-Ok-Back.ensures.done

pub returns-in-Ok-Back-clause-ready : goal.returns-in-Ok-Back-clause-ready
returns-in-Ok-Back-clause-ready g c = none_asked c.outlived-in-Ok-Back.result _ c.outlived-in-Ok-Back.ensures.done

pub returns-in-Ok-Trap-clause-still : goal.returns-in-Ok-Trap-clause-still
returns-in-Ok-Trap-clause-still g c = none_undone c.trap-in-Ok-Trap.result _ c.trap-in-Ok-Trap.ensures.done

pub returns-in-Ok-Trap-clause-ready : goal.returns-in-Ok-Trap-clause-ready
returns-in-Ok-Trap-clause-ready g c = none_asked c.trap-in-Ok-Trap.result _ c.trap-in-Ok-Trap.ensures.done

pub returns-in-Ok-Missed-clause-still : goal.returns-in-Ok-Missed-clause-still
returns-in-Ok-Missed-clause-still g c =
    let same = c.in-Gate.ensures.step.1 in
    let did = undone_missed _ c.in-Ok-Missed.field-0 c.in-Ok-Missed.sel c.in-Ok-Missed.field-0-is c.in-Ok-Missed.ensures.still in
    (did.0 ∙ ap (λ (s : Machine). s.cpu) same, did.1 ∙ ap (λ (s : Machine). s.view) same, did.2, did.3, did.4)

pub returns-in-Done-clause-puts : goal.returns-in-Done-clause-puts
returns-in-Done-clause-puts g c = c.outlived.ensures.puts _ _ _ (no_hands _ _)

pub returns-in-Ok-Back-clause-puts : goal.returns-in-Ok-Back-clause-puts
returns-in-Ok-Back-clause-puts g c = c.outlived-in-Ok-Back.ensures.puts _ _ _ (back_hands _ c.in-Ok-Back.field-0 c.in-Ok-Back.ensures.puts _ c.in-Ok-Back.field-0-is)

pub returns-in-Ok-Exited-clause-puts : goal.returns-in-Ok-Exited-clause-puts
returns-in-Ok-Exited-clause-puts g c = exit_hands _ c.in-Ok-Exited.field-0 c.in-Ok-Exited.ensures.puts _ c.in-Ok-Exited.field-0-is

pub returns-in-Ok-Trap-clause-puts : goal.returns-in-Ok-Trap-clause-puts
returns-in-Ok-Trap-clause-puts g c = behind (λ (n : Counts). AttemptHands n c.trap-in-Ok-Trap.result) _ _ _ _ _ (trap_hands _ c.in-Ok-Trap.field-0 c.in-Ok-Trap.ensures.puts _ _ c.in-Ok-Trap.field-0-is) (c.trap-in-Ok-Trap.ensures.puts _)

pub returns-in-Err-clause-puts : goal.returns-in-Err-clause-puts
returns-in-Err-clause-puts g c = fault_hands _ c.in-Err.fault c.in-Err.ensures.puts

pub returns-in-Trap-clause-part_as : goal.returns-in-Trap-clause-part_as
returns-in-Trap-clause-part_as g c = λ text m f input known bound left same.
    let v : View = g.B.Bus.view c.args.bus.now in
    let b = before_call (boundless f v) c.args.pid c.args.cpu.now input known in
    trap_part b (effect b) c.in-Trap.vector c.step_cached.new.cpu _ c.trap.result
    (effect_by b (Err (stop.Trap c.in-Trap.vector c.in-Trap.field-1)) (trap_boundless f v (g.B.Bus.view c.step_cached.new.bus) c.args.cpu.now c.step_cached.new.cpu c.in-Trap.vector c.in-Trap.field-1 (c.in-Trap.ensures.boundless f bound)))
    (ap (λ (s : Machine). s.cpu) c.in-Trap.ensures.step.1) (λ none lines. c.trap.ensures.part (effect b) _ none lines)

pub returns-in-Trap-clause-part : goal.returns-in-Trap-clause-part
returns-in-Trap-clause-part g c = λ f input known bound left same. returns-in-Trap-clause-part_as g c None tt f input known bound left same

pub returns-in-Ok-Trap-clause-part_as : goal.returns-in-Ok-Trap-clause-part_as
returns-in-Ok-Trap-clause-part_as g c = λ text m f input known bound left same.
    let v : View = g.B.Bus.view c.args.bus.now in
    let w : View = g.B.Bus.view c.step_cached.new.bus in
    let b = before_call (boundless f v) c.args.pid c.args.cpu.now input known in
    let step = c.in-Gate.ensures.step in
    let bound_then : IsBound w = subst (λ (s : Machine). IsBound s.view) (sym step.1) bound in
    let does = moved f c.args.pid input known c.in-Gate.service c.in-Gate.next c.call.new.cpu (g.B.Bus.view c.call.new.bus) _ _ _ _ _ _ (Ok c.in-Ok-Trap.field-0) (state c.step_cached.new.cpu w) (state c.args.cpu.now v) step.1
    (c.in-Ok-Trap.ensures.does text m f input known bound_then left (record { avail = same.avail })) in
    let vector = c.in-Ok-Trap.vector in
    let t = by_answer f c.args.pid input known c.in-Gate.service c.in-Gate.next c.call.new.cpu (g.B.Bus.view c.call.new.bus) _ _ _ _ _ _ v c.args.cpu.now c.in-Ok-Trap.field-0 (called.Trap vector _) c.in-Ok-Trap.field-0-is does in
    behind_told (λ (n : Counts). AttemptPart (effect b) n c.trap-in-Ok-Trap.result) _ _ _ _ _ _ _ _ (trap_hands _ c.in-Ok-Trap.field-0 c.in-Ok-Trap.ensures.puts _ _ c.in-Ok-Trap.field-0-is) t.untouched.to_report
    (trap_part b (effect b) vector c.call.new.cpu _ c.trap-in-Ok-Trap.result
    (effect_by b (Err (stop.Gate c.in-Gate.service c.in-Gate.next)) (gate_boundless f v w c.args.cpu.now c.step_cached.new.cpu c.in-Gate.service c.in-Gate.next (c.in-Gate.ensures.boundless f bound))
    ∙ ap (λ (e : Effect). single_stepped b e) t.effect)
    t.untouched.cpu (λ none lines. c.trap-in-Ok-Trap.ensures.part (effect b) _ none lines))

pub returns-in-Ok-Trap-clause-part : goal.returns-in-Ok-Trap-clause-part
returns-in-Ok-Trap-clause-part g c = λ f input known bound left same. returns-in-Ok-Trap-clause-part_as g c None tt f input known bound left same

pub returns-in-Err-clause-part_as : goal.returns-in-Err-clause-part_as
returns-in-Err-clause-part_as g c = λ text m f input known bound left same.
    let v : View = g.B.Bus.view c.args.bus.now in
    let w : View = g.B.Bus.view c.step_cached.new.bus in
    let b = before_call (boundless f v) c.args.pid c.args.cpu.now input known in
    let step = c.in-Gate.ensures.step in
    let bound_then : IsBound w = subst (λ (s : Machine). IsBound s.view) (sym step.1) bound in
    let n = told_counts (g.C.Sink.puts c.args.console.now) (g.C.Sink.puts c.call.new.console) (g.R.Sink.puts c.args.report.now) (g.R.Sink.puts c.call.new.report) 0
    (g.R.Sink.taken c.args.report.now) (g.R.Sink.taken c.call.new.report) in
    let fails : Result Called Fault = Err c.in-Err.fault in
    let part = subst (λ (s : Machine). PartHands (serviced (before_call (boundless f s.view) c.args.pid s.cpu input known) c.in-Gate.service c.in-Gate.next) n fails) step.1
    (c.in-Err.ensures.part text m f input known bound_then left (record { avail = same.avail })) in
    fault_part b (serviced b c.in-Gate.service c.in-Gate.next) _ n c.in-Err.fault
    (effect_by b (Err (stop.Gate c.in-Gate.service c.in-Gate.next)) (gate_boundless f v w c.args.cpu.now c.step_cached.new.cpu c.in-Gate.service c.in-Gate.next (c.in-Gate.ensures.boundless f bound))) part

pub returns-in-Err-clause-part : goal.returns-in-Err-clause-part
returns-in-Err-clause-part g c = λ f input known bound left same. returns-in-Err-clause-part_as g c None tt f input known bound left same

pub returns-in-Done-clause-part_as : goal.returns-in-Done-clause-part_as
returns-in-Done-clause-part_as g c = λ text m f input known bound left same.
    let v : View = g.B.Bus.view c.args.bus.now in
    let w : View = g.B.Bus.view c.step_cached.new.bus in
    let b = before_call (boundless f v) c.args.pid c.args.cpu.now input known in
    let cpu = c.step_cached.new.cpu in
    let r : Result Machine stop.the_data = Ok (state cpu (boundless f w)) in
    let k = g.C.Sink.puts c.args.console.now in
    subst (λ (e : Effect). AttemptPart e (told_counts k k (g.R.Sink.puts c.args.report.now) (g.R.Sink.puts c.outlived.new.report) 0
    (g.R.Sink.taken c.args.report.now) (g.R.Sink.taken c.outlived.new.report)) c.outlived.result)
    (sym (effect_by b r (done_boundless f v w c.args.cpu.now cpu (c.in-Done.ensures.boundless f bound))))
    (c.outlived.ensures.part f b (answered b r) cpu w (left_as text (g.I.Source.left c.args.input.now) (g.I.Source.past c.args.input.now))
    (g.C.Sink.taken c.args.console.now) (g.C.Sink.taken c.args.console.now) (g.R.Sink.taken c.args.report.now) k k (g.R.Sink.puts c.args.report.now) refl refl
    (record { state = refl; piece = refl; lines = refl; cpu = refl; changes = refl; waits = refl; bytes = λ n. refl; input = left; to_console = gains_none _; to_report = gains_none _ }) (no_hands _ _))

pub returns-in-Done-clause-part : goal.returns-in-Done-clause-part
returns-in-Done-clause-part g c = λ f input known bound left same. returns-in-Done-clause-part_as g c None tt f input known bound left same

pub returns-in-Trap-clause-puts : goal.returns-in-Trap-clause-puts
returns-in-Trap-clause-puts g c = c.trap.ensures.puts _

pub returns-in-Ok-Back-clause-part_as : goal.returns-in-Ok-Back-clause-part_as
returns-in-Ok-Back-clause-part_as g c = λ text m f input known bound left same.
    let v : View = g.B.Bus.view c.args.bus.now in
    let w : View = g.B.Bus.view c.step_cached.new.bus in
    let new : View = g.B.Bus.view c.call.new.bus in
    let b = before_call (boundless f v) c.args.pid c.args.cpu.now input known in
    let step = c.in-Gate.ensures.step in
    let bound_then : IsBound w = subst (λ (s : Machine). IsBound s.view) (sym step.1) bound in
    let does = moved f c.args.pid input known c.in-Gate.service c.in-Gate.next c.call.new.cpu new _ _ _ _ _ _ (Ok c.in-Ok-Back.field-0) (state c.step_cached.new.cpu w) (state c.args.cpu.now v) step.1
    (c.in-Ok-Back.ensures.does text m f input known bound_then left (record { avail = same.avail })) in
    let made = by_answer f c.args.pid input known c.in-Gate.service c.in-Gate.next c.call.new.cpu new _ _ _ _ _ _ v c.args.cpu.now c.in-Ok-Back.field-0 (called.Back c.in-Ok-Back.bytes) c.in-Ok-Back.field-0-is does in
    subst (λ (e : Effect). AttemptPart e (told_counts (g.C.Sink.puts c.args.console.now) (g.C.Sink.puts c.call.new.console) (g.R.Sink.puts c.args.report.now) (g.R.Sink.puts c.outlived-in-Ok-Back.new.report) 0
    (g.R.Sink.taken c.args.report.now) (g.R.Sink.taken c.outlived-in-Ok-Back.new.report)) c.outlived-in-Ok-Back.result)
    (sym (effect_by b (Err (stop.Gate c.in-Gate.service c.in-Gate.next)) (gate_boundless f v w c.args.cpu.now c.step_cached.new.cpu c.in-Gate.service c.in-Gate.next (c.in-Gate.ensures.boundless f bound))))
    (c.outlived-in-Ok-Back.ensures.part f b (serviced b c.in-Gate.service c.in-Gate.next) c.call.new.cpu new
    (left_as text (g.I.Source.left c.call.new.input) (g.I.Source.past c.call.new.input)) (g.C.Sink.taken c.args.console.now) (g.C.Sink.taken c.call.new.console) (g.R.Sink.taken c.args.report.now)
    (g.C.Sink.puts c.args.console.now) (g.C.Sink.puts c.call.new.console) (g.R.Sink.puts c.args.report.now) refl refl made
    (back_hands _ c.in-Ok-Back.field-0 c.in-Ok-Back.ensures.puts _ c.in-Ok-Back.field-0-is))

pub returns-in-Ok-Back-clause-part : goal.returns-in-Ok-Back-clause-part
returns-in-Ok-Back-clause-part g c = λ f input known bound left same. returns-in-Ok-Back-clause-part_as g c None tt f input known bound left same

-- A call on segments.

pub returns-in-Ok-Asked-clause-leaves_as : goal.returns-in-Ok-Asked-clause-leaves_as
returns-in-Ok-Asked-clause-leaves_as g c = λ text m f input known bound left same.
    let v : View = g.B.Bus.view c.args.bus.now in
    let w : View = g.B.Bus.view c.step_cached.new.bus in
    let new : View = g.B.Bus.view c.call.new.bus in
    let b = before_call (boundless f v) c.args.pid c.args.cpu.now input known in
    let step = c.in-Gate.ensures.step in
    let bound_then : IsBound w = subst (λ (s : Machine). IsBound s.view) (sym step.1) bound in
    let does = moved f c.args.pid input known c.in-Gate.service c.in-Gate.next c.call.new.cpu new _ _ _ _ _ _ (Ok c.in-Ok-Asked.field-0) (state c.step_cached.new.cpu w) (state c.args.cpu.now v) step.1
    (c.in-Ok-Asked.ensures.does text m f input known bound_then left (record { avail = same.avail })) in
    let asks = by_answer f c.args.pid input known c.in-Gate.service c.in-Gate.next c.call.new.cpu new _ _ _ _ _ _ v c.args.cpu.now c.in-Ok-Asked.field-0
    (called.Asked c.in-Ok-Asked.arguments c.in-Ok-Asked.next) c.in-Ok-Asked.field-0-is does in
    let gate = gate_boundless f v w c.args.cpu.now c.step_cached.new.cpu c.in-Gate.service c.in-Gate.next (c.in-Gate.ensures.boundless f bound) in
    record {
      effect = effect_by b (Err (stop.Gate c.in-Gate.service c.in-Gate.next)) gate ∙ ap (λ (e : Effect). single_stepped b e) asks.effect;
      called = record {
        service = c.in-Gate.service;
        from = c.in-Gate.next;
        gate = gate;
        asks = asks.effect;
        points = points_from c.args.pid input known f c.in-Gate.service c.in-Ok-Asked.arguments (state c.step_cached.new.cpu w) (state c.args.cpu.now v) step.1
            (asked_of _ c.in-Ok-Asked.field-0 c.in-Ok-Asked.arguments c.in-Ok-Asked.next c.in-Ok-Asked.field-0-is c.in-Ok-Asked.ensures.points f input known bound_then);
      };
      still = still_of f c.call.new.cpu c.args.cpu.now v new _ _ _ _ _ _ asks.untouched;
    }

pub returns-in-Ok-Asked-clause-leaves : goal.returns-in-Ok-Asked-clause-leaves
returns-in-Ok-Asked-clause-leaves g c = λ f input known bound left same. returns-in-Ok-Asked-clause-leaves_as g c None tt f input known bound left same

pub returns-in-Ok-Asked-clause-frame : goal.returns-in-Ok-Asked-clause-frame
returns-in-Ok-Asked-clause-frame g c =
    frame_then (g.B.Bus.view c.args.bus.now) (g.B.Bus.view c.step_cached.new.bus) (g.B.Bus.view c.call.new.bus) c.step_cached.ensures.frame
    (frame_by (g.B.Bus.view c.step_cached.new.bus) (g.B.Bus.view c.call.new.bus) c.call.ensures.frame)

pub returns-in-Ok-Asked-clause-writes : goal.returns-in-Ok-Asked-clause-writes
returns-in-Ok-Asked-clause-writes g c = λ agrees.
    writes_then (g.B.Bus.view c.args.bus.now) (g.B.Bus.view c.step_cached.new.bus) (g.B.Bus.view c.call.new.bus) c.step_cached.ensures.frame.held
    (writes_data (g.B.Bus.view c.args.bus.now) (g.B.Bus.view c.step_cached.new.bus) c.args.cpu.now agrees c.step_cached.ensures.writes) c.call.ensures.writes

pub returns-in-Ok-Asked-clause-agrees : goal.returns-in-Ok-Asked-clause-agrees
returns-in-Ok-Asked-clause-agrees g c = λ agrees.
    agrees_then c.step_cached.new.cpu c.call.new.cpu (g.B.Bus.view c.step_cached.new.bus) (g.B.Bus.view c.call.new.bus) c.call.ensures.frame c.call.ensures.selectors (c.step_cached.ensures.agrees agrees)

pub returns-in-Ok-Asked-clause-present : goal.returns-in-Ok-Asked-clause-present
returns-in-Ok-Asked-clause-present g c = λ f input known bound never.
    let v : View = g.B.Bus.view c.args.bus.now in
    let w : View = g.B.Bus.view c.step_cached.new.bus in
    let step = c.in-Gate.ensures.step in
    let bound_then : IsBound w = subst (λ (s : Machine). IsBound s.view) (sym step.1) bound in
    call_present f v c.args.cpu.now c.args.pid input known c.in-Gate.service c.in-Gate.next
    (gate_boundless f v w c.args.cpu.now c.step_cached.new.cpu c.in-Gate.service c.in-Gate.next (c.in-Gate.ensures.boundless f bound)) (c.in-Gate.ensures.present f bound refl)
    (told_by c.args.pid input known c.in-Gate.service c.in-Ok-Asked.field-0 (called.Asked c.in-Ok-Asked.arguments c.in-Ok-Asked.next) (state c.step_cached.new.cpu w) (state c.args.cpu.now v)
    c.in-Ok-Asked.field-0-is step.1 (c.in-Ok-Asked.ensures.names input known bound_then) f)

pub returns-in-Ok-Asked-clause-still : goal.returns-in-Ok-Asked-clause-still
returns-in-Ok-Asked-clause-still g c =
    let same = c.in-Gate.ensures.step.1 in
    let did = undone_of _ c.in-Ok-Asked.field-0 c.in-Ok-Asked.arguments c.in-Ok-Asked.next c.in-Ok-Asked.field-0-is c.in-Ok-Asked.ensures.still in
    (did.0 ∙ ap (λ (s : Machine). s.cpu) same, did.1 ∙ ap (λ (s : Machine). s.view) same, did.2, did.3, did.4)

pub returns-in-Ok-Asked-clause-ready : goal.returns-in-Ok-Asked-clause-ready
returns-in-Ok-Asked-clause-ready g c =
    subst (λ (s : Machine). are_ready s.view (targets c.in-Ok-Asked.arguments) ≡ true) c.in-Gate.ensures.step.1
    (asked_of _ c.in-Ok-Asked.field-0 c.in-Ok-Asked.arguments c.in-Ok-Asked.next c.in-Ok-Asked.field-0-is c.in-Ok-Asked.ensures.ready)

pub returns-in-Ok-Asked-clause-puts : goal.returns-in-Ok-Asked-clause-puts
returns-in-Ok-Asked-clause-puts g c = asked_hands _ c.in-Ok-Asked.field-0 c.in-Ok-Asked.ensures.puts _ _ c.in-Ok-Asked.field-0-is

-- A call that waits.
pub returns-in-Ok-Waits-clause-leaves_as : goal.returns-in-Ok-Waits-clause-leaves_as
returns-in-Ok-Waits-clause-leaves_as g c = λ text m f input known bound left same.
    let v : View = g.B.Bus.view c.args.bus.now in
    let w : View = g.B.Bus.view c.step_cached.new.bus in
    let new : View = g.B.Bus.view c.call.new.bus in
    let b = before_call (boundless f v) c.args.pid c.args.cpu.now input known in
    let step = c.in-Gate.ensures.step in
    let bound_then : IsBound w = subst (λ (s : Machine). IsBound s.view) (sym step.1) bound in
    let does = moved f c.args.pid input known c.in-Gate.service c.in-Gate.next c.call.new.cpu new _ _ _ _ _ _ (Ok c.in-Ok-Waits.field-0) (state c.step_cached.new.cpu w) (state c.args.cpu.now v) step.1
    (c.in-Ok-Waits.ensures.does text m f input known bound_then left (record { avail = same.avail })) in
    let t = by_answer f c.args.pid input known c.in-Gate.service c.in-Gate.next c.call.new.cpu new _ _ _ _ _ _ v c.args.cpu.now c.in-Ok-Waits.field-0
    called.Waits c.in-Ok-Waits.field-0-is does in
    let gate = gate_boundless f v w c.args.cpu.now c.step_cached.new.cpu c.in-Gate.service c.in-Gate.next (c.in-Gate.ensures.boundless f bound) in
    waited b _ (effect_by b (Err (stop.Gate c.in-Gate.service c.in-Gate.next)) gate ∙ ap (λ (e : Effect). single_stepped b e) t.effect)
    c.call.new.cpu (whole f v).bytes (whole f new).bytes _ _ _ _ _ _ (λ n. refl) left (still_of f c.call.new.cpu c.args.cpu.now v new _ _ _ _ _ _ t.untouched)

pub returns-in-Ok-Waits-clause-leaves : goal.returns-in-Ok-Waits-clause-leaves
returns-in-Ok-Waits-clause-leaves g c = λ f input known bound left same. returns-in-Ok-Waits-clause-leaves_as g c None tt f input known bound left same

pub returns-in-Ok-Waits-clause-frame : goal.returns-in-Ok-Waits-clause-frame
returns-in-Ok-Waits-clause-frame g c =
    frame_then (g.B.Bus.view c.args.bus.now) (g.B.Bus.view c.step_cached.new.bus) (g.B.Bus.view c.call.new.bus) c.step_cached.ensures.frame
    (frame_by (g.B.Bus.view c.step_cached.new.bus) (g.B.Bus.view c.call.new.bus) c.call.ensures.frame)

pub returns-in-Ok-Waits-clause-writes : goal.returns-in-Ok-Waits-clause-writes
returns-in-Ok-Waits-clause-writes g c = λ agrees.
    writes_then (g.B.Bus.view c.args.bus.now) (g.B.Bus.view c.step_cached.new.bus) (g.B.Bus.view c.call.new.bus) c.step_cached.ensures.frame.held
    (writes_data (g.B.Bus.view c.args.bus.now) (g.B.Bus.view c.step_cached.new.bus) c.args.cpu.now agrees c.step_cached.ensures.writes) c.call.ensures.writes

pub returns-in-Ok-Waits-clause-agrees : goal.returns-in-Ok-Waits-clause-agrees
returns-in-Ok-Waits-clause-agrees g c = λ agrees.
    agrees_then c.step_cached.new.cpu c.call.new.cpu (g.B.Bus.view c.step_cached.new.bus) (g.B.Bus.view c.call.new.bus) c.call.ensures.frame c.call.ensures.selectors (c.step_cached.ensures.agrees agrees)

pub returns-in-Ok-Waits-clause-present : goal.returns-in-Ok-Waits-clause-present
returns-in-Ok-Waits-clause-present g c = λ f input known bound never.
    let v : View = g.B.Bus.view c.args.bus.now in
    let w : View = g.B.Bus.view c.step_cached.new.bus in
    let step = c.in-Gate.ensures.step in
    let bound_then : IsBound w = subst (λ (s : Machine). IsBound s.view) (sym step.1) bound in
    call_present f v c.args.cpu.now c.args.pid input known c.in-Gate.service c.in-Gate.next
    (gate_boundless f v w c.args.cpu.now c.step_cached.new.cpu c.in-Gate.service c.in-Gate.next (c.in-Gate.ensures.boundless f bound)) (c.in-Gate.ensures.present f bound refl)
    (told_by c.args.pid input known c.in-Gate.service c.in-Ok-Waits.field-0 called.Waits (state c.step_cached.new.cpu w) (state c.args.cpu.now v)
    c.in-Ok-Waits.field-0-is step.1 (c.in-Ok-Waits.ensures.names input known bound_then) f)

pub returns-in-Ok-Waits-clause-puts : goal.returns-in-Ok-Waits-clause-puts
returns-in-Ok-Waits-clause-puts g c = waits_hands _ c.in-Ok-Waits.field-0 c.in-Ok-Waits.ensures.puts c.in-Ok-Waits.field-0-is
