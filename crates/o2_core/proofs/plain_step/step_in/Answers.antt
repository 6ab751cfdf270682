use Rattle.std.proofs.Common.{ap, ℕ, Bool}
use Rattle.o2_isa.specs.Steps.{state}
use Rattle.o2_bus.specs.Plain.{plain_view}
use Rattle.o2_core.proofs.Plains.{framed, agrees_at, plain_answers, never_missed}
use Rattle.o2_core.proofs.plain_step.step_in.Goals as goal

pub returns-clause-same_reference : goal.returns-clause-same_reference
returns-clause-same_reference c = (framed c.args.bus.now.plain.ghost_name c.step_one.new.bus.plain.ghost_name c.args.bus.now.plain.now c.step_one.new.bus.plain.now c.args.bus.now.pid c.step_one.new.bus.pid c.args.bus.now.holds c.step_one.new.bus.holds c.step_one.ensures.frame).reference

pub returns-clause-step : goal.returns-clause-step
returns-clause-step c =
    let agrees = agrees_at c.args.bus.now.plain.ghost_name c.args.bus.now.plain.now c.args.bus.now.pid c.args.bus.now.holds c.args.cpu.now c.requires.agrees in
    plain_answers c.step_one.result c.args.bus.now.plain.ghost_name c.step_one.new.bus.plain.ghost_name c.args.bus.now.plain.now
    c.step_one.new.bus.plain.now c.args.bus.now.pid c.step_one.new.bus.pid c.args.bus.now.holds c.step_one.new.bus.holds c.args.cpu.now
    c.step_one.new.cpu (framed c.args.bus.now.plain.ghost_name c.step_one.new.bus.plain.ghost_name c.args.bus.now.plain.now
    c.step_one.new.bus.plain.now c.args.bus.now.pid c.step_one.new.bus.pid c.args.bus.now.holds c.step_one.new.bus.holds
    c.step_one.ensures.frame) agrees (c.step_one.ensures.agrees agrees) c.step_one.ensures.step

pub returns-clause-frame : goal.returns-clause-frame
returns-clause-frame c =
    let same = framed c.args.bus.now.plain.ghost_name c.step_one.new.bus.plain.ghost_name c.args.bus.now.plain.now c.step_one.new.bus.plain.now c.args.bus.now.pid c.step_one.new.bus.pid c.args.bus.now.holds c.step_one.new.bus.holds c.step_one.ensures.frame in
    record {
      held = same.maps;
      shown = λ n. ap (λ (m : ℕ → Bool). m n) same.shown;
      sizes = same.sizes;
      count = same.count;
    }

pub returns-clause-never_missed : goal.returns-clause-never_missed
returns-clause-never_missed c = λ all.
    let agrees = agrees_at c.args.bus.now.plain.ghost_name c.args.bus.now.plain.now c.args.bus.now.pid c.args.bus.now.holds c.args.cpu.now c.requires.agrees in
    never_missed c.step_one.result (state c.step_one.new.cpu
    (plain_view c.step_one.new.bus.plain.now c.args.bus.now.pid c.step_one.new.cpu))
    (state c.args.cpu.now (plain_view c.args.bus.now.plain.now c.args.bus.now.pid c.args.cpu.now))
    (plain_answers c.step_one.result c.args.bus.now.plain.ghost_name c.step_one.new.bus.plain.ghost_name c.args.bus.now.plain.now
    c.step_one.new.bus.plain.now c.args.bus.now.pid c.step_one.new.bus.pid c.args.bus.now.holds c.step_one.new.bus.holds c.args.cpu.now
    c.step_one.new.cpu (framed c.args.bus.now.plain.ghost_name c.step_one.new.bus.plain.ghost_name c.args.bus.now.plain.now
    c.step_one.new.bus.plain.now c.args.bus.now.pid c.step_one.new.bus.pid c.args.bus.now.holds c.step_one.new.bus.holds
    c.step_one.ensures.frame) agrees (c.step_one.ensures.agrees agrees) c.step_one.ensures.step) all
