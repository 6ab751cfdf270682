use Rattle.o2_segbus.specs.Calls.{view_of}
use Rattle.o2_segbus.proofs.Called.{agrees, held_data, leaves, seen_step}
use Rattle.o2_segbus.proofs.step.step_in.Goals as goal

pub returns-clause-same_store : goal.returns-clause-same_store
returns-clause-same_store c = (leaves c.args.bus.now c.step_one.new.bus c.step_one.ensures.frame).same_store

pub returns-clause-same_regions : goal.returns-clause-same_regions
returns-clause-same_regions c = (leaves c.args.bus.now c.step_one.new.bus c.step_one.ensures.frame).same_regions

pub returns-clause-step : goal.returns-clause-step
returns-clause-step c =
    let a = agrees c.args.bus.now c.args.cpu.now c.requires.agrees in
    seen_step c.step_one.result c.args.bus.now c.step_one.new.bus c.args.cpu.now c.step_one.new.cpu c.step_one.ensures.frame a (c.step_one.ensures.agrees a) c.step_one.ensures.step

pub returns-clause-clean : goal.returns-clause-clean
returns-clause-clean c =
    (leaves c.args.bus.now c.step_one.new.bus c.step_one.ensures.frame).clean
    (held_data (view_of c.args.bus.now) (view_of c.step_one.new.bus) c.args.cpu.now (agrees c.args.bus.now c.args.cpu.now c.requires.agrees) c.step_one.ensures.writes)

pub returns-clause-store : goal.returns-clause-store
returns-clause-store c = (leaves c.args.bus.now c.step_one.new.bus c.step_one.ensures.frame).store

pub returns-clause-maps : goal.returns-clause-maps
returns-clause-maps c = (leaves c.args.bus.now c.step_one.new.bus c.step_one.ensures.frame).maps

pub returns-clause-next : goal.returns-clause-next
returns-clause-next c =
    (leaves c.args.bus.now c.step_one.new.bus c.step_one.ensures.frame).next c.step_one.new.cpu
    (c.step_one.ensures.agrees (agrees c.args.bus.now c.args.cpu.now c.requires.agrees))
