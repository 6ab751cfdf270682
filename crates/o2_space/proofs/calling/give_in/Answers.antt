use Rattle.std.proofs.Common.{refl}
use Rattle.o2_segbus.specs.Calls.{view_of}
use Rattle.o2_segbus.proofs.Called.{agrees, leaves}
use Rattle.o2_gate.specs.Targets.{targets}
use Rattle.o2_gate.proofs.Writing.{agrees_then}
use Rattle.o2_stepping.proofs.Buses.{aimed_on, filling, given_there}
use Rattle.o2_stepping.proofs.Gates.{frame_by}
use Rattle.o2_space.specs.Calls.{no_registers}
use Rattle.o2_space.proofs.calling.give_in.Goals as goal

pub give_value-requires-clause-ready : goal.give_value-requires-clause-ready
give_value-requires-clause-ready c = aimed_on c.args.bus.now no_registers (targets c.args.arguments) c.requires.ready

pub returns-clause-same_store : goal.returns-clause-same_store
returns-clause-same_store c = (leaves c.args.bus.now c.give_value.new.bus (frame_by _ _ c.give_value.ensures.frame)).same_store

pub returns-clause-same_regions : goal.returns-clause-same_regions
returns-clause-same_regions c = (leaves c.args.bus.now c.give_value.new.bus (frame_by _ _ c.give_value.ensures.frame)).same_regions

pub returns-clause-bytes : goal.returns-clause-bytes
returns-clause-bytes c = λ away n.
    given_there away c.args.bus.now c.give_value.new.bus c.args.arguments c.args.answer.now.error c.args.answer.now.value n (c.give_value.ensures.bytes (filling away) n)

pub returns-clause-store : goal.returns-clause-store
returns-clause-store c = (leaves c.args.bus.now c.give_value.new.bus (frame_by _ _ c.give_value.ensures.frame)).store

pub returns-clause-maps : goal.returns-clause-maps
returns-clause-maps c = (leaves c.args.bus.now c.give_value.new.bus (frame_by _ _ c.give_value.ensures.frame)).maps

pub returns-clause-clean : goal.returns-clause-clean
returns-clause-clean c =
    (leaves c.args.bus.now c.give_value.new.bus (frame_by _ _ c.give_value.ensures.frame)).clean
    c.give_value.ensures.writes

pub returns-clause-next : goal.returns-clause-next
returns-clause-next c =
    (leaves c.args.bus.now c.give_value.new.bus (frame_by _ _ c.give_value.ensures.frame)).next no_registers
    (agrees_then no_registers no_registers (view_of c.args.bus.now) (view_of c.give_value.new.bus) c.give_value.ensures.frame (record { es = refl; cs = refl; ss = refl; ds = refl })
    (agrees c.args.bus.now no_registers c.requires.agrees))
