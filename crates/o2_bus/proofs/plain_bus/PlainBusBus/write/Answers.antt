use Rattle.o2_bus.proofs.Writes.{room_of_grant, room_is_writable, grant_within, view_after, no_room_without}
use Rattle.o2_bus.proofs.plain_bus.PlainBusBus.write.Goals as goal

pub put_value-requires-clause-named : goal.put_value-requires-clause-named
put_value-requires-clause-named c = grant_within c.args.self.now.plain.ghost_name c.args.self.now.plain.now c.args.self.now.pid c.args.self.now.holds c.in-Some.grant c.args.reg c.args.off c.args.width c.in-Some.ensures c.requires.room

pub put_value-requires-clause-room : goal.put_value-requires-clause-room
put_value-requires-clause-room c = room_of_grant c.args.self.now.plain.ghost_name c.args.self.now.plain.now c.args.self.now.pid c.args.self.now.holds c.in-Some.grant c.args.reg c.args.off c.args.width c.in-Some.ensures c.requires.room

pub returns-in-Some : goal.returns-in-Some
returns-in-Some c =
    view_after c.args.self.now.plain.ghost_name c.args.self.now.plain.now c.put_value.new.self c.args.self.now.pid c.args.self.now.holds c.in-Some.grant c.args.reg c.args.off c.args.width c.args.value c.in-Some.ensures
    (room_is_writable c.args.self.now.plain.ghost_name c.args.self.now.plain.now c.args.self.now.pid c.args.self.now.holds c.in-Some.grant c.args.reg c.args.off c.args.width c.in-Some.ensures c.requires.room)
    c.put_value.ensures.maps c.put_value.ensures.bytes

pub returns-in-None : goal.returns-in-None
returns-in-None c = absurd (no_room_without c.args.self.now.plain.ghost_name c.args.self.now.plain.now c.args.self.now.pid c.args.self.now.holds c.args.reg c.args.off c.args.width c.in-None.ensures c.requires.room)
