use Rattle.std.proofs.Common.{subst}
use Rattle.o2_desc.specs.declared.descriptor.Descriptor.{Descriptor}
use Rattle.o2_isa.specs.View.{SameRoom}
use Rattle.o2_segbus.specs.Words.{room_by}
use Rattle.o2_segbus.proofs.Readings.{room_view}
use Rattle.o2_segbus.proofs.bus.SegBusBus.room.Goals as goal

pub returns : goal.returns
returns c =
    room_view c.room.result c.args.self.now.store.ghost_name c.args.self.now.regions.ghost_name c.args.self.now.store.now
    c.args.self.now.regions.now c.args.self.now.pid c.args.self.now.registers c.args.reg c.args.off c.args.width c.args.self.now.inside
    c.args.self.now.named c.args.self.now.loaded
    (subst (λ (d : Descriptor). SameRoom c.room.result (room_by d c.args.reg c.args.off c.args.width)) c.descriptor_in-descriptor.ensures c.room.ensures)
