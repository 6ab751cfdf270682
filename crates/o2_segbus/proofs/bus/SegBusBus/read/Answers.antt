use Rattle.std.proofs.Common.{◌∙◌}
use Rattle.o2_segbus.proofs.Readings.{read_ready, read_is}
use Rattle.o2_segbus.proofs.bus.SegBusBus.read.Goals as goal

pub read-requires : goal.read-requires
read-requires c = record {
  inside = read_ready c.args.self.now.store.now c.args.self.now.regions.now c.args.self.now.pid
      c.args.self.now.registers c.args.reg c.descriptor_in-descriptor.result.now c.memory.result.now c.descriptor_in-descriptor.ensures
      c.memory.ensures c.args.self.now.inside c.args.self.now.named c.args.self.now.loaded;
}

pub returns-clause-value : goal.returns-clause-value
returns-clause-value c =
    c.read.ensures.value
    ∙ read_is c.args.self.now.store.ghost_name c.args.self.now.regions.ghost_name c.args.self.now.store.now c.args.self.now.regions.now
    c.args.self.now.pid c.args.self.now.registers c.args.reg c.args.off c.args.width c.descriptor_in-descriptor.result.now
    c.memory.result.now c.descriptor_in-descriptor.ensures c.memory.ensures c.args.self.now.inside c.args.self.now.named
    c.args.self.now.loaded
