use Rattle.std.proofs.Common.{ap, ◌∙◌, length}
use Rattle.o2_segbus.proofs.Readings.{fetch_ready, fetch_is}
use Rattle.o2_segbus.proofs.bus.SegBusBus.fetch.Goals as goal

pub front-requires : goal.front-requires
front-requires c = record {
  inside = fetch_ready c.args.self.now.store.now c.args.self.now.regions.now c.args.self.now.pid
      c.args.self.now.registers c.memory.result.now c.memory.ensures c.args.self.now.inside c.args.self.now.named c.args.self.now.loaded;
}

pub returns-clause-count : goal.returns-clause-count
returns-clause-count c = c.front.ensures.count ∙ ap length (fetch_is c.args.self.now.store.ghost_name c.args.self.now.regions.ghost_name
    c.args.self.now.store.now c.args.self.now.regions.now c.args.self.now.pid c.args.self.now.registers c.args.ip c.memory.result.now
    c.memory.ensures c.args.self.now.inside c.args.self.now.named c.args.self.now.loaded)

pub returns-clause-bytes : goal.returns-clause-bytes
returns-clause-bytes c = c.front.ensures.bytes ∙ fetch_is c.args.self.now.store.ghost_name c.args.self.now.regions.ghost_name
    c.args.self.now.store.now c.args.self.now.regions.now c.args.self.now.pid c.args.self.now.registers c.args.ip c.memory.result.now
    c.memory.ensures c.args.self.now.inside c.args.self.now.named c.args.self.now.loaded
