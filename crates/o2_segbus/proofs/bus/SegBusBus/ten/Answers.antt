use Rattle.std.proofs.Common.{subst, ◌≡◌, ◌<◌, List, ℕ, length}
use Rattle.std.specs.Prelude.{IfNone, IfSome}
use Rattle.o2_bus.specs.declared.ten_bytes.TenBytes.{TenBytes}
use Rattle.o2_bus.specs.Tens.{ten_of}
use Rattle.o2_segbus.proofs.Readings.{fetch_ready, fetch_is}
use Rattle.o2_segbus.proofs.bus.SegBusBus.ten.Goals as goal

pub ten-requires : goal.ten-requires
ten-requires c = record {
  inside = fetch_ready c.args.self.now.store.now c.args.self.now.regions.now c.args.self.now.pid
      c.args.self.now.registers c.memory.result.now c.memory.ensures c.args.self.now.inside c.args.self.now.named c.args.self.now.loaded;
}

pub returns-clause-some : goal.returns-clause-some
returns-clause-some c =
    subst (λ (bs : List ℕ). IfSome c.ten.result (λ (t : TenBytes). ten_of t ≡ bs)) (fetch_is c.args.self.now.store.ghost_name c.args.self.now.regions.ghost_name
    c.args.self.now.store.now c.args.self.now.regions.now c.args.self.now.pid c.args.self.now.registers c.args.ip c.memory.result.now
    c.memory.ensures c.args.self.now.inside c.args.self.now.named c.args.self.now.loaded) c.ten.ensures.some

pub returns-clause-none : goal.returns-clause-none
returns-clause-none c =
    subst (λ (bs : List ℕ). IfNone c.ten.result (length bs < 10)) (fetch_is c.args.self.now.store.ghost_name c.args.self.now.regions.ghost_name
    c.args.self.now.store.now c.args.self.now.regions.now c.args.self.now.pid c.args.self.now.registers c.args.ip c.memory.result.now
    c.memory.ensures c.args.self.now.inside c.args.self.now.named c.args.self.now.loaded) c.ten.ensures.none
