use Rattle.std.proofs.Common.{ap, ◌∙◌, ◌+◌, length}
use Rattle.o2_phys.proofs.Parts.{length-part}
use Rattle.o2_isa.specs.View.{is_readable}
use Rattle.o2_segbus.proofs.Ranging.{range_inside, range_is}
use Rattle.o2_segbus.proofs.ranges.SegBusRanges.range.Goals as goal

pub range-requires : goal.range-requires
range-requires c =
    let b = c.args.self.now in
    record {
      inside = range_inside b.store.ghost_name b.regions.ghost_name b.store.now b.regions.now b.pid c.args.sel.0 b.registers
          c.loaded-descriptor.result is_readable c.memory.result.now c.args.offset c.args.count c.loaded-descriptor.ensures c.memory.ensures
          b.inside b.named b.settled c.requires.some c.requires.ready;
    }

pub returns-clause-value : goal.returns-clause-value
returns-clause-value c =
    let b = c.args.self.now in
    c.range.ensures
    ∙ range_is b.store.ghost_name b.regions.ghost_name b.store.now b.regions.now b.pid c.args.sel.0 b.registers c.loaded-descriptor.result
    is_readable c.memory.result.now c.args.offset c.args.count c.loaded-descriptor.ensures c.memory.ensures b.inside b.named b.settled
    c.requires.some c.requires.ready

pub returns-clause-len : goal.returns-clause-len
returns-clause-len c =
    let b = c.args.self.now in
    ap length c.range.ensures
    ∙ length-part c.memory.result.now (c.loaded-descriptor.result.base + c.args.offset) c.args.count
    (range_inside b.store.ghost_name b.regions.ghost_name b.store.now b.regions.now b.pid c.args.sel.0 b.registers c.loaded-descriptor.result
    is_readable c.memory.result.now c.args.offset c.args.count c.loaded-descriptor.ensures c.memory.ensures b.inside b.named b.settled
    c.requires.some c.requires.ready)
