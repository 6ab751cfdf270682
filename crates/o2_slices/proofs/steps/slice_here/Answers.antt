use Rattle.std.proofs.Common.{sym, subst}
use Rattle.o2_segbus.specs.Bus.{AreLoaded}
use Rattle.o2_segbus.specs.declared.registers.SegmentRegisters.{SegmentRegisters}
use Rattle.o2_segbus.proofs.Holds.{opened}
use Rattle.o2_slices.proofs.steps.slice_here.Goals as goal

pub over_registers-bus-requires-clause-loaded : goal.over_registers-bus-requires-clause-loaded
over_registers-bus-requires-clause-loaded c =
    let r = c.requires.ready in
    subst (λ (x : SegmentRegisters). AreLoaded c.args.store.now c.args.regions.now c.args.pid x) (sym c.requires.registers)
    (opened c.args.store.now c.args.regions.now c.args.pid c.args.cpu.now r.named r.settled r.bound)
