use Rattle.std.proofs.Common.{sym, subst}
use Rattle.o2_segbus.specs.declared.registers.SegmentRegisters.{SegmentRegisters}
use Rattle.o2_segbus.specs.Bus.{AreLoaded}
use Rattle.o2_segbus.proofs.Holds.{opened}
use Rattle.o2_segbus.proofs.seg_bus.SegBus.new.Goals as goal

pub over_registers-requires-clause-loaded : goal.over_registers-requires-clause-loaded
over_registers-requires-clause-loaded c =
    subst (λ (x : SegmentRegisters). AreLoaded c.args.store.now c.args.regions.now c.args.pid x) (sym c.registers_for-registers.ensures)
    (opened c.args.store.now c.args.regions.now c.args.pid c.args.cpu.now c.requires.named c.requires.settled c.requires.bound)
