use Rattle.std.proofs.Common.{◌≡◌, ◌≤◌, ◌-◌}
use Rattle.o2_isa.specs.View.{bound_registers}
use Rattle.o2_regions.specs.Maps.{IsProcess}
use Rattle.o2_segbus.specs.Bus.{registers_of}
use Rattle.o2_segbus.specs.Seen.{hold_in}
use Rattle.o2_slices.specs.Slices.{AreSteps, seat}
use Rattle.o2_slices.proofs.steps.steps_in.Given as goal

abbrev pub invariant-steps : goal.invariant-steps
invariant-steps l = record {
  steps : AreSteps l.pid l.done (seat l.fn.bus.store.now l.fn.bus.regions.now l.fn.cpu) (seat l.bus.store.now l.bus.regions.now l.cpu);
  within : l.done ≤ l.most;
  same_store : l.bus.store.ghost_name ≡ l.fn.bus.store.ghost_name;
  same_regions : l.bus.regions.ghost_name ≡ l.fn.bus.regions.ghost_name;
  process : IsProcess l.bus.regions.now l.pid;
  holds : hold_in l.bus.regions.now l.bus.pid ≡ hold_in l.bus.regions.now l.pid;
  agrees : registers_of l.bus.regions.now l.bus.pid l.bus.registers ≡ bound_registers (hold_in l.bus.regions.now l.bus.pid) l.cpu;
}

abbrev pub decreases-steps : goal.decreases-steps
decreases-steps l = l.most - l.done
