-- What a call over a bus leaves of the store and of the tables that the bus borrows.
use Rattle.std.specs.Prelude.{◌≡◌}
use Rattle.o2_isa.specs.declared.cpu.Cpu.{Cpu}
use Rattle.o2_isa.specs.View.{View, Agrees}
use Rattle.o2_bus.specs.Writes.{WritesHeld}
use Rattle.o2_segbus.specs.declared.seg_bus.SegBus.{SegBus}
use Rattle.o2_segbus.specs.Seen.{hold_in}
use Rattle.o2_segbus.specs.Bus.{bus_view}
use Rattle.o2_segbus.specs.Frames.{CanStep, KeepsClean, KeepsMaps, KeepsStore}

-- what a bus shows
abbrev pub view_of : SegBus → View
view_of b = bus_view b.store.ghost_name b.regions.ghost_name b.store.now b.regions.now b.pid b.registers

-- A call that keeps the frame of the view has the same store and the same tables behind it; the store changed in bytes of the
-- memory alone, the tables in accessed bits. Where only data that the process holds so was written, clean segments are as they
-- were; and a processor with which the bus agrees may take its next step.
pub record LeavesBus (a b : SegBus) : Type 0 where
  pub same_store : b.store.ghost_name ≡ a.store.ghost_name
  pub same_regions : b.regions.ghost_name ≡ a.regions.ghost_name
  pub process : hold_in b.regions.now b.pid ≡ hold_in b.regions.now a.pid
  pub store : KeepsStore a.store.now b.store.now
  pub maps : KeepsMaps a.regions.now b.regions.now
  pub clean : WritesHeld (view_of a) (view_of b) → KeepsClean a.store.now a.regions.now b.store.now
  pub next : (c : Cpu) → Agrees c (view_of b) → CanStep b.store.now b.regions.now a.pid c
