-- The room of a step is that of the world's next step, where that is a step of the same process.
use Rattle.std.proofs.Common.{◌≡◌, ℕ, ◌≤◌, ◌<◌, List, Option, refl, sym, subst}
use Rattle.std.specs.Prelude.{Result, Ok, Err}
use Rattle.o2_isa.specs.declared.cpu.Cpu.{Cpu}
use Rattle.o2_isa.specs.View.{bound_registers}
use Rattle.o2_run.specs.declared.fault.Fault.{Fault}
use Rattle.o2_run.specs.declared.fault.Fault.TheVariants as fault
use Rattle.o2_run.specs.declared.steps.Stop.TheVariants as stop
use Rattle.o2_segbus.specs.Seen.{hold_in}
use Rattle.o2_store.specs.Loads.{live_load, swap_load}
use Rattle.o2_swapmap.specs.Piles.{all_of}
use Rattle.o2_world.specs.Calls.{Before}
use Rattle.o2_world.specs.Effect.{effect}
use Rattle.o2_world.specs.Run.{before, next_dispatch}
use Rattle.o2_world.specs.World.{Process, Setting, World}
use Rattle.o2_stands.specs.Parts.{Parts}
use Rattle.o2_stepping.specs.Nexts.{IsNext}
use Rattle.o2_stepping.specs.Rooms.{all_names, needed_names, room_in, whole_names}
use Rattle.o2_stepping.specs.Taken.{OnBegun, OnStep, OnSwapStop, Takes}
use Rattle.o2_stepping.specs.declared.one_step.Stepped.{Stepped}
use Rattle.o2_stepping.specs.declared.one_step.Stepped.TheVariants as stepped
use Rattle.o2_stepping.proofs.Keeping.{holds_refl}
use Rattle.o2_stepping.proofs.Reading.{reads_quietly}
use Rattle.o2_stepping.proofs.NextRooms.{fits, fits_in_part, full, lacks}
use Rattle.o2_space.specs.Nexts.{SaysStep}

module _ (p : Parts) (s : Setting) (w : World) (x : Process) (next : IsNext p s w x) (cpu : Cpu) (old new : ℕ → List ℕ) (i j c d r u : Option (List ℕ)) where
  abbrev starts_at : ℕ → Before
  starts_at n = before s w n x

  abbrev Says : Result Stepped Fault → ℕ → Type 0
  Says result n =
      Takes (starts_at n) (effect (starts_at n)) cpu old new i j c d r u result
      → OnStep result (λ z. room_in p.shelf (all_names (starts_at n) (bound_registers (hold_in p.maps n) z)) ≤ p.shelf.places.size) (effect (starts_at n)).cpu (starts_at n).cpu
      → OnBegun result (room_in p.shelf (all_names (starts_at n) (bound_registers (hold_in p.maps n) (starts_at n).cpu)) ≤ p.shelf.places.size)
      → OnSwapStop result (p.shelf.places.size < room_in p.shelf (whole_names p.shelf (needed_names (starts_at n)))) (Unit {0}) (Unit {0})
      → OnSwapStop result (Unit {0}) ((all_of p.shelf.swap < swap_load p.shelf) × (p.shelf.places.size < live_load p.shelf)) (Unit {0})
      → SaysStep p.device s w result

  at_current : (result : Result Stepped Fault) → Says result (next_dispatch s w).current
  at_current (Ok (stepped.Ran ran)) = λ takes done part more stops. fits p s w x next p.maps (effect (starts_at (next_dispatch s w).current)).cpu (holds_refl p.maps) refl takes.changes done
  at_current (Ok (stepped.Asked a following)) = λ takes done part more stops. tt
  at_current (Err fault.Sink) = λ takes done part more stops. fits_in_part p s w x next p.maps x.cpu (holds_refl p.maps) refl takes.selectors takes.changes part
  at_current (Err (fault.Stopped stop.Input)) = λ takes done part more stops. (let q = reads_quietly (starts_at (next_dispatch s w).current) takes.cause in fits_in_part p s w x next p.maps x.cpu (holds_refl p.maps) refl q.selectors q.changes part)
  at_current (Err (fault.Stopped stop.NoRoom)) = λ takes done part more stops. lacks p s w x next more
  at_current (Err (fault.Stopped stop.SwapFull)) = λ takes done part more stops. full p s w next.lawful next.set next.stands next.wordless stops
  at_current (Err (fault.Stopped stop.SwapFault)) = λ takes done part more stops. tt

  pub says_room : (result : Result Stepped Fault) (n : ℕ) → n ≡ (next_dispatch s w).current → Says result n
  says_room result n e = subst (Says result) (sym e) (at_current result)
