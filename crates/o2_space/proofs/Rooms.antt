-- The room of a step, in words of the step of the world.
use Rattle.std.proofs.Common.{◌≡◌, ℕ, ◌≤◌, List, Option, subst}
use Rattle.std.specs.Prelude.{Result, Ok, Err}
use Rattle.o2_isa.specs.declared.cpu.Cpu.{Cpu}
use Rattle.o2_isa.specs.View.{Hold, bound_registers}
use Rattle.o2_store.specs.Shelf.{Shelf}
use Rattle.o2_run.specs.declared.steps.Stop.TheVariants as stop
use Rattle.o2_run.specs.declared.fault.Fault.{Fault}
use Rattle.o2_run.specs.declared.fault.Fault.TheVariants as fault
use Rattle.o2_world.specs.Calls.{Before, Effect}
use Rattle.o2_stepping.specs.Rooms.{all_names, room_in}
use Rattle.o2_stepping.specs.Taken.{OnDone, OnNoStep, OnBegun, OnStep, Takes}
use Rattle.o2_stepping.specs.declared.one_step.Stepped.{Stepped}
use Rattle.o2_stepping.specs.declared.one_step.Stepped.TheVariants as stepped
use Rattle.o2_stepping.proofs.Steps.{at_stop}

-- the registers behind a step that is done are those of its effect, by what the process holds before it, and those of a step that asks
-- for a call are those before it
pub room_by : (s : Shelf) (b : Before) (e : Effect) (held before : ℕ → Option Hold) (cpu : Cpu) (old new : ℕ → List ℕ) (i j c d r u : Option (List ℕ)) (result : Result Stepped Fault)
    → held ≡ before → Takes b e cpu old new i j c d r u result → OnDone result (room_in s (all_names b (bound_registers held cpu)) ≤ s.places.size)
    → OnStep result (λ z. room_in s (all_names b (bound_registers before z)) ≤ s.places.size) e.cpu b.cpu
room_by s b e held before cpu old new i j c d r u (Ok (stepped.Ran ran)) same takes room =
    subst (λ (h : ℕ → Option Hold). room_in s (all_names b (bound_registers h e.cpu)) ≤ s.places.size) same
    (subst (λ (z : Cpu). room_in s (all_names b (bound_registers held z)) ≤ s.places.size) takes.cpu room)
room_by s b e held before cpu old new i j c d r u (Ok (stepped.Asked a next)) same takes room =
    subst (λ (h : ℕ → Option Hold). room_in s (all_names b (bound_registers h b.cpu)) ≤ s.places.size) same
    (subst (λ (z : Cpu). room_in s (all_names b (bound_registers held z)) ≤ s.places.size) takes.still.cpu room)
room_by s b e held before cpu old new i j c d r u (Err f) same takes room = tt

-- where a sink failed in it, or the input, they are those before it
pub room_in_part_by : (s : Shelf) (b : Before) (e : Effect) (held before : ℕ → Option Hold) (cpu : Cpu) (old new : ℕ → List ℕ) (i j c d r u : Option (List ℕ)) (result : Result Stepped Fault)
    → held ≡ before → Takes b e cpu old new i j c d r u result → OnBegun result (room_in s (all_names b (bound_registers held cpu)) ≤ s.places.size)
    → OnBegun result (room_in s (all_names b (bound_registers before b.cpu)) ≤ s.places.size)
room_in_part_by s b e held before cpu old new i j c d r u (Ok ran) same takes room = tt
room_in_part_by s b e held before cpu old new i j c d r u (Err fault.Sink) same takes room =
    subst (λ (h : ℕ → Option Hold). room_in s (all_names b (bound_registers h b.cpu)) ≤ s.places.size) same
    (subst (λ (z : Cpu). room_in s (all_names b (bound_registers held z)) ≤ s.places.size) takes.cpu room)
room_in_part_by s b e held before cpu old new i j c d r u (Err (fault.Stopped stop.Input)) same takes room =
    subst (λ (h : ℕ → Option Hold). room_in s (all_names b (bound_registers h b.cpu)) ≤ s.places.size) same
    (subst (λ (z : Cpu). room_in s (all_names b (bound_registers held z)) ≤ s.places.size) takes.still.cpu room)
room_in_part_by s b e held before cpu old new i j c d r u (Err (fault.Stopped stop.NoRoom)) same takes room = tt
room_in_part_by s b e held before cpu old new i j c d r u (Err (fault.Stopped stop.SwapFull)) same takes room = tt
room_in_part_by s b e held before cpu old new i j c d r u (Err (fault.Stopped stop.SwapFault)) same takes room = tt

-- at a stop
pub on_stop : (P Q : Type 0) (result : Result Stepped Fault) → (P → Q) → OnNoStep result P → OnNoStep result Q
on_stop P Q (Ok ran) f h = tt
on_stop P Q (Err x) f h = at_stop P P P Q Q Q x f f f h
