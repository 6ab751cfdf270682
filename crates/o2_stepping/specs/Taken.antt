-- What a step in a store came to, by its answer.
use Rattle.std.specs.Prelude.{◌≡◌, ℕ, false, List, Option, Result, Ok, Err}
use Rattle.o2_isa.specs.declared.cpu.Cpu.{Cpu}
use Rattle.o2_world.specs.Calls.{Before, Effect}
use Rattle.o2_run.specs.declared.steps.Stop.TheVariants as stop
use Rattle.o2_run.specs.declared.fault.Fault.{Fault}
use Rattle.o2_run.specs.declared.fault.Fault.TheVariants as fault
use Rattle.o2_run.specs.Faults.{CauseOf}
use Rattle.o2_stepping.specs.Ran.{IsInPart, IsStill, IsUnread, OnAsking, StepFor, StepLeaves}
use Rattle.o2_stepping.specs.declared.one_step.Ran.{Ran}
use Rattle.o2_stepping.specs.declared.one_step.Attempt.{Attempt}
use Rattle.o2_stepping.specs.declared.one_step.Attempt.TheVariants as attempt
use Rattle.o2_stepping.specs.declared.one_step.Stepped.{Stepped}
use Rattle.o2_stepping.specs.declared.one_step.Stepped.TheVariants as stepped
use Rattle.o2_gate.specs.declared.arguments.Arguments.{Arguments}

-- a fault; before a step that lacks room, or whose swap device fails, all is as it was
abbrev pub TakesFault : Before → Effect → Cpu → (old new : ℕ → List ℕ)
    → (left_old left_new console_old console_new report_old report_new : Option (List ℕ)) → Fault → Type 0
TakesFault b e cpu old new i j c d r q fault.Sink = IsInPart e cpu b.cpu old new i j c d r q
TakesFault b e cpu old new i j c d r q (fault.Stopped stop.Input) = IsUnread b cpu old new i j c d r q
TakesFault b e cpu old new i j c d r q (fault.Stopped stop.NoRoom) = IsStill cpu b.cpu old new i j c d r q
TakesFault b e cpu old new i j c d r q (fault.Stopped stop.SwapFull) = IsStill cpu b.cpu old new i j c d r q
TakesFault b e cpu old new i j c d r q (fault.Stopped stop.SwapFault) = IsStill cpu b.cpu old new i j c d r q

-- of a step
abbrev pub Takes : Before → Effect → Cpu → (old new : ℕ → List ℕ)
    → (left_old left_new console_old console_new report_old report_new : Option (List ℕ)) → Result Stepped Fault → Type 0
Takes b e cpu old new i j c d r q (Ok x) = StepLeaves b e cpu old new i j c d r q x
Takes b e cpu old new i j c d r q (Err f) = TakesFault b e cpu old new i j c d r q f

-- of one try of it
abbrev pub Tries : Before → Effect → Cpu → (old new : ℕ → List ℕ)
    → (left_old left_new console_old console_new report_old report_new : Option (List ℕ)) → Result Attempt Fault → Type 0
Tries b e cpu old new i j c d r q (Ok (attempt.Stepped x)) = StepLeaves b e cpu old new i j c d r q x
Tries b e cpu old new i j c d r q (Ok (attempt.Missed s)) = IsStill cpu b.cpu old new i j c d r q
Tries b e cpu old new i j c d r q (Err f) = TakesFault b e cpu old new i j c d r q f

-- where a try is a step that is done, or asks for a call on segments
abbrev pub OnRan : Result Attempt Fault → Type 0 → Type 0
OnRan (Ok (attempt.Stepped x)) P = P
OnRan (Ok (attempt.Missed s)) P = Unit {0}
OnRan (Err f) P = Unit {0}

-- where there is no fault
abbrev pub OnDone : {T : Type 0} → Result T Fault → Type 0 → Type 0
OnDone (Ok x) P = P
OnDone (Err f) P = Unit {0}

-- where there is no fault, with the registers of a step that is done, or of one that asks for a call on segments
abbrev pub OnStep : Result Stepped Fault → (Cpu → Type 0) → (done asked : Cpu) → Type 0
OnStep (Ok (stepped.Ran ran)) P done asked = P done
OnStep (Ok (stepped.Asked a next)) P done asked = P asked
OnStep (Err f) P done asked = Unit {0}

-- where a step asks for a call on segments
abbrev pub OnAsks : Result Stepped Fault → (Arguments → Type 0) → Type 0
OnAsks (Ok x) P = OnAsking x P
OnAsks (Err f) P = Unit {0}

-- what holds at the stops for want of room or of swap blocks, and for the swap device
abbrev pub OnSwapFault : (no_room swap_full swap_fault : Type 0) → Fault → Type 0
OnSwapFault room full device (fault.Stopped stop.NoRoom) = room
OnSwapFault room full device (fault.Stopped stop.SwapFull) = full
OnSwapFault room full device (fault.Stopped stop.SwapFault) = device
OnSwapFault room full device (fault.Stopped stop.Input) = Unit {0}
OnSwapFault room full device fault.Sink = Unit {0}

abbrev pub OnSwapStop : {T : Type 0} → Result T Fault → (no_room swap_full swap_fault : Type 0) → Type 0
OnSwapStop (Ok x) room full device = Unit {0}
OnSwapStop (Err f) room full device = OnSwapFault room full device f

-- what holds where a sink failed in the step, or the input
abbrev pub OnBegunFault : Fault → Type 0 → Type 0
OnBegunFault fault.Sink P = P
OnBegunFault (fault.Stopped stop.Input) P = P
OnBegunFault (fault.Stopped stop.NoRoom) P = Unit {0}
OnBegunFault (fault.Stopped stop.SwapFull) P = Unit {0}
OnBegunFault (fault.Stopped stop.SwapFault) P = Unit {0}

abbrev pub OnBegun : {T : Type 0} → Result T Fault → Type 0 → Type 0
OnBegun (Ok x) P = Unit {0}
OnBegun (Err f) P = OnBegunFault f P

-- what holds at each of these stops
abbrev pub OnNoStep : {T : Type 0} → Result T Fault → Type 0 → Type 0
OnNoStep r P = OnSwapStop r P P P

-- the causes of a fault, and of a last line that isn't put whole; those of the stops for room and swap are told elsewhere
abbrev pub TriedFor : (sink input : Type 0) → Result Attempt Fault → Type 0
TriedFor sink input (Ok (attempt.Stepped x)) = StepFor sink x
TriedFor sink input (Ok (attempt.Missed s)) = Unit {0}
TriedFor sink input (Err f) = CauseOf sink input (Unit {0}) (Unit {0}) f

abbrev pub SteppedFor : (sink input : Type 0) → Result Stepped Fault → Type 0
SteppedFor sink input (Ok x) = StepFor sink x
SteppedFor sink input (Err f) = CauseOf sink input (Unit {0}) (Unit {0}) f

abbrev pub TakenFor : (sink input : Type 0) → Result Ran Fault → Type 0
TakenFor sink input (Ok ran) = ran.whole ≡ false → sink
TakenFor sink input (Err f) = CauseOf sink input (Unit {0}) (Unit {0}) f

abbrev pub OnErr : {T : Type 0} → Result T Fault → (Fault → Type 0) → Type 0
OnErr (Ok x) P = Unit {0}
OnErr (Err f) P = P f

-- it is one of these stops
abbrev pub IsSwapStop : Fault → Type 0
IsSwapStop fault.Sink = ⊥
IsSwapStop (fault.Stopped stop.Input) = ⊥
IsSwapStop (fault.Stopped stop.NoRoom) = Unit {0}
IsSwapStop (fault.Stopped stop.SwapFull) = Unit {0}
IsSwapStop (fault.Stopped stop.SwapFault) = Unit {0}
