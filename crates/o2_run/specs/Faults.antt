-- The one error from the services up to the run, and the one definition of its causes.
use Rattle.std.specs.Prelude.{Bool, true, false, Option, Some, None, Result, Ok, Err}
use Rattle.o2_run.specs.declared.steps.Stop.{Stop}
use Rattle.o2_run.specs.declared.steps.Stop.TheVariants as stop
use Rattle.o2_run.specs.declared.steps.Turn.{Turn}
use Rattle.o2_run.specs.declared.steps.Turn.TheVariants as turn
use Rattle.o2_run.specs.declared.fault.Fault.{Fault}
use Rattle.o2_run.specs.declared.fault.Fault.TheVariants as fault

-- what a fault tells of what lies outside: of a sink, of the input, of the room for the next step, and of the swap device
abbrev pub CauseOf : (sink input room device : Type 0) → Fault → Type 0
CauseOf sink input room device fault.Sink = sink
CauseOf sink input room device (fault.Stopped stop.Input) = input
CauseOf sink input room device (fault.Stopped stop.NoRoom) = room
CauseOf sink input room device (fault.Stopped stop.SwapFull) = room
CauseOf sink input room device (fault.Stopped stop.SwapFault) = device

-- of a fault that isn't there nothing is owed
abbrev pub OnFault : (Fault → Type 0) → Option Fault → Type 0
OnFault P None = Unit {0}
OnFault P (Some f) = P f

-- what comes to an error only for these causes; one that is impossible has the cause ⊥
abbrev pub Caused : {T : Type 0} → (sink input room device : Type 0) → Result T Fault → Type 0
Caused sink input room device (Ok x) = Unit {0}
Caused sink input room device (Err f) = CauseOf sink input room device f

-- the stop of an answer, and the answer of a stop
abbrev pub stop_of : Turn → Option Stop
stop_of turn.InputFault = Some stop.Input
stop_of turn.NoRoom = Some stop.NoRoom
stop_of turn.SwapFull = Some stop.SwapFull
stop_of turn.SwapFault = Some stop.SwapFault
stop_of _ = None

abbrev pub turn_of : Stop → Turn
turn_of stop.Input = turn.InputFault
turn_of stop.NoRoom = turn.NoRoom
turn_of stop.SwapFull = turn.SwapFull
turn_of stop.SwapFault = turn.SwapFault

-- the fault of an answer, and the answer of a fault
abbrev pub fault_of : Turn → Option Fault
fault_of turn.SinkFault = Some fault.Sink
fault_of turn.InputFault = Some (fault.Stopped stop.Input)
fault_of turn.NoRoom = Some (fault.Stopped stop.NoRoom)
fault_of turn.SwapFull = Some (fault.Stopped stop.SwapFull)
fault_of turn.SwapFault = Some (fault.Stopped stop.SwapFault)
fault_of _ = None

abbrev pub fault_turn : Fault → Turn
fault_turn fault.Sink = turn.SinkFault
fault_turn (fault.Stopped why) = turn_of why

-- what a run makes of an answer: it goes on, it is over, or it has this fault
abbrev pub went_on : Turn → Result Bool Fault
went_on turn.Ran = Ok true
went_on turn.Discarded = Ok true
went_on turn.AllEnded = Ok false
went_on turn.BudgetSpent = Ok false
went_on turn.SinkFault = Err fault.Sink
went_on turn.InputFault = Err (fault.Stopped stop.Input)
went_on turn.NoRoom = Err (fault.Stopped stop.NoRoom)
went_on turn.SwapFull = Err (fault.Stopped stop.SwapFull)
went_on turn.SwapFault = Err (fault.Stopped stop.SwapFault)
