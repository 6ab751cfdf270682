-- What the answer of a step says of the room and the loads of the world's next step.
use Rattle.std.specs.Prelude.{ℕ, ◌<◌, true, Result, Ok, Err}
use Rattle.o2_run.specs.declared.steps.Stop.TheVariants as stop
use Rattle.o2_run.specs.declared.fault.Fault.{Fault}
use Rattle.o2_run.specs.declared.fault.Fault.TheVariants as fault
use Rattle.o2_run.specs.Room.{Fits, room}
use Rattle.o2_run.specs.Stops.{IsSwapFull}
use Rattle.o2_stepping.specs.declared.one_step.Ran.{Ran}
use Rattle.o2_stepping.specs.declared.one_step.Stepped.{Stepped}
use Rattle.o2_stepping.specs.declared.one_step.Stepped.TheVariants as stepped
use Rattle.o2_world.specs.World.{Setting, World}

abbrev pub FaultSays : (device : ℕ) → Setting → World → Fault → Type 0
FaultSays device s w fault.Sink = Fits true s w
FaultSays device s w (fault.Stopped stop.Input) = Fits true s w
FaultSays device s w (fault.Stopped stop.NoRoom) = s.memory < room s w
FaultSays device s w (fault.Stopped stop.SwapFull) = IsSwapFull device s w
FaultSays device s w (fault.Stopped stop.SwapFault) = Unit {0}

-- it fits where it is taken, or begun, as it is where a sink or the input fails in it; what lacks at a stop for want of room or of swap lacks in the world
abbrev pub SaysRoom : (device : ℕ) → Setting → World → Result Ran Fault → Type 0
SaysRoom device s w (Ok ran) = Fits true s w
SaysRoom device s w (Err f) = FaultSays device s w f

-- the same before a call on segments that is asked for is made, of which nothing is said yet
abbrev pub SaysStep : (device : ℕ) → Setting → World → Result Stepped Fault → Type 0
SaysStep device s w (Ok (stepped.Ran ran)) = Fits true s w
SaysStep device s w (Ok (stepped.Asked a next)) = Unit {0}
SaysStep device s w (Err f) = FaultSays device s w f
