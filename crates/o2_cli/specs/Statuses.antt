-- The status of each answer below the top call.
use Rattle.std.specs.Prelude.{Result, Ok, Err}
use Rattle.o2_dumping.specs.declared.parts.Wrote.{Wrote}
use Rattle.o2_dumping.specs.declared.parts.Wrote.TheVariants as wrote
use Rattle.o2_open.specs.declared.fault.OpenFault.{OpenFault}
use Rattle.o2_open.specs.declared.fault.OpenFault.TheVariants as open_fault
use Rattle.o2_run.specs.declared.fault.Fault.{Fault}
use Rattle.o2_run.specs.declared.fault.Fault.TheVariants.{Sink, Stopped}
use Rattle.o2_run.specs.declared.steps.Stop.TheVariants.{Input, NoRoom, SwapFull, SwapFault}
use Rattle.o2_cli.specs.declared.status.Status.{Status}
use Rattle.o2_cli.specs.declared.status.Status.TheVariants as status

-- where nothing opens
abbrev pub status_by : OpenFault → Status
status_by (open_fault.NoFile name) = status.NoFile name
status_by (open_fault.BadMachine fault) = status.BadMachine fault
status_by (open_fault.BadModule name fault) = status.BadModule name fault
status_by open_fault.FileFault = status.FileFault
status_by open_fault.NoMemory = status.NoMemory

-- where the image of a dump was put: this one, where it was put whole
abbrev pub status_of_image : Wrote → Status → Status
status_of_image wrote.Done whole = whole
status_of_image wrote.SinkFault whole = status.SinkFault
status_of_image wrote.SwapFault whole = status.SwapFault

-- where a run isn't done
abbrev pub status_of : Fault → Status
status_of Sink = status.SinkFault
status_of (Stopped Input) = status.InputFault
status_of (Stopped NoRoom) = status.NoRoom
status_of (Stopped SwapFull) = status.SwapFull
status_of (Stopped SwapFault) = status.SwapFault

-- a run by itself
abbrev pub status_of_run : Result (Unit {0}) Fault → Status
status_of_run (Ok x) = status.Fine
status_of_run (Err f) = status_of f
