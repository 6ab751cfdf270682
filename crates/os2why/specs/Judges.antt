-- What os2why says of a command: that it opens, or its first refusal.
use Rattle.std.specs.Prelude.{◌≡◌, ◌==◌, ℕ, Bool, false, Option, Some, None, Result, Ok, Err}
use Rattle.o2_base.specs.declared.faults.ModuleFault.{ModuleFault}
use Rattle.o2_dynlink.specs.declared.fault.LinkFault.{LinkFault}
use Rattle.o2_dynlink.specs.Outcome.{LinkedParts}
use Rattle.o2_conf.specs.declared.conf.Conf.{Conf}
use Rattle.o2_open.specs.declared.fault.OpenFault.{OpenFault}
use Rattle.o2_open.specs.declared.session.Session.{Session}
use Rattle.o2_open.specs.Loads.{Fails}
use Rattle.o2_machine.specs.declared.fault.BeginFault.{BeginFault}
use Rattle.o2_machine.specs.declared.fault.BeginFault.TheVariants as begin_fault
use Rattle.o2_cli.specs.Top.{Opened}

-- nothing is told where it opens, and else the refusal; want of memory and a fault of the files say nothing of it
abbrev pub Judges : Option OpenFault → Result Opened OpenFault → Type 0
Judges None read = (o : Opened) × (read ≡ Ok o)
Judges (Some fault) read = Fails fault read

-- whether linking is refused since a process asks for a module that isn't listed
abbrev pub asks : Result LinkedParts LinkFault → Bool
asks (Ok linked) = false
asks (Err refusal) = refusal.file == 0

-- all processes start, or the first of them that doesn't is told with why; want of memory says nothing of them
abbrev pub Starts : {X : Type 0} → Result X (ℕ × ModuleFault) → Result (Unit {0}) BeginFault → Type 0
Starts {X} starts (Ok done) = (x : X) × (starts ≡ Ok x)
Starts starts (Err (begin_fault.Start pid fault)) = starts ≡ Err (pid, fault)
Starts starts (Err begin_fault.SinkFault) = Unit {0}
Starts starts (Err begin_fault.NoMemory) = Unit {0}

-- a session of this setting, with what is linked for it
abbrev pub session_of : Conf → LinkedParts → Session
session_of conf linked = record { conf = conf; linked = linked }
