-- Refusals of the opening and of the starts.
use Rattle.std.proofs.Common.{◌≡◌, ◌∙◌, ap, sym, subst, refl, ℕ, List}
use Rattle.std.specs.Prelude.{Option, Some, None, Result, Ok, Err}
use Rattle.o2_open.specs.declared.fault.OpenFault.{OpenFault}
use Rattle.o2_open.specs.declared.fault.OpenFault.TheVariants as open_fault
use Rattle.o2_open.specs.declared.session.Session.{Session}
use Rattle.o2_open.specs.Loads.{Tells, Fails, ◌>>=◌}
use Rattle.o2_conf.specs.declared.conf.Conf.{Conf}
use Rattle.o2_dynlink.specs.Outcome.{LinkedParts}
use Rattle.o2_machine.specs.declared.fault.BeginFault.{BeginFault}
use Rattle.o2_machine.specs.declared.fault.BeginFault.TheVariants as begin_fault
use Rattle.o2_machine.specs.Begins.{Begins, starting}
use Rattle.o2_cli.specs.Top.{Opened, started}
use Rattle.os2why.specs.Judges.{Judges, Starts}

pub told : (answer wanted : OpenFault) (read : Result Opened OpenFault) → Tells answer wanted → read ≡ Err wanted → Fails answer read
told open_fault.NoMemory wanted read t e = tt
told open_fault.FileFault wanted read t e = tt
told (open_fault.NoFile name) wanted read t e = e ∙ ap Err (sym t)
told (open_fault.BadMachine fault) wanted read t e = e ∙ ap Err (sym t)
told (open_fault.BadModule name fault) wanted read t e = e ∙ ap Err (sym t)

pub refused : (fault : OpenFault) (read : Result Session OpenFault) (input : List ℕ) → Fails fault read → Fails fault (read >>= (λ s. started s input))
refused open_fault.NoMemory read input h = tt
refused open_fault.FileFault read input h = tt
refused (open_fault.NoFile name) read input h = ap (λ (r : Result Session OpenFault). r >>= (λ s. started s input)) h
refused (open_fault.BadMachine fault) read input h = ap (λ (r : Result Session OpenFault). r >>= (λ s. started s input)) h
refused (open_fault.BadModule name fault) read input h = ap (λ (r : Result Session OpenFault). r >>= (λ s. started s input)) h

pub judged : (answer : Option OpenFault) (read : Result Session OpenFault) (s : Session) (input : List ℕ) → read ≡ Ok s → Judges answer (started s input) → Judges answer (read >>= (λ s. started s input))
judged answer read s input e h = subst (λ (r : Result Session OpenFault). Judges answer (r >>= (λ s. started s input))) (sym e) h

-- what a machine that doesn't begin says of the starts
pub unbegun : (l : LinkedParts) (c : Conf) (r q : Option (List ℕ)) (f : BeginFault) → Begins l c 0 r q (Err f) → Starts (starting l c) (Err f)
unbegun l c r q (begin_fault.Start pid fault) b = b.0
unbegun l c r q begin_fault.SinkFault b = tt
unbegun l c r q begin_fault.NoMemory b = tt
