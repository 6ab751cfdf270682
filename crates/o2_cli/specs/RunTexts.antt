-- What the run of a session comes to.
use Rattle.std.specs.Prelude.{◌≡◌, ℕ, List, Option, Some, Err}
use Rattle.o2_words.specs.declared.words.Verb.{Verb}
use Rattle.o2_run.specs.Pieces.{Counts, FailsInLine}
use Rattle.o2_run.specs.declared.steps.Stop.{Stop}
use Rattle.o2_run.specs.declared.steps.Stop.TheVariants.{Input, NoRoom, SwapFull, SwapFault}
use Rattle.o2_machine.specs.Begins.{HasBegunInPart}
use Rattle.o2_open.specs.declared.session.Session.{Session}
use Rattle.o2_cli.specs.declared.status.Status.{Status}
use Rattle.o2_cli.specs.declared.status.Status.TheVariants as status
use Rattle.o2_open.specs.declared.fault.OpenFault.TheVariants.{BadModule}
use Rattle.o2_cli.specs.Ends.{HasEnd, HasPart, HasStop}
use Rattle.o2_cli.specs.Opening.{StartsWith}
use Rattle.o2_cli.specs.Top.{started, IsUntouched}

-- its run is stopped so, before a step
abbrev pub StopsRun : Verb → Session → (blocks : ℕ)
    → (left_old left_new console_old console_new report_old report_new : Option (List ℕ)) → (fault : Type 0) → (puts : Counts) → Stop → Type 0
StopsRun verb s blocks i j c d r q e n why = (input : List ℕ) → i ≡ Some input → StartsWith s input (λ o. HasStop verb blocks o why j c d r q e n)

-- what its run shows as this command, by the status, where the device has so many blocks
abbrev pub ShowsRun : Verb → Session → (blocks : ℕ)
    → (left_old left_new console_old console_new report_old report_new : Option (List ℕ)) → (fault : Type 0) → (puts : Counts) → Status → Type 0
ShowsRun verb s blocks i j c d r q e n status.Fine = (input : List ℕ) → i ≡ Some input → StartsWith s input (λ o. HasEnd verb blocks o j c d r q n)
ShowsRun verb s blocks i j c d r q e n status.SinkFault = (input : List ℕ) → i ≡ Some input → StartsWith s input (λ o. HasPart verb blocks o j c d r q e n)
ShowsRun verb s blocks i j c d r q e n status.InputFault = StopsRun verb s blocks i j c d r q e n Input
ShowsRun verb s blocks i j c d r q e n status.NoRoom = StopsRun verb s blocks i j c d r q e n NoRoom
ShowsRun verb s blocks i j c d r q e n status.SwapFull = StopsRun verb s blocks i j c d r q e n SwapFull
ShowsRun verb s blocks i j c d r q e n status.SwapFault = StopsRun verb s blocks i j c d r q e n SwapFault
ShowsRun verb s blocks i j c d r q e n status.NoMemory = IsUntouched i j c d r q
ShowsRun verb s blocks i j c d r q e n (status.BadModule name fault) = IsUntouched i j c d r q
ShowsRun verb s blocks i j c d r q e n _ = ⊥

-- where it has no first step: of the starts' lines those in front of the one that failed were put whole, and none behind it, or nothing was
abbrev pub FailsToBegin : Session → (report_old report_new : Option (List ℕ)) → (before now : ℕ) → Status → Type 0
FailsToBegin s r q before now status.SinkFault = (part : HasBegunInPart s.linked s.conf r q) × FailsInLine part.built.lines r q before now
FailsToBegin s r q before now status.NoMemory = q ≡ r
FailsToBegin s r q before now (status.BadModule name fault) = q ≡ r
FailsToBegin s r q before now _ = ⊥

-- what a run refuses: the start of a process, and nothing else
abbrev pub RefusesRun : Session → Status → Type 0
RefusesRun s (status.BadModule name fault) = (input : List ℕ) → started s input ≡ Err (BadModule name fault)
RefusesRun s status.BadWords = ⊥
RefusesRun s (status.NoFile name) = ⊥
RefusesRun s (status.BadMachine fault) = ⊥
RefusesRun s status.FileFault = ⊥
RefusesRun s _ = Unit {0}
