-- Where all that lives fits the memory at each step of a run.
use Rattle.std.proofs.Common.{inl, ◌≡◌, ℕ, List, Option, ap, subst, sym, ◌∙◌}
use Rattle.std.specs.Prelude.{Ok, Some, String}
use Rattle.std.specs.declared.alloc.Global.{Global}
use Rattle.o2_words.specs.declared.words.Verb.{Verb}
use Rattle.o2_words.specs.Words.{IsCommandFor}
use Rattle.o2_world.specs.Run.{after}
use Rattle.o2_world.specs.Starts.{Built}
use Rattle.o2_outer.specs.Texts.{Rose}
use Rattle.o2_run.specs.Ended.{AllFitRun}
use Rattle.o2_run.specs.Pieces.{Counts}
use Rattle.o2_run.specs.declared.steps.Stop.TheVariants.{NoRoom, SwapFull}
use Rattle.o2_machine.specs.Begins.{first_world, setting_of, starting}
use Rattle.o2_open.specs.declared.session.Session.{Session}
use Rattle.o2_open.specs.declared.fault.OpenFault.{OpenFault}
use Rattle.o2_open.specs.declared.fault.OpenFault.TheVariants as open_fault
use Rattle.o2_open.specs.Loads.{Contents, loaded}
use Rattle.o2_cli.specs.declared.status.Status.{Status}
use Rattle.o2_cli.specs.declared.status.Status.TheVariants as status
use Rattle.o2_cli.specs.Done.{AllFit, IsUnswapped}
use Rattle.o2_cli.specs.Opening.{StartsWith}
use Rattle.o2_cli.specs.Statuses.{status_by}
use Rattle.o2_cli.specs.Top.{IsCheck, OnSwapFault, Opened, Opens, Possible, Shows, opened, started}
use Rattle.o2_cli.proofs.Checked.{name_is, verb_is}
use Rattle.o2_cli.proofs.Completed.{no_full_swap, no_stop_for_room, same_start, stopped_at, unstopped}
use Rattle.o2_cli.proofs.Runs.{has_started, load_started, start_of}

-- what a session starts with is what its machine began with
pub fits_from : (s : Session) (input : List ℕ) (b : Built) → starting s.linked s.conf ≡ Ok b → StartsWith s input AllFit → AllFitRun (setting_of s.conf) (first_world s.linked s.conf input b)
fits_from s input b starts all = subst AllFit (same_start (started s input) all.start (start_of s input b) all.starts (has_started s input b starts)) all.runs

-- what a command opens its session starts
pub starts_from : (words : List (String Global)) (contents : Contents) (verb : Verb) (name : List ℕ) (s : Session) → IsCommandFor words verb name → loaded verb contents name ≡ Ok s
    → (input : List ℕ) (P : Opened → Type 0) → Opens words contents input (λ v. P) → StartsWith s input P
starts_from words contents verb name s command loads input P o =
    let is : opened verb contents name input ≡ Ok o.start =
    subst (λ (v : Verb). opened v contents name input ≡ Ok o.start) (verb_is words o.verb verb o.name name o.command command)
    (subst (λ (n : List ℕ). opened o.verb contents n input ≡ Ok o.start) (name_is words o.verb verb o.name name o.command command) o.opens) in
    record { start = o.start; starts = sym (ap (load_started input) loads) ∙ is; runs = o.runs }

-- the status of such a run, where the count of the device's faults is as it was
module _ (words : List (String Global)) (may : Possible) (blocks : ℕ) (i j c d r q : Option (List ℕ)) (e : Type 0) (n : Counts) (before now : ℕ) (same : now ≡ before)
    (runs : IsCheck words → ⊥) (contents : Contents) (text : List ℕ) (is : may contents) (left : i ≡ Some text) (o : Opens words contents text (λ verb. AllFit)) where
  pub ample_status : (answer : Status) → Shows words may blocks i j c d r q e n answer → OnSwapFault answer (Rose before now) → IsUnswapped (Rose before before) answer
  ample_status status.NoRoom shows fault =
      unstopped words may contents is text _ _ (shows runs contents text is left) o
      (λ verb start stops fits. let at = stopped_at verb blocks start NoRoom tt j c d r q e n stops in no_stop_for_room blocks start.setting (after start.setting start.world at.0) (inl (fits at.0 at.1)) at.2)
  ample_status status.SwapFull shows fault =
      unstopped words may contents is text _ _ (shows runs contents text is left) o
      (λ verb start stops fits. let at = stopped_at verb blocks start SwapFull tt j c d r q e n stops in no_full_swap blocks start.setting (after start.setting start.world at.0) (inl (fits at.0 at.1)) at.2)
  ample_status status.SwapFault shows fault = subst (λ (k : ℕ). Rose before k) same fault
  ample_status status.Fine shows fault = tt
  ample_status status.BadWords shows fault = tt
  ample_status (status.NoFile name) shows fault = tt
  ample_status (status.BadMachine f) shows fault = tt
  ample_status (status.BadModule name f) shows fault = tt
  ample_status status.FileFault shows fault = tt
  ample_status status.InputFault shows fault = tt
  ample_status status.SinkFault shows fault = tt
  ample_status status.NoMemory shows fault = tt

-- what doesn't open has no such status
unswapped_by : (P : Type 0) (f : OpenFault) → IsUnswapped P (status_by f)
unswapped_by P (open_fault.NoFile n) = tt
unswapped_by P (open_fault.BadMachine f) = tt
unswapped_by P (open_fault.BadModule n f) = tt
unswapped_by P open_fault.FileFault = tt
unswapped_by P open_fault.NoMemory = tt

pub unswapped_open : (P : Type 0) (f : OpenFault) (answer : Status) → answer ≡ status_by f → IsUnswapped P answer
unswapped_open P f answer is = subst (λ (a : Status). IsUnswapped P a) (sym is) (unswapped_by P f)
