-- Who reaches what in the worlds of a session is told by the report.
use Rattle.std.proofs.Common.{◌≡◌, ℕ, List, ap, sym, ◌∙◌, refl, subst}
use Rattle.std.specs.Prelude.{Result, Ok, Err, String}
use Rattle.std.specs.declared.alloc.Global.{Global}
use Rattle.o2_base.specs.declared.faults.ModuleFault.{ModuleFault}
use Rattle.o2_conf.specs.Limits.{IsWithinLimits}
use Rattle.o2_machine.proofs.FirstStands.{first_sound, first_told}
use Rattle.o2_machine.proofs.Reaching.{reaches_by_lines}
use Rattle.o2_machine.specs.Begins.{opening, setting_of}
use Rattle.o2_machine.specs.Reaches.{ReachesByLines}
use Rattle.o2_open.specs.Loads.{Contents, IsLinked, loaded, under, ◌>>=◌}
use Rattle.o2_open.specs.declared.fault.OpenFault.{OpenFault}
use Rattle.o2_open.specs.declared.fault.OpenFault.TheVariants as open_fault
use Rattle.o2_open.specs.declared.session.Session.{Session}
use Rattle.o2_words.specs.declared.words.Verb.{Verb}
use Rattle.o2_words.specs.Words.{IsCommandFor}
use Rattle.o2_world.specs.World.{World}
use Rattle.o2_cli.specs.declared.status.Status.{Status}
use Rattle.o2_cli.specs.declared.status.Status.TheVariants as status
use Rattle.o2_cli.specs.Opening.{Opened, opened, refusal, started, with_setting}
use Rattle.o2_cli.specs.Reaches.{CommandReaches, OnOpened, Reaches}
use Rattle.o2_cli.specs.Statuses.{status_by}
use Rattle.o2_cli.specs.Top.{Possible}

module _ (s : Session) (within : IsWithinLimits s.conf) (linked : IsLinked s.conf s.linked) where
  session_reaches : (input : List ℕ) (start : Opened) → started s input ≡ Ok start → ReachesByLines start.setting start.world
  unfolding started
  session_reaches input start is = go (opening s.linked s.conf input) refl is
    where
      same : (x y : Opened) → ◌≡◌ {A = Result Opened OpenFault} (Ok x) (Ok y) → x ≡ y
      same x y e = cc

      go : (r : Result World (ℕ × ModuleFault)) → opening s.linked s.conf input ≡ r → (under (refusal s) r >>= with_setting s) ≡ Ok start
          → ReachesByLines start.setting start.world
      go (Ok w) e x = subst (λ (o : Opened). ReachesByLines o.setting o.world) (same _ start x)
          (reaches_by_lines (setting_of s.conf) w (first_sound s.linked s.conf within linked input w e) (first_told s.linked s.conf linked input w e))
      go (Err f) e x = absurd (cc)

  -- a command that opens this session
  pub command_reaches : (words : List (String Global)) (may : Possible) (v : Verb) (operand : List ℕ) → IsCommandFor words v operand
      → ((contents : Contents) → may contents → loaded v contents operand ≡ Ok s)
      → (contents : Contents) (input : List ℕ) → may contents → CommandReaches words contents input
  command_reaches words may v operand is loads contents input has = record {
    verb = v;
    name = operand;
    command = is;
    reaches = λ start opens. session_reaches input start (sym (ap (λ (r : Result Session OpenFault). r >>= (λ (x : Session). started x input)) (loads contents has)) ∙ opens);
  }

pub on_opened : (answer : Status) (P : Type 0) → P → OnOpened answer P
on_opened status.Fine P p = p
on_opened status.InputFault P p = p
on_opened status.SinkFault P p = p
on_opened status.NoRoom P p = p
on_opened status.SwapFull P p = p
on_opened status.SwapFault P p = p
on_opened status.BadWords P p = tt
on_opened (status.NoFile name) P p = tt
on_opened (status.BadMachine fault) P p = tt
on_opened (status.BadModule name fault) P p = tt
on_opened status.FileFault P p = tt
on_opened status.NoMemory P p = tt

unopened_by : (f : OpenFault) (P : Type 0) → OnOpened (status_by f) P
unopened_by (open_fault.NoFile n) P = tt
unopened_by (open_fault.BadMachine f) P = tt
unopened_by (open_fault.BadModule n f) P = tt
unopened_by open_fault.FileFault P = tt
unopened_by open_fault.NoMemory P = tt

pub unopened : (P : Type 0) (f : OpenFault) (answer : Status) → answer ≡ status_by f → OnOpened answer P
unopened P f answer is = subst (λ (a : Status). OnOpened a P) (sym is) (unopened_by f P)
