-- What a command runs is what it opened, started.
use Rattle.std.proofs.Common.{◌≡◌, refl, sym, ◌∙◌, ap, ℕ, List}
use Rattle.std.specs.Prelude.{Result, Ok, Err}
use Rattle.o2_base.specs.declared.faults.ModuleFault.{ModuleFault}
use Rattle.o2_words.specs.declared.words.Verb.{Verb}
use Rattle.o2_world.specs.World.{World}
use Rattle.o2_machine.specs.Begins.{opening, setting_of}
use Rattle.o2_open.specs.declared.fault.OpenFault.{OpenFault}
use Rattle.o2_open.specs.declared.session.Session.{Session}
use Rattle.o2_open.specs.Loads.{◌>>=◌, Contents, loaded, under}
use Rattle.o2_cli_laws.specs.Commands.{IsProcess}
use Rattle.o2_cli_laws.specs.Files.{HoldBytes}
use Rattle.o2_cli_laws.proofs.Commands.{run_alone}
use Rattle.o2_cli.specs.Opening.{Opened, opened, refusal, started, with_setting}
use Rattle.o2_cli_laws.specs.TopCall.{RunsAsAlone}

record HasStarted (s : Session) (input : List ℕ) (o : Opened) : Type 0 where
  opens : opening s.linked s.conf input ≡ Ok o.world
  setting : o.setting ≡ setting_of s.conf

has_started : (s : Session) (input : List ℕ) (o : Opened) → started s input ≡ Ok o → HasStarted s input o
unfolding started
has_started s input o = go (opening s.linked s.conf input) refl
  where
    opened_in : Result Opened OpenFault → Opened
    opened_in (Ok x) = x
    opened_in (Err fault) = o

    go : (r : Result World (ℕ × ModuleFault)) → opening s.linked s.conf input ≡ r → under (refusal s) r >>= with_setting s ≡ Ok o → HasStarted s input o
    go (Err fault) is e = absurd (cc)
    go (Ok w) is e =
        let same = ap opened_in e in
        record { opens = is ∙ ap (λ (x : Opened). Ok x.world) same; setting = sym (ap (λ (x : Opened). x.setting) same) }

pub runs_as_alone : (verb : Verb) (contents : Contents) (name input : List ℕ) (start : Opened) → HoldBytes contents → opened verb contents name input ≡ Ok start
    → (number : ℕ) → IsProcess start.world number → RunsAsAlone verb contents name input start number
runs_as_alone verb contents name input start bytes e number is = go (loaded verb contents name) refl e
  where
    go : (r : Result Session OpenFault) → loaded verb contents name ≡ r → r >>= (λ (s : Session). started s input) ≡ Ok start → RunsAsAlone verb contents name input start number
    go (Err fault) at f = absurd (cc)
    go (Ok s) at f =
        let begun = has_started s input start f in
        record { session = s; opens = at; setting = begun.setting; runs = run_alone verb contents name input s start.world bytes at begun.opens number is }
