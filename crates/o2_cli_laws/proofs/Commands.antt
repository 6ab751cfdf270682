-- Each process of what a command opens has a run alone.
use Rattle.std.proofs.Common.{◌≡◌, subst, ℕ, ◌-◌, List, arith}
use Rattle.std.specs.Prelude.{IfOk, Result, Ok}
use Rattle.o2_words.specs.declared.words.Verb.{Verb}
use Rattle.o2_world.specs.World.{World}
use Rattle.o2_load.specs.Loads.{library_ranges, starts_of}
use Rattle.o2_machine.specs.Begins.{opening, setting_of}
use Rattle.o2_isolation.proofs.Linked.{linked_strangers}
use Rattle.o2_open.specs.declared.fault.OpenFault.{OpenFault}
use Rattle.o2_open.specs.declared.session.Session.{Session}
use Rattle.o2_open.specs.Loads.{Contents, loaded}
use Rattle.o2_cli_laws.specs.Files.{HoldBytes}
use Rattle.o2_cli_laws.specs.Commands.{HasRunAlone, IsProcess}
use Rattle.o2_cli_laws.proofs.Counts.{opened_count, start_at}
use Rattle.o2_cli_laws.proofs.Sessions.{IsGood, loaded_good}

pub good_at : (contents : Contents) (verb : Verb) (name : List ℕ) (s : Session) → HoldBytes contents → loaded verb contents name ≡ Ok s → IsGood s
good_at contents verb name s bytes e = subst (λ (r : Result Session OpenFault). IfOk r IsGood) e (loaded_good contents bytes verb name)

pub run_alone : (verb : Verb) (contents : Contents) (name input : List ℕ) (s : Session) (w : World) → HoldBytes contents
    → loaded verb contents name ≡ Ok s → opening s.linked s.conf input ≡ Ok w → (number : ℕ) → IsProcess w number → HasRunAlone s input w number
run_alone verb contents name input s w bytes e o number is =
    let good = good_at contents verb name s bytes e in
    let count = opened_count (setting_of s.conf) (library_ranges s.linked) s.conf.script input (starts_of s.linked 1 s.conf.process) w o in
    let some = is.0 in
    let most = is.1 in
    let start = start_at (starts_of s.linked 1 s.conf.process) (number - 1) (omega (arith, some, most, count)) in
    record {
      start = start.0;
      starts = start.1;
      stranger = linked_strangers (setting_of s.conf) s.conf.script input good.linked.0 s.conf s.linked w good.linked.1.0 good.fits good.linked.1.1 o number start.0 is.0 start.1;
    }
