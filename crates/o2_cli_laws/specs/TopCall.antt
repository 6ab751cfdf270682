-- The run alone of a process that a command runs.
use Rattle.std.specs.Prelude.{◌≡◌, ℕ, List, Ok}
use Rattle.o2_words.specs.declared.words.Verb.{Verb}
use Rattle.o2_machine.specs.Begins.{setting_of}
use Rattle.o2_open.specs.declared.session.Session.{Session}
use Rattle.o2_open.specs.Loads.{Contents, loaded}
use Rattle.o2_cli_laws.specs.Commands.{HasRunAlone}
use Rattle.o2_cli.specs.Opening.{Opened}

-- what the command opened, before its processes started, and the run alone of this one over that
pub record RunsAsAlone (verb : Verb) (contents : Contents) (name input : List ℕ) (start : Opened) (number : ℕ) : Type 0 where
  pub session : Session
  pub opens : loaded verb contents name ≡ Ok session
  pub setting : start.setting ≡ setting_of session.conf
  pub runs : HasRunAlone session input start.world number
