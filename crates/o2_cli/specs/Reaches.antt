-- What the report tells of who reaches what.
use Rattle.std.specs.Prelude.{◌≡◌, ℕ, List, Ok, String}
use Rattle.std.specs.declared.alloc.Global.{Global}
use Rattle.o2_machine.specs.Reaches.{ReachesByLines}
use Rattle.o2_open.specs.Loads.{Contents}
use Rattle.o2_words.specs.declared.words.Verb.{Verb}
use Rattle.o2_words.specs.Words.{IsCommandFor}
use Rattle.o2_cli.specs.declared.status.Status.{Status}
use Rattle.o2_cli.specs.declared.status.Status.TheVariants as status
use Rattle.o2_cli.specs.Opening.{Opened, opened}
use Rattle.o2_cli.specs.Top.{Possible}

-- from the world before the first step on each process holds what the report's lines tell, behind every step
pub record CommandReaches (words : List (String Global)) (contents : Contents) (input : List ℕ) : Type 0 where
  pub verb : Verb
  pub name : List ℕ
  pub command : IsCommandFor words verb name
  pub reaches : (start : Opened) → opened verb contents name input ≡ Ok start → ReachesByLines start.setting start.world

-- where something ran, or `check` has put its lines
abbrev pub OnOpened : Status → Type 0 → Type 0
OnOpened status.Fine P = P
OnOpened status.InputFault P = P
OnOpened status.SinkFault P = P
OnOpened status.NoRoom P = P
OnOpened status.SwapFull P = P
OnOpened status.SwapFault P = P
OnOpened _ P = Unit {0}

abbrev pub Reaches : List (String Global) → Possible → Status → Type 0
Reaches words may result = OnOpened result ((contents : Contents) (input : List ℕ) → may contents → CommandReaches words contents input)
