-- What each status says of the words, the files, the input and both texts.
use Rattle.std.specs.Prelude.{◌≡◌, ℕ, List, Option, Some, String, Ok, Err}
use Rattle.std.specs.declared.alloc.Global.{Global}
use Rattle.o2_words.specs.declared.words.Verb.{Verb}
use Rattle.o2_words.specs.declared.words.Verb.TheVariants.{Bench, Check}
use Rattle.o2_words.specs.Words.{IsCommand, IsCommandFor}
use Rattle.o2_run.specs.Pieces.{Counts}
use Rattle.o2_run.specs.declared.steps.Stop.{Stop}
use Rattle.o2_run.specs.declared.steps.Stop.TheVariants.{Input, NoRoom, SwapFull, SwapFault}
use Rattle.o2_cli.specs.declared.status.Status.{Status}
use Rattle.o2_cli.specs.declared.status.Status.TheVariants as status
use Rattle.o2_open.specs.declared.fault.OpenFault.{OpenFault}
use Rattle.o2_open.specs.declared.fault.OpenFault.TheVariants as open_fault
use Rattle.o2_open.specs.Loads.{Contents, loaded}
pub use Rattle.o2_cli.specs.Opening.{Opened, opened, refusal, with_setting}
unfoldable pub use Rattle.o2_cli.specs.Opening.{started}
use Rattle.o2_cli.specs.Ends.{HasEnd, HasPart, HasStop}

-- which contents the files may have
abbrev pub Possible : Type 1
Possible = Contents → Type 0

-- these and no other
abbrev pub holding : Contents → Possible
holding contents = λ (other : Contents). other ≡ contents

-- the words ask for a check, which starts nothing
abbrev pub IsCheck : List (String Global) → Type 0
IsCheck words = (name : List ℕ) × IsCommandFor words Check name

-- the words ask for a bench, which fetches nothing
abbrev pub IsBench : List (String Global) → Type 0
IsBench words = (count : ℕ) × (operand : List ℕ) × IsCommandFor words (Bench count) operand

-- the first refusal of a command; that of `check` is of the machine file, of a module or of linking, and never of a start
abbrev pub IsFirst : Verb → Contents → List ℕ → List ℕ → OpenFault → Type 0
IsFirst Check contents name input f = loaded Check contents name ≡ Err f
IsFirst verb contents name input f = opened verb contents name input ≡ Err f

-- the words are a command that is refused so
pub record IsRefused (words : List (String Global)) (may : Possible) (f : OpenFault) : Type 0 where
  pub verb : Verb
  pub name : List ℕ
  pub command : IsCommandFor words verb name
  pub refused : (contents : Contents) (input : List ℕ) → may contents → IsFirst verb contents name input f

-- a refusal and its cause
abbrev pub Refuses : List (String Global) → Possible → Status → Type 0
Refuses words may status.BadWords = IsCommand words → ⊥
Refuses words may (status.NoFile name) = IsRefused words may (open_fault.NoFile name)
Refuses words may (status.BadMachine fault) = IsRefused words may (open_fault.BadMachine fault)
Refuses words may (status.BadModule name fault) = IsRefused words may (open_fault.BadModule name fault)
Refuses words may status.NoRoom = IsCommand words
Refuses words may status.SwapFull = IsCommand words
Refuses words may status.SwapFault = IsCommand words
Refuses words may status.Fine = IsCommand words
Refuses words may status.FileFault = IsCommand words
Refuses words may status.InputFault = IsCommand words
Refuses words may status.SinkFault = IsCommand words
Refuses words may status.NoMemory = IsCommand words

-- where programs run: the command opens, and P holds of its verb, of the setting and of the world before the first step
pub record Opens (words : List (String Global)) (contents : Contents) (input : List ℕ) (P : Verb → Opened → Type 0) : Type 0 where
  pub verb : Verb
  pub name : List ℕ
  pub command : IsCommandFor words verb name
  pub start : Opened
  pub opens : opened verb contents name input ≡ Ok start
  pub runs : P verb start

-- over all files that may be, and whatever the input tells, but for `check`
abbrev pub Runs : List (String Global) → Possible → Option (List ℕ) → (Verb → Opened → Type 0) → Type 0
Runs words may left P = (IsCheck words → ⊥) → (contents : Contents) (input : List ℕ) → may contents → left ≡ Some input → Opens words contents input P

-- nothing was written, and the input is as before
pub record IsUntouched (left_old left_new console_old console_new report_old report_new : Option (List ℕ)) : Type 0 where
  pub input : left_new ≡ left_old
  pub console : console_new ≡ console_old
  pub report : report_new ≡ report_old

-- the run is stopped so, before a step
abbrev pub Stops : List (String Global) → Possible → (blocks : ℕ)
    → (left_old left_new console_old console_new report_old report_new : Option (List ℕ)) → (fault : Type 0) → (puts : Counts) → Stop → Type 0
Stops words may blocks i j c d r q e n why = Runs words may i (λ verb o. HasStop verb blocks o why j c d r q e n)

-- both texts, their puts and the input, by the status: what the command shows of the boundless machine's run, or a front of it; `fault`
-- says that the last put of the report failed, and `blocks` how many blocks the device has
abbrev pub Shows : List (String Global) → Possible → (blocks : ℕ)
    → (left_old left_new console_old console_new report_old report_new : Option (List ℕ)) → (fault : Type 0) → (puts : Counts) → Status → Type 0
Shows words may blocks i j c d r q e n status.Fine = Runs words may i (λ verb o. HasEnd verb blocks o j c d r q n)
Shows words may blocks i j c d r q e n status.SinkFault = Runs words may i (λ verb o. HasPart verb blocks o j c d r q e n)
Shows words may blocks i j c d r q e n status.InputFault = Stops words may blocks i j c d r q e n Input
Shows words may blocks i j c d r q e n status.NoRoom = Stops words may blocks i j c d r q e n NoRoom
Shows words may blocks i j c d r q e n status.SwapFull = Stops words may blocks i j c d r q e n SwapFull
Shows words may blocks i j c d r q e n status.SwapFault = Stops words may blocks i j c d r q e n SwapFault
Shows words may blocks i j c d r q e n _ = IsUntouched i j c d r q

abbrev pub OnFileFault : Status → Type 0 → Type 0
OnFileFault status.FileFault P = P
OnFileFault _ P = Unit {0}

abbrev pub OnInputFault : Status → Type 0 → Type 0
OnInputFault status.InputFault P = P
OnInputFault _ P = Unit {0}

abbrev pub OnSinkFault : Status → Type 0 → Type 0
OnSinkFault status.SinkFault P = P
OnSinkFault _ P = Unit {0}

abbrev pub OnSwapFault : Status → Type 0 → Type 0
OnSwapFault status.SwapFault P = P
OnSwapFault _ P = Unit {0}

-- where nothing has run, for a refusal, a fault of the files or want of memory
abbrev pub OnUnrun : Status → Type 0 → Type 0
OnUnrun status.BadWords P = P
OnUnrun (status.NoFile name) P = P
OnUnrun (status.BadMachine fault) P = P
OnUnrun (status.BadModule name fault) P = P
OnUnrun status.FileFault P = P
OnUnrun status.NoMemory P = P
OnUnrun _ P = Unit {0}

-- where the lines of `check` were put, or failed
abbrev pub OnTried : Status → Type 0 → Type 0
OnTried status.Fine P = P
OnTried status.SinkFault P = P
OnTried _ P = Unit {0}
