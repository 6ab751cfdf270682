-- What the run of a session comes to, as one of the commands that run programs.
use Rattle.std.specs.Prelude.{◌≡◌, ◌≤◌, ◌+◌, ◌⊎◌, ℕ, List, Option, Some, Ok, IsTrue, length}
use Rattle.o2_machine.specs.declared.machine.Machine.{Machine}
use Rattle.o2_machine.specs.Begins.{HasBegun, starting}
use Rattle.o2_world.specs.Starts.{Built}
use Rattle.o2_words.specs.declared.words.Verb.{Verb}
use Rattle.o2_words.specs.declared.words.Verb.TheVariants.{Exe, Run, Check, Dump, Bench}
use Rattle.o2_cli.specs.Checks.{IsUnstarted, ShowsLines}
use Rattle.o2_outer.specs.Inputs.{GoesOn, IsSeenAs}
use Rattle.o2_open.specs.declared.session.Session.{Session}
use Rattle.o2_cli.specs.declared.status.Status.{Status}
use Rattle.o2_cli.specs.Done.{AllFit}
use Rattle.o2_cli.specs.Opening.{StartsWith}
use Rattle.o2_cli.specs.RunTexts.{RefusesRun, ShowsRun}
use Rattle.o2_cli.specs.Sides.{InputSides, SinkSides, SwapSides, AreSame, InputRose, SinkFailedLast, SinkRose, SwapRose, both_puts, left_before, left_behind}
use Rattle.o2_cli.specs.Top.{OnInputFault, OnSinkFault, OnSwapFault, OnTried, OnUnrun}

pub record RunsAs {I C R S : Type 0} (verb : Verb) (session : Session) (i : InputSides I) (c : SinkSides C) (r : SinkSides R) (s : SwapSides S) (result : Status) : Type 0 where
  pub same : OnUnrun result (AreSame i c r s)
  pub swap_blocks : s.blocks s.new ≡ s.blocks s.old
  pub swap_told : IsTrue (s.told s.new) → IsTrue (s.told s.old)
  pub refused : RefusesRun session result
  -- However the input is seen: by what it tells, or as a text that the whole of it may be.
  pub texts : IsTrue (s.told s.new) → (text : Option (List ℕ)) → IsSeenAs text (i.past i.new)
      → ShowsRun verb session (s.blocks s.old) (left_before i text) (left_behind i text) (c.taken c.old) (c.taken c.new)
      (r.taken r.old) (r.taken r.new) (SinkFailedLast r) (both_puts c r) result
  pub goes_on : GoesOn (i.past i.old) (i.past i.new)
  pub input_fault : OnInputFault result (InputRose i)
  pub sink_fault : OnSinkFault result (SinkRose c ⊎ SinkRose r)
  pub swap_fault : OnSwapFault result (SwapRose s)
  -- Where all that lives fits the memory at each step, the device is neither read nor written.
  pub idle : IsTrue (s.told s.old) → (text : Option (List ℕ)) → IsSeenAs text (i.past i.new) → (seen : List ℕ)
      → left_before i text ≡ Some seen → StartsWith session seen AllFit → s.new ≡ s.old

-- A machine has begun with this session, over a device of so many blocks: the report is known from before the lines of the starts to behind them.
pub record BegunAs {R : Type 0} (machine : Machine) (session : Session) (r : SinkSides R) (blocks : ℕ) : Type 0 where
  pub told : ℕ
  pub is : told ≡ blocks
  pub begins : HasBegun machine session.linked session.conf told (r.taken r.old) (r.taken r.new)
  pub puts : (built : Built) → starting session.linked session.conf ≡ Ok built → r.puts r.new ≡ r.puts r.old + length built.lines
  pub count : r.faults r.old ≤ r.faults r.new

-- A check of a session: the lines of its modules are put to the console, and nothing else is touched.
pub record ChecksAs {I C R S : Type 0} (session : Session) (i : InputSides I) (c : SinkSides C) (r : SinkSides R) (s : SwapSides S) (result : Status) : Type 0 where
  pub lines : ShowsLines session (c.taken c.old) (c.taken c.new) result
  pub at_once : OnTried result (c.puts c.new ≡ c.puts c.old + 1)
  pub unstarted : IsUnstarted result
  pub same_console : OnUnrun result (c.new ≡ c.old)
  pub sink_fault : OnSinkFault result (SinkRose c)
  pub unread : i.new ≡ i.old
  pub quietly : r.new ≡ r.old
  pub unswapped : s.new ≡ s.old

-- what a command does with the session that it opened
abbrev pub ActsAs : {I C R S : Type 0} → Verb → Session → InputSides I → SinkSides C → SinkSides R → SwapSides S → Status → Type 0
ActsAs Check session i c r s result = ChecksAs session i c r s result
ActsAs Exe session i c r s result = RunsAs Exe session i c r s result
ActsAs Run session i c r s result = RunsAs Run session i c r s result
ActsAs Dump session i c r s result = RunsAs Dump session i c r s result
ActsAs (Bench count) session i c r s result = RunsAs (Bench count) session i c r s result
