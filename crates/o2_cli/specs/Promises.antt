-- All that a command promises, over whatever files, streams and swap device.
use Rattle.std.specs.Prelude.{◌≡◌, ◌+◌, ◌<◌, ◌⊎◌, ℕ, List, Option, String, IsTrue}
use Rattle.std.specs.declared.alloc.Global.{Global}
use Rattle.o2_outer.specs.Inputs.{GoesOn, MayBe, IsSeenAs}
use Rattle.o2_outer.specs.Texts.{Rose}
use Rattle.o2_open.specs.Loads.{Contents}
use Rattle.o2_open.specs.Names.{AsksFirst, names_in}
use Rattle.o2_words.specs.Words.{IsCommand, IsCommandFor}
use Rattle.o2_words.specs.declared.words.Verb.{Verb}
use Rattle.o2_cli.specs.declared.status.Status.{Status}
use Rattle.o2_cli.specs.Checks.{Checks, IsUnstarted}
use Rattle.o2_cli.specs.Done.{Completes, CompletesCheck, HasMemory, InMemory, IsUnswapped}
use Rattle.o2_cli.specs.Reaches.{Reaches}
use Rattle.o2_cli.specs.Sides.{FileSides, InputSides, SinkSides, SwapSides, AreSame, InputRose, SinkFailedLast, SinkRose, SwapRose, both_puts, left_before, left_behind}
use Rattle.o2_cli.specs.Top.{IsBench, IsCheck, Possible, Refuses, Shows, OnFileFault, OnInputFault, OnSinkFault, OnSwapFault, OnTried, OnUnrun}

-- A check puts its lines at once, refuses no start, and touches nothing but the files and the console.
pub record IsOnlyCheck {I C R S : Type 0} (i : InputSides I) (c : SinkSides C) (r : SinkSides R) (s : SwapSides S) (result : Status) : Type 0 where
  pub at_once : OnTried result (c.puts c.new ≡ c.puts c.old + 1)
  pub unstarted : IsUnstarted result
  pub quietly : r.new ≡ r.old
  pub unread : i.new ≡ i.old
  pub unswapped : s.new ≡ s.old

pub record Promises {F I C R S : Type 0} (words : List (String Global)) (f : FileSides F) (i : InputSides I) (c : SinkSides C) (r : SinkSides R) (s : SwapSides S) (result : Status) : Type 0 where
  -- Each refusal, with its cause.
  pub refused : Refuses words (f.may_hold f.new) result
  -- Both texts are those of the boundless machine over all files that agree with what was fetched, or fronts of them, where each
  -- block that was read had what was written to it last; each line of the report is one put, and so is the piece for the console
  -- of each step that has one. Of a bench the console gains its line alone, by one put, where the run is over; of a dump a core image
  -- that stands for the world at its end, or for that of a stop for room or for swap whose line was put, behind the words
  -- `discard` before the step: of such a stop the image lacks only where the report's last put, which is that of the line, failed.
  -- The input is seen by what it tells, or as any text that the whole of it may be when the call comes back: what it has given
  -- is a front of it, and all of it where it has ended.
  pub texts : IsTrue (s.told s.new) → (text : Option (List ℕ)) → IsSeenAs text (i.past i.new)
      → Shows words (f.may_hold f.new) (s.blocks s.old) (left_before i text) (left_behind i text) (c.taken c.old) (c.taken c.new)
      (r.taken r.old) (r.taken r.new) (SinkFailedLast r) (both_puts c r) result
  -- What it has given is such a text.
  pub some_text : MayBe (i.past i.new).given (i.past i.new)
  pub goes_on : GoesOn (i.past i.old) (i.past i.new)
  -- Behind each step of what ran, each process holds what is under each selector as often as the report's lines tell: a process
  -- reaches a segment exactly while its loads, allocations, gifts and gets outnumber its frees.
  pub reach : Reaches words (f.may_hold f.new) result
  -- Of `check` the console gains the line of each linked module, or a front of the lines, and nothing else is touched; no
  -- module is refused for a stack, an entry point or the number of segments.
  pub lines : Checks words (f.may_hold f.new) (c.taken c.old) (c.taken c.new) result
  pub checks : IsCheck words → IsOnlyCheck i c r s result
  -- Where each step has what it needs in memory and swap, and no count of faults rose, a command that opens is done, or there
  -- was no memory; and so is a check.
  pub complete : IsTrue (s.told s.new) → (text : Option (List ℕ)) → IsSeenAs text (i.past i.new)
      → Completes words (f.may_hold f.new) (s.blocks s.old) (left_before i text) (Rose (f.faults f.old) (f.faults f.new)) (InputRose i)
      (SinkRose c ⊎ SinkRose r) (SwapRose s) result
  pub check_complete : CompletesCheck words (f.may_hold f.new) (Rose (f.faults f.old) (f.faults f.new)) (SinkRose c ⊎ SinkRose r) result
  -- Where all that lives fits the memory at each step, the device is neither read nor written, and no stop is for room or for swap.
  pub ample : IsTrue (s.told s.old) → (text : Option (List ℕ)) → IsSeenAs text (i.past i.new)
      → InMemory words (f.may_hold f.new) (left_before i text) ((s.new ≡ s.old) × IsUnswapped (Rose (s.faults s.old) (s.faults s.old)) result)
  -- Want of memory is told only before the first step, and before the lines of the starts, which are put in front of it: where a
  -- line or a piece was put, or tried, the status is another one.
  pub memory_first : (r.puts r.old < r.puts r.new) ⊎ (c.puts c.old < c.puts c.new) → HasMemory result
  -- Where nothing ran, the input, both sinks and the device are as they were, whatever they tell.
  pub same : OnUnrun result (AreSame i c r s)
  pub benches_unread : IsBench words → f.new ≡ f.old
  -- The files are asked for the operand's, and where that is a machine file for each module that it lists, in their order and each
  -- once: for no other name, and for none where the words are no command.
  pub fetches : (verb : Verb) (operand : List ℕ) → IsCommandFor words verb operand → (contents : Contents) → f.may_hold f.new contents
      → AsksFirst (names_in verb contents operand) (f.asked f.old) (f.asked f.new)
  pub unfetched : (IsCommand words → ⊥) → f.asked f.new ≡ f.asked f.old
  -- Files that agree with what was fetched agreed with what was fetched before, and a device whose reads all gave what was written
  -- had none before that didn't.
  pub files_earlier : (contents : Contents) → f.may_hold f.new contents → f.may_hold f.old contents
  pub swap_blocks : s.blocks s.new ≡ s.blocks s.old
  pub swap_told : IsTrue (s.told s.new) → IsTrue (s.told s.old)
  -- A fault is told only where a count rose.
  pub file_fault : OnFileFault result (Rose (f.faults f.old) (f.faults f.new))
  pub input_fault : OnInputFault result (InputRose i)
  pub sink_fault : OnSinkFault result (SinkRose c ⊎ SinkRose r)
  pub swap_fault : OnSwapFault result (SwapRose s)
