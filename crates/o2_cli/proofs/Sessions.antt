-- All that the run of a session comes to, from what its parts say.
use Rattle.std.proofs.Common.{◌≡◌, ◌⊎◌, ℕ, List, Option, Some, IsTrue, inl, inr, refl, subst, sym}
use Rattle.std.specs.Prelude.{Result}
use Rattle.o2_outer.proofs.Inputs.{goes_same}
use Rattle.o2_outer.specs.Inputs.{GoesOn, IsSeenAs}
use Rattle.o2_words.specs.declared.words.Verb.{Verb}
use Rattle.o2_words.specs.declared.words.Verb.TheVariants.{Exe, Run, Check, Dump, Bench}
use Rattle.o2_open.specs.declared.session.Session.{Session}
use Rattle.o2_run.specs.declared.fault.Fault.{Fault}
use Rattle.o2_run.specs.Faults.{Caused}
use Rattle.o2_run.specs.Pieces.{counts}
use Rattle.o2_cli.specs.declared.status.Status.{Status}
use Rattle.o2_cli.specs.declared.status.Status.TheVariants as status
use Rattle.o2_cli.specs.Done.{AllFit}
use Rattle.o2_cli.specs.Opening.{StartsWith}
use Rattle.o2_cli.specs.RunTexts.{FailsToBegin, RefusesRun, ShowsRun}
use Rattle.o2_cli.specs.Sessions.{ActsAs, ChecksAs, RunsAs}
use Rattle.o2_cli.specs.Sides.{FileSides, InputSides, SinkSides, SwapSides, AreSame, InputRose, SinkFailedLast, SinkRose, SwapRose, both_puts, left_before, left_behind, file_sides, input_sides, sink_sides, swap_sides}
use Rattle.o2_cli.specs.Statuses.{status_of_run}
use Rattle.o2_cli.specs.Top.{OnSinkFault, OnUnrun}
use Rattle.o2_cli.proofs.ImageStatuses.{run_input, run_refusal, run_sink, run_swap, run_unrun}
use Rattle.o2_cli.proofs.Runs.{begin_input, begin_sink, begin_swap, shown_either}

-- what a call leaves as it was
abbrev pub still_files : {F : Type 0} → FileSides F → FileSides F
still_files f = file_sides f.old f.old f.may_hold f.asked f.faults

abbrev pub still_input : {I : Type 0} → InputSides I → InputSides I
still_input i = input_sides i.old i.old i.left i.past i.faults

abbrev pub still_sink : {S : Type 0} → SinkSides S → SinkSides S
still_sink s = sink_sides s.old s.old s.taken s.puts s.faults

abbrev pub still_swap : {S : Type 0} → SwapSides S → SwapSides S
still_swap s = swap_sides s.old s.old s.blocks s.told s.faults

-- a fault of the one sink is one of either
pub sink_first : (P Q : Type 0) (answer : Status) → OnSinkFault answer P → OnSinkFault answer (P ⊎ Q)
sink_first P Q status.SinkFault h = inl h
sink_first P Q status.NoMemory h = tt
sink_first P Q (status.BadModule n f) h = tt
sink_first P Q status.InputFault h = tt
sink_first P Q status.SwapFault h = tt
sink_first P Q status.Fine h = tt
sink_first P Q status.BadWords h = tt
sink_first P Q (status.NoFile n) h = tt
sink_first P Q (status.BadMachine f) h = tt
sink_first P Q status.FileFault h = tt
sink_first P Q status.NoRoom h = tt
sink_first P Q status.SwapFull h = tt

-- what holds anyhow holds where nothing has run
pub on_unrun : (P : Type 0) → P → (answer : Status) → OnUnrun answer P
on_unrun P p status.BadWords = p
on_unrun P p (status.NoFile name) = p
on_unrun P p (status.BadMachine fault) = p
on_unrun P p (status.BadModule name fault) = p
on_unrun P p status.FileFault = p
on_unrun P p status.NoMemory = p
on_unrun P p status.Fine = tt
on_unrun P p status.InputFault = tt
on_unrun P p status.SinkFault = tt
on_unrun P p status.NoRoom = tt
on_unrun P p status.SwapFull = tt
on_unrun P p status.SwapFault = tt

-- where nothing has run, what follows from a fact holds where the fact does
pub unrun_so : (P Q : Type 0) → (P → Q) → (answer : Status) → OnUnrun answer P → OnUnrun answer Q
unrun_so P Q f status.BadWords h = f h
unrun_so P Q f (status.NoFile name) h = f h
unrun_so P Q f (status.BadMachine fault) h = f h
unrun_so P Q f (status.BadModule name fault) h = f h
unrun_so P Q f status.FileFault h = f h
unrun_so P Q f status.NoMemory h = f h
unrun_so P Q f status.Fine h = tt
unrun_so P Q f status.InputFault h = tt
unrun_so P Q f status.SinkFault h = tt
unrun_so P Q f status.NoRoom h = tt
unrun_so P Q f status.SwapFull h = tt
unrun_so P Q f status.SwapFault h = tt

module _ {I C R S : Type 0} (verb : Verb) (session : Session) (i : InputSides I) (c : SinkSides C) (r : SinkSides R) (s : SwapSides S) where
  -- there was no memory for what is taken before the start
  pub no_memory : RunsAs verb session (still_input i) (still_sink c) (still_sink r) (still_swap s) status.NoMemory
  no_memory = record {
    same = record { input = refl; console = refl; report = refl; swap = refl };
    swap_blocks = refl;
    swap_told = λ told. told;
    refused = tt;
    texts = λ told text seen. record { input = refl; console = refl; report = refl };
    goes_on = goes_same (i.past i.old);
    input_fault = tt;
    sink_fault = tt;
    swap_fault = tt;
    idle = λ told text seen input left fits. refl;
  }

  -- it has no first step
  pub unbegun : (answer : Status) → FailsToBegin session (r.taken r.old) (r.taken r.new) (r.puts r.old) (r.puts r.new) answer
      → RefusesRun session answer → OnUnrun answer (r.new ≡ r.old) → OnSinkFault answer (SinkRose r)
      → ((left : Option (List ℕ)) → ShowsRun verb session (s.blocks s.old) left left (c.taken c.old) (c.taken c.old) (r.taken r.old) (r.taken r.new)
      (SinkFailedLast r) (both_puts (still_sink c) r) answer)
      → RunsAs verb session (still_input i) (still_sink c) r (still_swap s) answer
  unbegun answer fails refused same sink shows = record {
    same = unrun_so _ _ (λ e. record { input = refl; console = refl; report = e; swap = refl }) answer same;
    swap_blocks = refl;
    swap_told = λ told. told;
    refused = refused;
    texts = λ told text seen. shows (left_before i text);
    goes_on = goes_same (i.past i.old);
    input_fault = begin_input session _ _ _ _ _ answer fails;
    sink_fault = begin_sink _ _ answer sink;
    swap_fault = begin_swap session _ _ _ _ _ answer fails;
    idle = λ told text seen input left fits. refl;
  }

  -- its run came to its end, or to a fault that the status tells
  pub ran : (ended : Result (Unit {0}) Fault) (answer : Status) → answer ≡ status_of_run ended
      → (sink device : Type 0) → Caused sink (InputRose i) (Unit {0}) device ended → (sink → SinkRose c ⊎ SinkRose r) → (device → SwapRose s)
      → s.blocks s.new ≡ s.blocks s.old → (IsTrue (s.told s.new) → IsTrue (s.told s.old)) → GoesOn (i.past i.old) (i.past i.new)
      → (IsTrue (s.told s.new) → (text : Option (List ℕ)) → IsSeenAs text (i.past i.new)
      → ShowsRun verb session (s.blocks s.old) (left_before i text) (left_behind i text) (c.taken c.old) (c.taken c.new)
      (r.taken r.old) (r.taken r.new) (SinkFailedLast r) (both_puts c r) answer)
      → (IsTrue (s.told s.old) → (text : Option (List ℕ)) → IsSeenAs text (i.past i.new) → (seen : List ℕ)
      → left_before i text ≡ Some seen → StartsWith session seen AllFit → s.new ≡ s.old)
      → RunsAs verb session i c r s answer
  ran ended answer is sink device cause to_sink to_swap blocks told goes texts idle = record {
    same = run_unrun ended answer is _;
    swap_blocks = blocks;
    swap_told = told;
    refused = run_refusal ended answer is session;
    texts = texts;
    goes_on = goes;
    input_fault = run_input ended answer is sink (InputRose i) device cause;
    sink_fault = run_sink ended answer is sink (InputRose i) device cause _ to_sink;
    swap_fault = run_swap ended answer is sink (InputRose i) device cause _ to_swap;
    idle = idle;
  }

-- what a check does is what its verb asks for
pub as_check : {I C R S : Type 0} (verb : Verb) (session : Session) (i : InputSides I) (c : SinkSides C) (r : SinkSides R) (s : SwapSides S) (answer : Status)
    → verb ≡ Check → ChecksAs session i c r s answer → ActsAs verb session i c r s answer
as_check verb session i c r s answer is k = subst (λ (v : Verb). ActsAs v session i c r s answer) (sym is) k

-- what a run comes to as `run`, it comes to as `exe`
pub as_run : {I C R S : Type 0} (verb : Verb) (session : Session) (i : InputSides I) (c : SinkSides C) (r : SinkSides R) (s : SwapSides S) (answer : Status)
    → (verb ≡ Exe) ⊎ (verb ≡ Run) → RunsAs Run session i c r s answer → ActsAs verb session i c r s answer
as_run verb session i c r s answer (inr is) run = subst (λ (v : Verb). ActsAs v session i c r s answer) (sym is) run
as_run verb session i c r s answer (inl is) run = subst (λ (v : Verb). ActsAs v session i c r s answer) (sym is) (record {
  same = run.same;
  swap_blocks = run.swap_blocks;
  swap_told = run.swap_told;
  refused = run.refused;
  texts = λ told text seen. shown_either Exe session _ _ _ _ _ _ _ _ _ answer (inl refl) (run.texts told text seen);
  goes_on = run.goes_on;
  input_fault = run.input_fault;
  sink_fault = run.sink_fault;
  swap_fault = run.swap_fault;
  idle = run.idle;
})

-- and a dump and a bench do what theirs ask for
pub as_dump : {I C R S : Type 0} (verb : Verb) (session : Session) (i : InputSides I) (c : SinkSides C) (r : SinkSides R) (s : SwapSides S) (answer : Status)
    → verb ≡ Dump → RunsAs Dump session i c r s answer → ActsAs verb session i c r s answer
as_dump verb session i c r s answer is run = subst (λ (v : Verb). ActsAs v session i c r s answer) (sym is) run

pub as_bench : {I C R S : Type 0} (verb : Verb) (count : ℕ) (session : Session) (i : InputSides I) (c : SinkSides C) (r : SinkSides R) (s : SwapSides S) (answer : Status)
    → verb ≡ Bench count → RunsAs (Bench count) session i c r s answer → ActsAs verb session i c r s answer
as_bench verb count session i c r s answer is run = subst (λ (v : Verb). ActsAs v session i c r s answer) (sym is) run
