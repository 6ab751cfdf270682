-- The run of a session, by what its machine began with.
use Rattle.std.proofs.Common.{inr, ◌⊎◌, ◌≡◌, ℕ, ◌+◌, arith, length, List, Option, Some, ap, sym, ◌∙◌, refl, append-nil, inl, subst}
use Rattle.std.specs.Prelude.{Result, Ok, Err, String, min}
use Rattle.std.specs.declared.alloc.Global.{Global}
use Rattle.o2_base.specs.declared.faults.ModuleFault.{ModuleFault}
use Rattle.o2_words.specs.declared.words.Verb.{Verb}
use Rattle.o2_words.specs.declared.words.Verb.TheVariants.{Exe, Run, Check, Dump, Bench}
use Rattle.o2_words.specs.Words.{IsCommandFor}
use Rattle.o2_world.specs.World.{World, Setting}
use Rattle.o2_world.specs.Starts.{Built, where_started}
use Rattle.o2_world.specs.Run.{InOpening, console}
use Rattle.o2_world.specs.Text.{lines_text}
use Rattle.o2_outer.specs.Texts.{Gains, GainsSome, IsPrefix}
use Rattle.o2_run.specs.declared.steps.Stop.{Stop}
use Rattle.o2_run.specs.declared.steps.Stop.TheVariants.{Input, NoRoom, SwapFull, SwapFault}
use Rattle.o2_run.specs.declared.fault.Fault.{Fault}
use Rattle.o2_run.specs.declared.fault.Fault.TheVariants.{Sink, Stopped}
use Rattle.o2_run.specs.Pieces.{Counts, FailsInLine, counts}
use Rattle.o2_run.specs.Ended.{HasPartRun, HasTexts}
use Rattle.o2_run.proofs.Reached.{part_from, stopped_from}
use Rattle.o2_conf.specs.declared.conf.Conf.{Conf}
use Rattle.o2_dynlink.specs.Outcome.{LinkedParts}
use Rattle.o2_machine.specs.declared.machine.Machine.{Machine}
use Rattle.o2_machine.specs.Begins.{HasBegun, setting_of, starting, first_world}
use Rattle.o2_machine.specs.StandsFor.{StandsFor}
use Rattle.o2_machine.specs.Lasts.{machine_swaps}
use Rattle.o2_open.specs.declared.session.Session.{Session}
use Rattle.o2_cli.specs.declared.status.Status.{Status}
use Rattle.o2_cli.specs.declared.status.Status.TheVariants as status
use Rattle.o2_open.specs.declared.fault.OpenFault.{OpenFault}
use Rattle.o2_open.specs.declared.fault.OpenFault.TheVariants as open_fault
use Rattle.o2_open.specs.Loads.{Contents, Tells, loaded, start_refusal, under, ◌>>=◌}
use Rattle.o2_cli.specs.Top.{OnFileFault, Refuses as TopRefuses, OnInputFault, OnSinkFault, OnSwapFault, Opened, Possible, IsFirst, Opens, Shows, opened, started}
use Rattle.o2_cli.specs.Statuses.{status_by, status_of}
use Rattle.o2_cli.specs.Opening.{StartsWith, refusal, with_setting}
use Rattle.o2_cli.specs.RunTexts.{FailsToBegin, StopsRun, ShowsRun, RefusesRun}

-- the whole opening, from what is reserved for the run and what the starts come to
abbrev pub opened_from : Session → List (ℕ × ℕ) → List ℕ → Result Built (ℕ × ModuleFault) → Result Opened OpenFault
opened_from s reserved input r = under (refusal s) (where_started reserved s.conf.script s.conf.budget input r) >>= with_setting s

abbrev pub start_of : Session → List ℕ → Built → Opened
start_of s input b = record { setting = setting_of s.conf; world = first_world s.linked s.conf input b; images = s.linked.images }

pub has_started : (s : Session) (input : List ℕ) (b : Built) → starting s.linked s.conf ≡ Ok b → started s input ≡ Ok (start_of s input b)
unfolding started
has_started s input b e = ap (opened_from s _ input) e

pub is_refused : (s : Session) (input : List ℕ) (f : ℕ × ModuleFault) → starting s.linked s.conf ≡ Err f → started s input ≡ Err (start_refusal s.conf s.linked.programs f.0 f.1)
unfolding started
is_refused s input f e = ap (opened_from s _ input) e

-- what has begun stands for that world over the device that it was begun for
pub stands_over : (m : Machine) (l : LinkedParts) (c : Conf) (count : ℕ) (r q : Option (List ℕ)) (begun : HasBegun m l c count r q) (blocks : ℕ) → count ≡ blocks → (block : ℕ → List ℕ) (input : List ℕ)
    → StandsFor m blocks block (setting_of c) (first_world l c input begun.built)
stands_over m l c count r q begun blocks is block input = begun.stands blocks (ap (λ (n : ℕ). min c.swap n) (sym is)) block input

-- before the first step nothing is on the console
pub nothing_yet : (s : Session) (b : Built) (input : List ℕ) (c : Option (List ℕ)) → Gains c c (console (first_world s.linked s.conf input b))
nothing_yet s b input c = λ t e. e ∙ ap Some (sym (append-nil t))

-- a sink failed in the opening
pub in_opening : (s : Session) (b : Built) (input : List ℕ) (j c r q : Option (List ℕ)) → j ≡ Some input → GainsSome r q (λ front. IsPrefix front (lines_text b.lines)) → (k x y : ℕ) → FailsInLine b.lines r q x y
    → HasPartRun machine_swaps (setting_of s.conf) (first_world s.linked s.conf input b) j c c r q (counts k k x y 0)
in_opening s b input j c r q left g k x y f = record {
  texts = InOpening (λ t e. e ∙ ap Some (sym (append-nil t))) g;
  room = tt;
  input = left;
  hands = record {
    to_console = refl;
    in_line = record { whole = f.whole; failed = f.failed; rest = f.rest; splits = f.splits; to_report = f.to_report; puts = omega (arith, f.puts) };
  };
}

-- what a session's run shows where it has no first step
pub fails_run : (s : Session) (blocks : ℕ) (i c r q : Option (List ℕ)) (e : Type 0) (k before now : ℕ) (answer : Status) → FailsToBegin s r q before now answer
    → ShowsRun Run s blocks i i c c r q e (counts k k before now 0) answer
fails_run s blocks i c r q e k before now status.SinkFault f = λ input left. record {
  start = start_of s input f.0.built;
  starts = has_started s input f.0.built f.0.starts;
  runs = in_opening s f.0.built input i c r q left f.0.to_report k before now f.1;
}
fails_run s blocks i c r q e k before now status.NoMemory f = record { input = refl; console = refl; report = f }
fails_run s blocks i c r q e k before now (status.BadModule name fault) f = record { input = refl; console = refl; report = f }
fails_run s blocks i c r q e k before now status.Fine f = absurd f
fails_run s blocks i c r q e k before now status.BadWords f = absurd f
fails_run s blocks i c r q e k before now (status.NoFile name) f = absurd f
fails_run s blocks i c r q e k before now (status.BadMachine fault) f = absurd f
fails_run s blocks i c r q e k before now status.FileFault f = absurd f
fails_run s blocks i c r q e k before now status.InputFault f = absurd f
fails_run s blocks i c r q e k before now status.NoRoom f = absurd f
fails_run s blocks i c r q e k before now status.SwapFull f = absurd f
fails_run s blocks i c r q e k before now status.SwapFault f = absurd f

-- what its status says of the counts: only a sink may have failed
module _ (s : Session) (r q : Option (List ℕ)) (before now : ℕ) (P : Type 0) where
  pub begin_input : (answer : Status) → FailsToBegin s r q before now answer → OnInputFault answer P
  begin_input status.SinkFault h = tt
  begin_input status.NoMemory h = tt
  begin_input (status.BadModule n f) h = tt
  begin_input status.InputFault h = absurd h
  begin_input status.SwapFault h = tt
  begin_input status.Fine h = tt
  begin_input status.BadWords h = tt
  begin_input (status.NoFile n) h = tt
  begin_input (status.BadMachine f) h = tt
  begin_input status.FileFault h = tt
  begin_input status.NoRoom h = tt
  begin_input status.SwapFull h = tt

  pub begin_swap : (answer : Status) → FailsToBegin s r q before now answer → OnSwapFault answer P
  begin_swap status.SinkFault h = tt
  begin_swap status.NoMemory h = tt
  begin_swap (status.BadModule n f) h = tt
  begin_swap status.InputFault h = tt
  begin_swap status.SwapFault h = absurd h
  begin_swap status.Fine h = tt
  begin_swap status.BadWords h = tt
  begin_swap (status.NoFile n) h = tt
  begin_swap (status.BadMachine f) h = tt
  begin_swap status.FileFault h = tt
  begin_swap status.NoRoom h = tt
  begin_swap status.SwapFull h = tt

pub begin_sink : (P Q : Type 0) (answer : Status) → OnSinkFault answer Q → OnSinkFault answer (P ⊎ Q)
begin_sink P Q status.SinkFault h = inr h
begin_sink P Q status.NoMemory h = tt
begin_sink P Q (status.BadModule n f) h = tt
begin_sink P Q status.InputFault h = tt
begin_sink P Q status.SwapFault h = tt
begin_sink P Q status.Fine h = tt
begin_sink P Q status.BadWords h = tt
begin_sink P Q (status.NoFile n) h = tt
begin_sink P Q (status.BadMachine f) h = tt
begin_sink P Q status.FileFault h = tt
begin_sink P Q status.NoRoom h = tt
begin_sink P Q status.SwapFull h = tt

-- a refusal of a start, as it is told
begin_refused_by : (s : Session) (r q : Option (List ℕ)) (before now : ℕ) (pid : ℕ) (fault : ModuleFault) (answer : OpenFault) → q ≡ r
    → Tells answer (start_refusal s.conf s.linked.programs pid fault) → FailsToBegin s r q before now (status_by answer)
begin_refused_by s r q before now pid fault open_fault.NoMemory same t = same
begin_refused_by s r q before now pid fault (open_fault.BadModule name f) same t = same
begin_refused_by s r q before now pid fault (open_fault.NoFile name) same t = absurd (cc)
begin_refused_by s r q before now pid fault (open_fault.BadMachine f) same t = absurd (cc)
begin_refused_by s r q before now pid fault open_fault.FileFault same t = absurd (cc)

pub begin_refused : (s : Session) (r q : Option (List ℕ)) (before now : ℕ) (pid : ℕ) (fault : ModuleFault) (answer : OpenFault) (told : Status) → told ≡ status_by answer → q ≡ r
    → Tells answer (start_refusal s.conf s.linked.programs pid fault) → FailsToBegin s r q before now told
begin_refused s r q before now pid fault answer told is same t = subst (λ (a : Status). FailsToBegin s r q before now a) (sym is) (begin_refused_by s r q before now pid fault answer same t)

-- and as the first refusal of the run
start_refused_by : (s : Session) (pid : ℕ) (fault : ModuleFault) (answer : OpenFault) → starting s.linked s.conf ≡ Err (pid, fault) → Tells answer (start_refusal s.conf s.linked.programs pid fault) → RefusesRun s (status_by answer)
start_refused_by s pid fault open_fault.NoMemory e t = tt
start_refused_by s pid fault (open_fault.BadModule name f) e t = λ input. is_refused s input (pid, fault) e ∙ ap Err (sym t)
start_refused_by s pid fault (open_fault.NoFile name) e t = absurd (cc)
start_refused_by s pid fault (open_fault.BadMachine f) e t = absurd (cc)
start_refused_by s pid fault open_fault.FileFault e t = absurd (cc)

pub start_refused : (s : Session) (pid : ℕ) (fault : ModuleFault) (answer : OpenFault) (told : Status) → told ≡ status_by answer
    → starting s.linked s.conf ≡ Err (pid, fault) → Tells answer (start_refusal s.conf s.linked.programs pid fault) → RefusesRun s told
start_refused s pid fault answer told is e t = subst (λ (a : Status). RefusesRun s a) (sym is) (start_refused_by s pid fault answer e t)

-- where nothing opens, nothing is taken or put
untouched_by : (words : List (String Global)) (may : Possible) (blocks : ℕ) (i c r : Option (List ℕ)) (z : Type 0) (n : Counts) (fault : OpenFault) → Shows words may blocks i i c c r r z n (status_by fault)
untouched_by words may blocks i c r z n (open_fault.NoFile name) = record { input = refl; console = refl; report = refl }
untouched_by words may blocks i c r z n (open_fault.BadMachine f) = record { input = refl; console = refl; report = refl }
untouched_by words may blocks i c r z n (open_fault.BadModule name f) = record { input = refl; console = refl; report = refl }
untouched_by words may blocks i c r z n open_fault.FileFault = record { input = refl; console = refl; report = refl }
untouched_by words may blocks i c r z n open_fault.NoMemory = record { input = refl; console = refl; report = refl }

pub untouched : (words : List (String Global)) (may : Possible) (blocks : ℕ) (i c r : Option (List ℕ)) (z : Type 0) (n : Counts) (fault : OpenFault) (answer : Status) → answer ≡ status_by fault → Shows words may blocks i i c c r r z n answer
untouched words may blocks i c r z n fault answer is = subst (λ (a : Status). Shows words may blocks i i c c r r z n a) (sym is) (untouched_by words may blocks i c r z n fault)

-- what a run with a fault shows: the report's last put failed behind the start, and the lines of the start were put before
module _ (s : Session) (blocks : ℕ) (i j c d r q : Option (List ℕ)) (e : Type 0) (u v x y z : ℕ) (stands : Setting → World → Type 0) (since : Type 0) (later : since → e) where
  abbrev pub Faulted : Fault → Type 0
  Faulted f = (input : List ℕ) → i ≡ Some input
      → StartsWith s input (λ o. (y ≡ x + length o.world.lines) × HasTexts (stands o.setting) machine_swaps blocks o.setting o.world j c d r q since (counts u v y z (length o.world.lines)) (Err f))

  faulted_stop : (why : Stop) → Faulted (Stopped why) → StopsRun Run s blocks i j c d r q e (counts u v x z 0) why
  faulted_stop why ran = λ input left.
      let o = ran input left in
      record { start = o.start; starts = o.starts; runs = stopped_from machine_swaps blocks o.start.setting o.start.world why j c d r q since e later u v x y z (length o.start.world.lines) o.runs.0 o.runs.1.0 }

  by_fault : (f : Fault) → Faulted f → ShowsRun Run s blocks i j c d r q e (counts u v x z 0) (status_of f)
  by_fault Sink ran = λ input left.
      let o = ran input left in record { start = o.start; starts = o.starts; runs = part_from machine_swaps o.start.setting o.start.world j c d r q u v x y z (length o.start.world.lines) o.runs.0 o.runs.1.0 }
  by_fault (Stopped Input) ran = faulted_stop Input ran
  by_fault (Stopped NoRoom) ran = faulted_stop NoRoom ran
  by_fault (Stopped SwapFull) ran = faulted_stop SwapFull ran
  by_fault (Stopped SwapFault) ran = faulted_stop SwapFault ran

  pub faulted_run : (f : Fault) (answer : Status) → answer ≡ status_of f → Faulted f → ShowsRun Run s blocks i j c d r q e (counts u v x z 0) answer
  faulted_run f answer is ran = subst (λ (a : Status). ShowsRun Run s blocks i j c d r q e (counts u v x z 0) a) (sym is) (by_fault f ran)

abbrev pub load_started : List ℕ → Result Session OpenFault → Result Opened OpenFault
load_started input r = r >>= (λ s. started s input)

-- what a session's run shows as `run`, it shows as `exe`
pub shown_either : (verb : Verb) (s : Session) (blocks : ℕ) (i j c d r q : Option (List ℕ)) (e : Type 0) (n : Counts) (answer : Status) → (verb ≡ Exe) ⊎ (verb ≡ Run)
    → ShowsRun Run s blocks i j c d r q e n answer → ShowsRun verb s blocks i j c d r q e n answer
shown_either verb s blocks i j c d r q e n answer (inl exe) t = subst (λ (v : Verb). ShowsRun v s blocks i j c d r q e n answer) (sym exe) (as_exe answer t)
  where
    as_exe : (answer : Status) → ShowsRun Run s blocks i j c d r q e n answer → ShowsRun Exe s blocks i j c d r q e n answer
    as_exe status.Fine t = t
    as_exe status.SinkFault t = t
    as_exe status.InputFault t = t
    as_exe status.NoRoom t = t
    as_exe status.SwapFull t = t
    as_exe status.SwapFault t = t
    as_exe status.NoMemory t = t
    as_exe (status.BadModule n f) t = t
    as_exe status.BadWords t = absurd t
    as_exe (status.NoFile n) t = absurd t
    as_exe (status.BadMachine f) t = absurd t
    as_exe status.FileFault t = absurd t
shown_either verb s blocks i j c d r q e n answer (inr run) t = subst (λ (v : Verb). ShowsRun v s blocks i j c d r q e n answer) (sym run) t

-- a refusal of a command that starts
first_of : (verb : Verb) (contents : Contents) (name input : List ℕ) (f : OpenFault) → ((verb ≡ Check) → ⊥) → opened verb contents name input ≡ Err f → IsFirst verb contents name input f
first_of Exe contents name input f starts e = e
first_of Run contents name input f starts e = e
first_of Check contents name input f starts e = absurd (starts refl)
first_of Dump contents name input f starts e = e
first_of (Bench count) contents name input f starts e = e

module _ (words : List (String Global)) (may : Possible) (blocks : ℕ) (i j c d r q : Option (List ℕ)) (e : Type 0) (n : Counts) (verb : Verb) (name : List ℕ) (s : Session) (command : IsCommandFor words verb name)
    (loads : (contents : Contents) → may contents → loaded verb contents name ≡ Ok s) where
  opens : (contents : Contents) (input : List ℕ) (P : Verb → Opened → Type 0) → may contents → StartsWith s input (P verb) → Opens words contents input P
  opens contents input P is st = record { verb = verb; name = name; command = command; start = st.start; opens = ap (load_started input) (loads contents is) ∙ st.starts; runs = st.runs }

  -- what a session's run shows is what its command shows
  pub shown : (answer : Status) → ShowsRun verb s blocks i j c d r q e n answer → Shows words may blocks i j c d r q e n answer
  shown status.Fine t = λ runs contents input is left. opens contents input _ is (t input left)
  shown status.SinkFault t = λ runs contents input is left. opens contents input _ is (t input left)
  shown status.InputFault t = λ runs contents input is left. opens contents input _ is (t input left)
  shown status.NoMemory t = t
  shown (status.BadModule n f) t = t
  shown status.BadWords t = absurd t
  shown (status.NoFile n) t = absurd t
  shown (status.BadMachine f) t = absurd t
  shown status.FileFault t = absurd t
  shown status.NoRoom t = λ runs contents input is left. opens contents input _ is (t input left)
  shown status.SwapFull t = λ runs contents input is left. opens contents input _ is (t input left)
  shown status.SwapFault t = λ runs contents input is left. opens contents input _ is (t input left)

-- and what it refuses is what its command refuses, but for `check`
module _ (words : List (String Global)) (may : Possible) (verb : Verb) (name : List ℕ) (s : Session) (command : IsCommandFor words verb name)
    (loads : (contents : Contents) → may contents → loaded verb contents name ≡ Ok s) where
  pub refused : (starts : (verb ≡ Check) → ⊥) (answer : Status) → RefusesRun s answer → TopRefuses words may answer
  refused starts status.Fine t = (verb, name, command)
  refused starts status.SinkFault t = (verb, name, command)
  refused starts status.InputFault t = (verb, name, command)
  refused starts status.NoRoom t = (verb, name, command)
  refused starts status.SwapFull t = (verb, name, command)
  refused starts status.SwapFault t = (verb, name, command)
  refused starts status.NoMemory t = (verb, name, command)
  refused starts (status.BadModule n f) t = record { verb = verb; name = name; command = command; refused = λ contents input is. first_of verb contents name input _ starts (ap (load_started input) (loads contents is) ∙ t input) }
  refused starts status.BadWords t = absurd t
  refused starts (status.NoFile n) t = absurd t
  refused starts (status.BadMachine f) t = absurd t
  refused starts status.FileFault t = absurd t

-- a run tells of no file
pub no_file_fault : (s : Session) (P : Type 0) (answer : Status) → RefusesRun s answer → OnFileFault answer P
no_file_fault s P status.FileFault t = absurd t
no_file_fault s P status.Fine t = tt
no_file_fault s P status.BadWords t = tt
no_file_fault s P (status.NoFile n) t = tt
no_file_fault s P (status.BadMachine f) t = tt
no_file_fault s P (status.BadModule n f) t = tt
no_file_fault s P status.InputFault t = tt
no_file_fault s P status.SinkFault t = tt
no_file_fault s P status.NoRoom t = tt
no_file_fault s P status.SwapFull t = tt
no_file_fault s P status.SwapFault t = tt
no_file_fault s P status.NoMemory t = tt
