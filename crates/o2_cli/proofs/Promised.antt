-- All that a command promises, from what was opened and from what was done with it.
use Rattle.std.proofs.Common.{◌≡◌, ◌⊎◌, ◌∙◌, ℕ, List, Option, Some, IsTrue, ap, inl, refl, subst, sym}
use Rattle.std.specs.Prelude.{Ok, String}
use Rattle.std.specs.declared.alloc.Global.{Global}
use Rattle.o2_conf.specs.Limits.{IsWithinLimits}
use Rattle.o2_outer.proofs.Inputs.{goes_same, may_be_given}
use Rattle.o2_outer.specs.Inputs.{GoesOn, left_as}
use Rattle.o2_outer.specs.Texts.{Rose}
use Rattle.o2_words.specs.declared.words.Verb.{Verb}
use Rattle.o2_words.specs.declared.words.Verb.TheVariants.{Exe, Run, Check, Dump, Bench}
use Rattle.o2_words.specs.Words.{IsCommand, IsCommandFor}
use Rattle.o2_open.specs.declared.fault.OpenFault.{OpenFault}
use Rattle.o2_open.specs.declared.session.Session.{Session}
use Rattle.o2_open.specs.Loads.{Contents, Fails, IsLinked, Refuses as OpenRefuses, loaded}
use Rattle.o2_open.proofs.Asking.{asks_none}
use Rattle.o2_open.specs.Names.{AsksFirst, names_in}
use Rattle.o2_cli.specs.declared.status.Status.{Status}
use Rattle.o2_cli.specs.declared.status.Status.TheVariants as status
use Rattle.o2_cli.specs.Checks.{Checks}
use Rattle.o2_cli.specs.Promises.{Promises}
use Rattle.o2_cli.specs.Sessions.{ActsAs, ChecksAs, RunsAs}
use Rattle.o2_cli.specs.Sides.{FileSides, InputSides, SinkSides, SwapSides, AreSame, SinkFailedLast, SinkRose, InputRose, SwapRose, both_puts, left_before}
use Rattle.o2_cli.specs.Statuses.{status_by}
use Rattle.o2_cli.specs.Top.{IsBench, OnFileFault, OnInputFault, OnSinkFault, OnSwapFault, Refuses, Shows}
use Rattle.o2_cli.proofs.Ample.{ample_status, starts_from, unswapped_open}
use Rattle.o2_cli.proofs.Checked.{bench_is, check_faults, lines_of_check, name_is, no_check, quiet, refused_lines, refused_open, texts_of_check, unstarted, untried, verb_is}
use Rattle.o2_cli.proofs.Completed.{check_completes, completes, open_completes, open_file_fault, open_input_fault, open_sink_fault, open_swap_fault}
use Rattle.o2_cli.proofs.Memory.{memory_first}
use Rattle.o2_cli.proofs.Reaching.{command_reaches, on_opened, unopened}
use Rattle.o2_cli.proofs.Runs.{no_file_fault, refused, shown, untouched}
use Rattle.o2_cli.proofs.Sessions.{on_unrun, sink_first, still_files, still_input, still_sink, still_swap, unrun_so}

module _ {F I C R S : Type 0} (words : List (String Global)) (f : FileSides F) (i : InputSides I) (c : SinkSides C) (r : SinkSides R) (s : SwapSides S) where
  abbrev all_same : AreSame (still_input i) (still_sink c) (still_sink r) (still_swap s)
  all_same = record { input = refl; console = refl; report = refl; swap = refl }

  -- the words are no command
  pub no_command : (IsCommand words → ⊥) → Promises words (still_files f) (still_input i) (still_sink c) (still_sink r) (still_swap s) status.BadWords
  no_command none = record {
    refused = none;
    texts = λ told text seen. record { input = refl; console = refl; report = refl };
    some_text = may_be_given (i.past i.old);
    goes_on = goes_same (i.past i.old);
    reach = tt;
    lines = λ name check. refl;
    checks = λ check. record { at_once = tt; unstarted = tt; quietly = refl; unread = refl; unswapped = refl };
    complete = λ told text seen runs contents input is left o. absurd (none (o.verb, o.name, o.command));
    check_complete = λ contents name session is command links. absurd (none (Check, name, command));
    ample = λ told text seen runs contents input is left o. (refl, tt);
    memory_first = λ more. tt;
    same = all_same;
    benches_unread = λ bench. refl;
    fetches = λ verb operand command contents may. asks_none _ _ _ refl;
    unfetched = λ none. refl;
    files_earlier = λ contents may. may;
    swap_blocks = refl;
    swap_told = λ told. told;
    file_fault = tt;
    input_fault = tt;
    sink_fault = tt;
    swap_fault = tt;
  }

  -- there was no memory for the words
  pub no_memory_first : IsCommand words → Promises words (still_files f) (still_input i) (still_sink c) (still_sink r) (still_swap s) status.NoMemory
  no_memory_first is_command = record {
    refused = is_command;
    texts = λ told text seen. record { input = refl; console = refl; report = refl };
    some_text = may_be_given (i.past i.old);
    goes_on = goes_same (i.past i.old);
    reach = tt;
    lines = λ name check. refl;
    checks = λ check. record { at_once = tt; unstarted = tt; quietly = refl; unread = refl; unswapped = refl };
    complete = λ told text seen runs contents input is left o nf ni ns nd. tt;
    check_complete = λ contents name session is command links nf ns. tt;
    ample = λ told text seen runs contents input is left o. (refl, tt);
    memory_first = memory_first r.puts c.puts _ _ _ _ status.NoMemory refl refl;
    same = all_same;
    benches_unread = λ bench. refl;
    fetches = λ verb operand command contents may. asks_none _ _ _ refl;
    unfetched = λ none. refl;
    files_earlier = λ contents may. may;
    swap_blocks = refl;
    swap_told = λ told. told;
    file_fault = tt;
    input_fault = tt;
    sink_fault = tt;
    swap_fault = tt;
  }

  module _ (verb : Verb) (name : List ℕ) (command : IsCommandFor words verb name)
      (earlier : (contents : Contents) → f.may_hold f.new contents → f.may_hold f.old contents) (unread : (n : ℕ) → verb ≡ Bench n → f.new ≡ f.old)
      (asks : (contents : Contents) → f.may_hold f.new contents → AsksFirst (names_in verb contents name) (f.asked f.old) (f.asked f.new)) where
    -- words are one command
    fetching : (other : Verb) (operand : List ℕ) → IsCommandFor words other operand → (contents : Contents) → f.may_hold f.new contents
        → AsksFirst (names_in other contents operand) (f.asked f.old) (f.asked f.new)
    fetching other operand is contents may =
        subst (λ (v : Verb). AsksFirst (names_in v contents operand) (f.asked f.old) (f.asked f.new)) (verb_is words verb other name operand command is)
        (subst (λ (n : List ℕ). AsksFirst (names_in verb contents n) (f.asked f.old) (f.asked f.new)) (name_is words verb other name operand command is) (asks contents may))

    no_reading : IsBench words → f.new ≡ f.old
    no_reading bench = let is = bench_is words verb name command bench in unread is.0 is.1

    -- nothing was opened
    pub unopened_promise : (fault : OpenFault) (answer : Status) → answer ≡ status_by fault
        → ((contents : Contents) → f.may_hold f.new contents → Fails fault (loaded verb contents name)) → OpenRefuses (f.faults f.old) (f.faults f.new) fault
        → Promises words f (still_input i) (still_sink c) (still_sink r) (still_swap s) answer
    unopened_promise fault answer is fails refuses = record {
      refused = refused_open words (f.may_hold f.new) verb name command fault answer is fails;
      texts = λ told text seen. untouched _ _ _ _ _ _ _ _ fault answer is;
      some_text = may_be_given (i.past i.old);
      goes_on = goes_same (i.past i.old);
      reach = unopened _ fault answer is;
      lines = quiet words (f.may_hold f.new) (c.taken c.old) fault answer is;
      checks = λ check. record { at_once = untried _ fault answer is; unstarted = unstarted _ _ fault answer is refuses; quietly = refl; unread = refl; unswapped = refl };
      complete = λ told text seen. open_completes words (f.may_hold f.new) _ _ _ _ _ _ _ verb name command fault answer is fails refuses;
      check_complete = check_completes words (f.may_hold f.new) _ (Unit {0}) _ (Unit {0}) _ _ answer
          (refused_open words (f.may_hold f.new) verb name command fault answer is fails)
          (quiet words (f.may_hold f.new) (c.taken c.old) fault answer is) (open_file_fault _ _ fault answer is refuses) (open_sink_fault (f.faults f.old) (f.faults f.new) fault answer is _);
      ample = λ told text seen runs contents input may left o. (refl, unswapped_open _ fault answer is);
      memory_first = memory_first r.puts c.puts _ _ _ _ answer (on_unrun _ refl answer) (on_unrun _ refl answer);
      same = on_unrun _ all_same answer;
      benches_unread = no_reading;
      fetches = fetching;
      unfetched = λ none. absurd (none (verb, name, command));
      files_earlier = earlier;
      swap_blocks = refl;
      swap_told = λ told. told;
      file_fault = open_file_fault _ _ fault answer is refuses;
      input_fault = open_input_fault (f.faults f.old) (f.faults f.new) fault answer is _;
      sink_fault = open_sink_fault (f.faults f.old) (f.faults f.new) fault answer is _;
      swap_fault = open_swap_fault (f.faults f.old) (f.faults f.new) fault answer is _;
    }

    -- a session was opened
    module _ (session : Session) (loads : (contents : Contents) → f.may_hold f.new contents → loaded verb contents name ≡ Ok session)
        (within : IsWithinLimits session.conf) (linked : IsLinked session.conf session.linked) where
      -- and its run came to this
      pub run_promise : ((verb ≡ Check) → ⊥) → (answer : Status) → RunsAs verb session i c r s answer → Promises words f i c r s answer
      run_promise runs answer run = record {
        refused = refused words (f.may_hold f.new) verb name session command loads runs answer run.refused;
        texts = λ told text seen. shown words (f.may_hold f.new) _ _ _ _ _ _ _ _ _ verb name session command loads answer (run.texts told text seen);
        some_text = may_be_given (i.past i.new);
        goes_on = run.goes_on;
        reach = on_opened answer _ (command_reaches session within linked words (f.may_hold f.new) verb name command loads);
        lines = λ other check. absurd (no_check words verb name command runs (other, check));
        checks = λ check. absurd (no_check words verb name command runs check);
        complete = λ told text seen. completes words (f.may_hold f.new) _ _ _ _ _ _ _ _ _ _ _ _ _ answer
            (refused words (f.may_hold f.new) verb name session command loads runs answer run.refused)
            (shown words (f.may_hold f.new) _ _ _ _ _ _ _ _ _ verb name session command loads answer (run.texts told text seen))
            (no_file_fault session _ answer run.refused) run.input_fault run.sink_fault run.swap_fault;
        check_complete = λ contents other found is check. absurd (no_check words verb name command runs (other, check));
        ample = λ told text seen no contents input is left o.
            let same = run.idle told text seen input left (starts_from words contents verb name session command (loads contents is) input _ o) in (
              same,
              ample_status words (f.may_hold f.new) _ _ _ _ _ _ _ _ _ (s.faults s.old) (s.faults s.new) (ap s.faults same) no contents input is left o answer
                  (shown words (f.may_hold f.new) _ _ _ _ _ _ _ _ _ verb name session command loads answer
                  (run.texts (subst (λ (z : S). IsTrue (s.told z)) (sym same) told) text seen)) run.swap_fault,
            );
        memory_first = memory_first r.puts c.puts _ _ _ _ answer (unrun_so _ _ (λ (x : AreSame i c r s). x.report) answer run.same) (unrun_so _ _ (λ (x : AreSame i c r s). x.console) answer run.same);
        same = run.same;
        benches_unread = no_reading;
        fetches = fetching;
        unfetched = λ none. absurd (none (verb, name, command));
        files_earlier = earlier;
        swap_blocks = run.swap_blocks;
        swap_told = run.swap_told;
        file_fault = no_file_fault session _ answer run.refused;
        input_fault = run.input_fault;
        sink_fault = run.sink_fault;
        swap_fault = run.swap_fault;
      }

      -- or its lines were put
      pub check_promise : (verb ≡ Check) → (answer : Status) → ChecksAs session i c r s answer → Promises words f i c r s answer
      check_promise is answer k = record {
        refused = refuses;
        texts = λ told text seen.
            subst (λ (x : I). Shows words (f.may_hold f.new) (s.blocks s.old) (left_before i text) (left_as text (i.left x) (i.past x)) (c.taken c.old) (c.taken c.new) (r.taken r.old) (r.taken r.new) (SinkFailedLast r) (both_puts c r) answer) (sym k.unread)
            (subst (λ (x : R). Shows words (f.may_hold f.new) (s.blocks s.old) (left_before i text) (left_before i text) (c.taken c.old) (c.taken c.new) (r.taken r.old) (r.taken x) (SinkFailedLast r) (both_puts c r) answer) (sym k.quietly)
            (texts_of_check words (f.may_hold f.new) name check session _ _ _ _ _ _ _ answer k.lines));
        some_text = may_be_given (i.past i.new);
        goes_on = subst (λ (x : I). GoesOn (i.past i.old) (i.past x)) (sym k.unread) (goes_same (i.past i.old));
        reach = on_opened answer _ (command_reaches session within linked words (f.may_hold f.new) verb name command loads);
        lines = shows;
        checks = λ asked. record { at_once = k.at_once; unstarted = k.unstarted; quietly = k.quietly; unread = k.unread; unswapped = k.unswapped };
        complete = λ told text seen runs. absurd (runs (name, check));
        check_complete = check_completes words (f.may_hold f.new) _ (Unit {0}) _ (Unit {0}) _ _ answer refuses shows faults.0.0 sink_cause;
        ample = λ told text seen runs. absurd (runs (name, check));
        memory_first = memory_first r.puts c.puts _ _ _ _ answer (on_unrun _ k.quietly answer) k.same_console;
        same = unrun_so _ _ (λ e. record { input = k.unread; console = e; report = k.quietly; swap = k.unswapped }) answer k.same_console;
        benches_unread = no_reading;
        fetches = fetching;
        unfetched = λ none. absurd (none (verb, name, command));
        files_earlier = earlier;
        swap_blocks = ap s.blocks k.unswapped;
        swap_told = λ told. subst (λ (x : S). IsTrue (s.told x)) k.unswapped told;
        file_fault = faults.0.0;
        input_fault = faults.0.1;
        sink_fault = sink_cause;
        swap_fault = faults.1;
      }
        where
          check : IsCommandFor words Check name
          check = subst (λ (v : Verb). IsCommandFor words v name) is command

          found : (contents : Contents) → f.may_hold f.new contents → loaded Check contents name ≡ Ok session
          found contents may = subst (λ (v : Verb). loaded v contents name ≡ Ok session) is (loads contents may)

          refuses : Refuses words (f.may_hold f.new) answer
          refuses = refused_lines words (f.may_hold f.new) verb name command session _ _ answer k.lines

          shows : Checks words (f.may_hold f.new) (c.taken c.old) (c.taken c.new) answer
          shows = lines_of_check words (f.may_hold f.new) name check session _ _ found answer k.lines

          sink_cause : OnSinkFault answer (SinkRose c ⊎ SinkRose r)
          sink_cause = sink_first _ _ answer k.sink_fault

          faults : (OnFileFault answer (Rose (f.faults f.old) (f.faults f.new)) × OnInputFault answer (InputRose i)) × OnSwapFault answer (SwapRose s)
          faults = check_faults session _ _ _ _ _ answer k.lines

      -- whichever command it is
      pub acted : (v : Verb) → verb ≡ v → (answer : Status) → ActsAs v session i c r s answer → Promises words f i c r s answer
      acted Check is answer k = check_promise is answer k
      acted Exe is answer run = run_promise (λ check. let same : Exe ≡ Check = sym is ∙ check in absurd (cc)) answer (subst (λ (v : Verb). RunsAs v session i c r s answer) (sym is) run)
      acted Run is answer run = run_promise (λ check. let same : Run ≡ Check = sym is ∙ check in absurd (cc)) answer (subst (λ (v : Verb). RunsAs v session i c r s answer) (sym is) run)
      acted Dump is answer run = run_promise (λ check. let same : Dump ≡ Check = sym is ∙ check in absurd (cc)) answer (subst (λ (v : Verb). RunsAs v session i c r s answer) (sym is) run)
      acted (Bench count) is answer run =
          run_promise (λ check. let same : Bench count ≡ Check = sym is ∙ check in absurd (cc)) answer (subst (λ (v : Verb). RunsAs v session i c r s answer) (sym is) run)
