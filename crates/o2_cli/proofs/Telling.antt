-- What a command promises over files that tell what they hold, and a device that always tells.
use Rattle.std.proofs.Common.{◌≡◌, ℕ, Bool, true, List, IsTrue, subst}
use Rattle.std.specs.Prelude.{String}
use Rattle.std.specs.declared.alloc.Global.{Global}
use Rattle.o2_open.specs.Loads.{Contents}
use Rattle.o2_cli.specs.declared.status.Status.{Status}
use Rattle.o2_cli.specs.Promises.{IsOnlyCheck, Promises}
use Rattle.o2_cli.specs.Sides.{InputSides, SinkSides, AreSame, file_sides, swap_sides}
use Rattle.o2_cli.specs.Top.{holding}
use Rattle.o2_cli.proofs.Sessions.{unrun_so}

module _ {F I C R S : Type 0} (words : List (String Global)) (contents : F → Contents) (file_asked : F → List (List ℕ)) (file_faults : F → ℕ) (files_old files_new : F)
    (i : InputSides I) (c : SinkSides C) (r : SinkSides R) (blocks : S → ℕ) (told : S → Bool) (faults : S → ℕ) (old new : S) (result : Status)
    (always : (d : S) → IsTrue (told d)) (p : Promises words (file_sides files_old files_new (λ f. holding (contents f)) file_asked file_faults) i c r (swap_sides old new blocks told faults) result) where
  -- over what they hold behind the call
  behind : Promises words (file_sides files_old files_new (λ f. holding (contents files_new)) file_asked file_faults) i c r (swap_sides old new blocks (λ d. true) faults) result
  behind = record {
    refused = p.refused;
    texts = λ tells. p.texts (always new);
    some_text = p.some_text;
    goes_on = p.goes_on;
    reach = p.reach;
    lines = p.lines;
    checks = λ check. let k = p.checks check in record { at_once = k.at_once; unstarted = k.unstarted; quietly = k.quietly; unread = k.unread; unswapped = k.unswapped };
    complete = λ tells. p.complete (always new);
    check_complete = p.check_complete;
    ample = λ tells. p.ample (always old);
    memory_first = p.memory_first;
    same = unrun_so _ _ (λ (x : AreSame i c r (swap_sides old new blocks told faults)). record { input = x.input; console = x.console; report = x.report; swap = x.swap }) result p.same;
    benches_unread = p.benches_unread;
    fetches = p.fetches;
    unfetched = p.unfetched;
    files_earlier = λ held may. may;
    swap_blocks = p.swap_blocks;
    swap_told = λ tells. tells;
    file_fault = p.file_fault;
    input_fault = p.input_fault;
    sink_fault = p.sink_fault;
    swap_fault = p.swap_fault;
  }

  -- which is what they held before it
  pub over_told : contents files_new ≡ contents files_old
      → Promises words (file_sides files_old files_new (λ f. holding (contents files_old)) file_asked file_faults) i c r (swap_sides old new blocks (λ d. true) faults) result
  over_told e =
      subst (λ (held : Contents). Promises words (file_sides files_old files_new (λ f. holding held) file_asked file_faults) i c r (swap_sides old new blocks (λ d. true) faults) result) e behind
