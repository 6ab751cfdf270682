-- The events of a run tell what it writes and which lines it has.
use Rattle.std.proofs.Common.{◌≡◌, refl, sym, ◌∙◌, ap, ℕ, zero, suc, Bool, true, false, cond, List, [], ◌∷◌, ◌++◌}
use Rattle.std.specs.Prelude.{Option, Some, None, Result, Ok, Err, option_map}
use Rattle.std.specs.List.{list_any}
use Rattle.std.proofs.lemmas.Grind.{flat_map-append}
use Rattle.std.proofs.lemmas.List.{append-nil, append_assoc}
use Rattle.o2_base.specs.declared.faults.ModuleFault.{ModuleFault}
use Rattle.o2_conf.specs.Dispatch.{Dispatch}
use Rattle.o2_world.specs.World.{Line, Process, Setting, World}
use Rattle.o2_world.specs.Holders.{process_at}
use Rattle.o2_world.specs.CallParts.{Before, Effect}
use Rattle.o2_world.specs.Changes.{Change, Makes, Resizes, Locks, Marks, Holds, Drops, Finishes, Reserves, Frees, Names, swept, takes, with_all, with_change, with_changes}
use Rattle.o2_world.specs.Effect.{effect}
use Rattle.o2_world.specs.Run.{acted, after, all_changes, before, changed, console, is_over, next_dispatch, ready, step, worked}
use Rattle.o2_world.specs.Starts.{Built, Start, started_as, where_started}
use Rattle.o2_world.proofs.Keeps.{over_stays}
use Rattle.o2_world.proofs.MapLemmas.{if_no, if_yes}
use Rattle.o2_world.proofs.StepSound.{next_process}
use Rattle.o2_world.proofs.Words.{StaysBehind, next_ready, ready_stays, step_runs}
use Rattle.o2_alone.specs.Alone.{before_it, opening_alone}
use Rattle.o2_alone.specs.Events.{Event, chosen_before, event_list, events, events_of, next_before, own_steps}
use Rattle.o2_isolation.specs.Strangers.{IsStranger, StaysApart}
use Rattle.o2_cli_laws.specs.Texts.{lines_in, pieces_in}

-- Both texts of a world.
record AreTexts (w : World) (written : List ℕ) (told : List Line) : Type 0 where
  console : w.console ≡ written
  lines : w.lines ≡ told

same : (w : World) → AreTexts w w.console w.lines
same w = record { console = refl; lines = refl }

one_change : (w : World) (c : Change) → AreTexts (with_change w c) w.console w.lines
one_change w (Makes s) = record { console = refl; lines = refl }
one_change w (Resizes n size) = record { console = refl; lines = refl }
one_change w (Locks n count) = record { console = refl; lines = refl }
one_change w (Marks n discarded) = record { console = refl; lines = refl }
one_change w (Holds p i h) = record { console = refl; lines = refl }
one_change w (Drops p i count) = record { console = refl; lines = refl }
one_change w (Finishes p state) = record { console = refl; lines = refl }
one_change w (Reserves r) = record { console = refl; lines = refl }
one_change w (Frees region first) = record { console = refl; lines = refl }
one_change w (Names text n) = record { console = refl; lines = refl }

some_changes : (w : World) (cs : List Change) → AreTexts (with_changes w cs) w.console w.lines
unfolding with_changes
some_changes w [] = same w
some_changes w (c ∷ cs) =
    let rest = some_changes (with_change w c) cs in
    let one = one_change w c in
    record { console = rest.console ∙ one.console; lines = rest.lines ∙ one.lines }

swept_texts : (t : Bool) (w : World) → AreTexts (cond t (swept w) w) w.console w.lines
swept_texts true w = record { console = refl; lines = refl }
swept_texts false w = record { console = refl; lines = refl }

all_texts : (w : World) (cs : List Change) → AreTexts (with_all w cs) w.console w.lines
all_texts w cs =
    let swept = swept_texts (list_any takes cs) (with_changes w cs) in
    let changes = some_changes w cs in
    record { console = swept.console ∙ changes.console; lines = swept.lines ∙ changes.lines }

-- A step.

one_step : (s : Setting) (w : World) → AreTexts (step s w) (w.console ++ pieces_in (event_list (next_before s w))) (w.lines ++ lines_in (event_list (next_before s w)))
unfolding changed
one_step s w = by_end (is_over w) refl
  where
    by_end : (t : Bool) → is_over w ≡ t → AreTexts (step s w) (w.console ++ pieces_in (event_list (next_before s w))) (w.lines ++ lines_in (event_list (next_before s w)))
    by_end true over =
        let stays = over_stays s w over in
        let none : next_before s w ≡ None = if_yes (is_over w) None (chosen_before s (ready w) (next_dispatch s w)) over in
        record {
          console = ap (λ (v : World). v.console) stays ∙ (sym (append-nil w.console) ∙ ap (λ (o : Option Before). w.console ++ pieces_in (event_list o)) (sym none));
          lines = ap (λ (v : World). v.lines) stays ∙ (sym (append-nil w.lines) ∙ ap (λ (o : Option Before). w.lines ++ lines_in (event_list o)) (sym none));
        }
    by_end false runs =
        let here = next_process s w runs in
        moved here.0 (ap (λ (ps : List Process). process_at ps d.current) behind.processes ∙ here.1)
      where
        v : World
        v = ready w

        d : Dispatch
        d = next_dispatch s w

        behind : StaysBehind w (ready w)
        behind = ready_stays w

        moved : (p : Process) → process_at v.processes d.current ≡ Some p
            → AreTexts (step s w) (w.console ++ pieces_in (event_list (next_before s w))) (w.lines ++ lines_in (event_list (next_before s w)))
        moved p at =
            let e : Effect = effect (before s v d.current p) in
            let texts = all_texts (worked v d p e) (all_changes d.current e) in
            let next : next_before s w ≡ Some (before s v d.current p) = if_no (is_over w) None (chosen_before s v d) runs ∙ ap (option_map (before s v d.current)) at in
            let is : step s w ≡ changed v d p e =
            step_runs s w runs ∙ (ap (λ (x : Dispatch). acted s v x (process_at v.processes x.current)) (next_ready s w) ∙ ap (acted s v d) at) in
            record {
              console = ap (λ (u : World). u.console) is ∙ (texts.console ∙ (ap (λ (bs : List ℕ). bs ++ e.piece) behind.console
                  ∙ (ap (λ (bs : List ℕ). w.console ++ bs) (sym (append-nil e.piece)) ∙ ap (λ (o : Option Before). w.console ++ pieces_in (event_list o)) (sym next))));
              lines = ap (λ (u : World). u.lines) is ∙ (texts.lines ∙ (ap (λ (ls : List Line). ls ++ e.lines) behind.lines
                  ∙ (ap (λ (ls : List Line). w.lines ++ ls) (sym (append-nil e.lines)) ∙ ap (λ (o : Option Before). w.lines ++ lines_in (event_list o)) (sym next))));
            }

-- The run.

run_texts : (s : Setting) (w : World) (k : ℕ) → AreTexts (after s w k) (w.console ++ pieces_in (events s w k)) (w.lines ++ lines_in (events s w k))
unfolding events
run_texts s w zero = record { console = sym (append-nil w.console); lines = sym (append-nil w.lines) }
run_texts s w (suc k) =
    let so_far = run_texts s w k in
    let one = one_step s (after s w k) in
    let last : List Event = event_list (next_before s (after s w k)) in
    record {
      console = one.console ∙ (ap (λ (bs : List ℕ). bs ++ pieces_in last) so_far.console
          ∙ (append_assoc w.console (pieces_in (events s w k)) (pieces_in last) ∙ ap (λ (bs : List ℕ). w.console ++ bs) (sym (flat_map-append (λ (x : Event). x.piece) (events s w k) last))));
      lines = one.lines ∙ (ap (λ (ls : List Line). ls ++ lines_in last) so_far.lines
          ∙ (append_assoc w.lines (lines_in (events s w k)) (lines_in last) ∙ ap (λ (ls : List Line). w.lines ++ ls) (sym (flat_map-append (λ (x : Event). x.lines) (events s w k) last))));
    }

pub console_told : (s : Setting) (w : World) (k : ℕ) → console (after s w k) ≡ console w ++ pieces_in (events s w k)
console_told s w k = (run_texts s w k).console

pub lines_told : (s : Setting) (w : World) (k : ℕ) → (after s w k).lines ≡ w.lines ++ lines_in (events s w k)
lines_told s w k = (run_texts s w k).lines

-- nothing is written before the first step
begins_unwritten : (s : Setting) (reserved : List (ℕ × ℕ)) (input : List ℕ) (number : ℕ) (start : Start) (alone : World) → opening_alone s reserved input number start ≡ Ok alone → alone.console ≡ []
begins_unwritten s reserved input number start alone = go (started_as s.segments number start (before_it number))
  where
    world_in : Result World (ℕ × ModuleFault) → World
    world_in (Ok x) = x
    world_in (Err fault) = alone

    go : (r : Result Built (ℕ × ModuleFault)) → where_started reserved [] s.budget input r ≡ Ok alone → alone.console ≡ []
    go (Err fault) e = absurd (cc)
    go (Ok b) e = ap (λ (x : World). x.console) (sym (ap world_in e))

pub stranger_writes : (s : Setting) (reserved : List (ℕ × ℕ)) (input : List ℕ) (number : ℕ) (start : Start) (w : World) (run : IsStranger s reserved input number start w) (k : ℕ) → StaysApart s w run.alone number k
    → console (after s run.alone (own_steps s w number k)) ≡ pieces_in (events_of number (events s w k))
stranger_writes s reserved input number start w run k stays =
    console_told s run.alone (own_steps s w number k)
    ∙ (ap (λ (bs : List ℕ). bs ++ pieces_in (events s run.alone (own_steps s w number k))) (begins_unwritten s reserved input number start run.alone run.begins)
    ∙ ap pieces_in (sym (run.isolated k stays).same_events))

pub stranger_tells : (s : Setting) (reserved : List (ℕ × ℕ)) (input : List ℕ) (number : ℕ) (start : Start) (w : World) (run : IsStranger s reserved input number start w) (k : ℕ) → StaysApart s w run.alone number k
    → (after s run.alone (own_steps s w number k)).lines ≡ run.alone.lines ++ lines_in (events_of number (events s w k))
stranger_tells s reserved input number start w run k stays =
    lines_told s run.alone (own_steps s w number k) ∙ ap (λ (es : List Event). run.alone.lines ++ lines_in es) (sym (run.isolated k stays).same_events)
