-- No change uses a name twice, and so no step does.
use Rattle.std.proofs.Common.{◌≡◌, ℕ, ◌<◌, ◌==◌, Bool, true, false, List, [], ◌∷◌, Option, Some, None, if◌then◌else◌, ap, sym, ◌∙◌, arith}
use Rattle.std.specs.Prelude.{is_some}
use Rattle.std.specs.List.{list_any}
use Rattle.o2_conf.specs.Dispatch.{Dispatch}
use Rattle.o2_world.specs.Map.{get}
use Rattle.o2_world.specs.World.{World, Setting, Process, Segment}
use Rattle.o2_world.specs.Holders.{process_at}
use Rattle.o2_world.specs.Changes.{Change, Makes, Resizes, Locks, Marks, Holds, Drops, Finishes, Reserves, Frees, Names, marked, takes, resized, with_segment, with_change, with_changes, swept, with_all}
use Rattle.o2_world.specs.Calls.{Effect}
use Rattle.o2_world.specs.Effect.{effect}
use Rattle.o2_world.specs.Run.{before, worked, changed, all_changes, acted, step, chosen_step, is_over, next_dispatch, ready, with_word}
use Rattle.o2_world.specs.NewNames.{UsesNewNames}
use Rattle.o2_world.proofs.MapLemmas.{if_no}
use Rattle.o2_world.proofs.Keeps.{bytes_there}
use Rattle.o2_world.proofs.Words.{ready_keeps}
use Rattle.o2_world.proofs.Discarding.{lives_still}
use Rattle.o2_world.proofs.TiedChanges.{lives_same}
use Rattle.o2_world.proofs.TiedSteps.{kept_live}

same : (w : World) → UsesNewNames w w
same w = record { next = omega arith; lives = λ q below e. e }

then_new : (u v w : World) → UsesNewNames u v → UsesNewNames v w → UsesNewNames u w
then_new u v w a b = record {
  next = let x = a.next in let y = b.next in omega (arith, x, y);
  lives = λ q below e. a.lives q below (b.lives q (let x = a.next in omega (arith, below, x)) e);
}

-- one change
segment_new : (w : World) (n : ℕ) (f : Segment → Segment) → UsesNewNames w (with_segment w n f)
segment_new w n f = record { next = omega arith; lives = λ q below e. sym (lives_same w.names n q f) ∙ e }

not_new : (n q : ℕ) → q < n → (n == q) ≡ false
not_new n q below = grind arith

makes_new : (w : World) (s : Segment) → UsesNewNames w (with_change w (Makes s))
makes_new w s = record {
  next = omega arith;
  lives = λ q below e. sym (ap is_some (if_no (w.next_name == q) (Some s) (get w.names q) (not_new w.next_name q below))) ∙ e;
}

change_new : (w : World) (c : Change) → UsesNewNames w (with_change w c)
change_new w (Makes s) = makes_new w s
change_new w (Resizes n size) = segment_new w n (λ (s : Segment). record s { bytes = resized size s.bytes })
change_new w (Locks n count) = segment_new w n (λ (s : Segment). record s { lock = count })
change_new w (Marks n d) = segment_new w n (marked d)
change_new w (Holds p i h) = record { next = omega arith; lives = λ q below e. e }
change_new w (Drops p i count) = record { next = omega arith; lives = λ q below e. e }
change_new w (Finishes p state) = record { next = omega arith; lives = λ q below e. e }
change_new w (Reserves r) = record { next = omega arith; lives = λ q below e. e }
change_new w (Frees region first) = record { next = omega arith; lives = λ q below e. e }
change_new w (Names text name) = record { next = omega arith; lives = λ q below e. e }

-- all changes of a step
changes_new : (w : World) (cs : List Change) → UsesNewNames w (with_changes w cs)
unfolding with_changes
changes_new w [] = same w
changes_new w (c ∷ cs) = then_new w (with_change w c) (with_changes (with_change w c) cs) (change_new w c) (changes_new (with_change w c) cs)

swept_new : (w : World) → UsesNewNames w (swept w)
swept_new w = record { next = omega arith; lives = λ q below e. (kept_live w.processes w.names q e).1 }

all_new : (w : World) (cs : List Change) → UsesNewNames w (with_all w cs)
all_new w cs = go (list_any takes cs)
  where
    go : (b : Bool) → UsesNewNames w (if b then swept (with_changes w cs) else with_changes w cs)
    go true = then_new w (with_changes w cs) (swept (with_changes w cs)) (changes_new w cs) (swept_new (with_changes w cs))
    go false = changes_new w cs

worked_new : (w : World) (d : Dispatch) (p : Process) (e : Effect) → UsesNewNames w (worked w d p e)
worked_new w d p e = record { next = omega arith; lives = λ q below x. sym (bytes_there w.names e.bytes q) ∙ x }

pub changed_new : (w : World) (d : Dispatch) (p : Process) (e : Effect) → UsesNewNames w (changed w d p e)
unfolding changed
changed_new w d p e = then_new w (worked w d p e) (with_all (worked w d p e) (all_changes d.current e)) (worked_new w d p e) (all_new (worked w d p e) (all_changes d.current e))

acted_new : (s : Setting) (w : World) (d : Dispatch) (o : Option Process) → UsesNewNames w (acted s w d o)
acted_new s w d None = same w
acted_new s w d (Some p) = changed_new w d p (effect (before s w d.current p))

-- a word uses no name
word_new : (u w : World) → UsesNewNames u w → UsesNewNames u (with_word w)
word_new u w h = record { next = h.next; lives = λ q below e. h.lives q below (sym (lives_still w.processes w.names q) ∙ e) }

pub step_new : (s : Setting) (w : World) → UsesNewNames w (step s w)
unfolding step
step_new s w = go (is_over w)
  where
    go : (b : Bool) → UsesNewNames w (if b then w else chosen_step s (ready w))
    go true = same w
    go false =
        let v = ready w in
        then_new w v (chosen_step s v) (ready_keeps {P = UsesNewNames w} (word_new w) w (same w))
        (acted_new s v (next_dispatch s v) (process_at v.processes (next_dispatch s v).current))
