-- The changes of a step, and what nobody holds behind them, keep a world tied, and each live name held.
use Rattle.std.proofs.Common.{◌≡◌, ℕ, Bool, true, false, cond, List, [], ◌∷◌, Some, None, if◌then◌else◌, ap, sym, ◌∙◌, refl}
use Rattle.std.specs.Prelude.{is_some}
use Rattle.std.specs.List.{list_any}
use Rattle.o2_world.specs.Map.{Map, get}
use Rattle.o2_world.specs.World.{World, Process, Segment, Reserve}
use Rattle.o2_world.specs.Holders.{is_held, kept}
use Rattle.o2_world.specs.Changes.{Change, takes, used, is_used, told_of, swept, with_change, with_changes, with_all}
use Rattle.o2_world.specs.Tied.{AreLive, IsTied, has_no_flags, IsSwept, AreUsed, AreFitChanges}
use Rattle.o2_world.proofs.MapLemmas.{get-filter, if_yes, if_no}
use Rattle.o2_world.proofs.Keeps.{held_found}
use Rattle.o2_world.proofs.TiedChanges.{KeepsMarks, still_one, same_marks, change_tied}

pub changes_tied : (w : World) (cs : List Change) → AreFitChanges w cs → IsTied w → IsTied (with_changes w cs)
unfolding with_changes
changes_tied w [] fit tied = tied
changes_tied w (c ∷ cs) fit tied = changes_tied (with_change w c) cs fit.1 (change_tied w c fit.0 tied)

pub kept_was : (ps : List Process) (names : Map Segment) (q : ℕ) (s : Segment) → get (kept ps names) q ≡ Some s → get names q ≡ Some s
kept_was ps names q s e = go (is_held ps q) (sym (get-filter (is_held ps) names q) ∙ e)
  where
    go : (b : Bool) → (if b then get names q else None) ≡ Some s → get names q ≡ Some s
    go true e = e
    go false e = absurd (cc)

no_false : false ≡ true → ⊥
no_false e = cc

pub kept_live : (ps : List Process) (names : Map Segment) (q : ℕ) → is_some (get (kept ps names) q) ≡ true
    → (is_held ps q ≡ true) × (is_some (get names q) ≡ true)
kept_live ps names q e = go (is_held ps q) refl (sym (ap is_some (get-filter (is_held ps) names q)) ∙ e)
  where
    go : (b : Bool) → is_held ps q ≡ b → is_some (if is_held ps q then get names q else None) ≡ true
        → (is_held ps q ≡ true) × (is_some (get names q) ≡ true)
    go true is e = (is, sym (ap is_some (if_yes (is_held ps q) (get names q) None is)) ∙ e)
    go false is e = absurd (no_false (sym (ap is_some (if_no (is_held ps q) (get names q) None is)) ∙ e))

live_kept : (ps : List Process) (names : Map Segment) (q : ℕ) → is_held ps q ≡ true → is_some (get names q) ≡ true
    → is_some (get (kept ps names) q) ≡ true
live_kept ps names q held lives = ap is_some (get-filter (is_held ps) names q ∙ if_yes (is_held ps q) (get names q) None held) ∙ lives

flags_kept : (ps : List Process) (names : Map Segment) (q : ℕ) → is_held ps q ≡ true → has_no_flags (get names q) ≡ true
    → has_no_flags (get (kept ps names) q) ≡ true
flags_kept ps names q held none = ap has_no_flags (get-filter (is_held ps) names q ∙ if_yes (is_held ps q) (get names q) None held) ∙ none

told_by : (ps : List Process) (names : Map Segment) (t : List ℕ × ℕ) (ts : List (List ℕ × ℕ)) (b : Bool) → is_held ps t.1 ≡ b
    → has_no_flags (get names t.1) ≡ true → AreLive (kept ps names) ts → AreLive (kept ps names) (cond b (t ∷ ts) ts)
told_by ps names t ts true is none h = (flags_kept ps names t.1 is none, h)
told_by ps names t ts false is none h = h

told_live : (ps : List Process) (names : Map Segment) (ts : List (List ℕ × ℕ)) → AreLive names ts → AreLive (kept ps names) (told_of ps ts)
told_live ps names [] h = tt
told_live ps names (t ∷ ts) h = told_by ps names t (told_of ps ts) (is_held ps t.1) refl h.0 (told_live ps names ts h.1)

pub swept_tied : (w : World) → IsTied w → IsTied (swept w)
swept_tied w tied = record {
  held = λ place i h e. let old = tied.held place i h e in (live_kept w.processes w.names h.name (held_found w.processes place i h e) old.0, old.1);
  below = λ q e. tied.below q (kept_live w.processes w.names q e).1;
  sized = λ q s e. tied.sized q s (kept_was w.processes w.names q s e);
  clean = λ place i h s e g c. tied.clean place i h s e (kept_was w.processes w.names h.name s g) c;
  one = λ place other i h k big e f. still_one w.names (kept w.processes w.names) h k (marks h.name) (marks k.name) (tied.one place other i h k big e f);
  texts = told_live w.processes w.names w.texts tied.texts;
  ended = tied.ended;
  registers = tied.registers;
}
  where
    marks : (q : ℕ) (s : Segment) → get (kept w.processes w.names) q ≡ Some s → KeepsMarks w.names q s
    marks q s e = same_marks w.names q s (kept_was w.processes w.names q s e)

used_by : (ps : List Process) (r : Reserve) (rs : List Reserve) (b : Bool) → is_used ps r ≡ b → AreUsed ps rs
    → AreUsed ps (cond b (r ∷ rs) rs)
used_by ps r rs true is h = (is, h)
used_by ps r rs false is h = h

used_all : (ps : List Process) (rs : List Reserve) → AreUsed ps (used ps rs)
used_all ps [] = tt
used_all ps (r ∷ rs) = used_by ps r (used ps rs) (is_used ps r) refl (used_all ps rs)

pub swept_is : (w : World) → IsSwept (swept w)
swept_is w = record { named = λ q e. (kept_live w.processes w.names q e).0; used = used_all w.processes w.reserved }

-- All changes of a step; where none takes a hold, each name that lives behind them has to be held, and each run that is reserved.
pub all_tied : (w : World) (cs : List Change) → AreFitChanges w cs → (list_any takes cs ≡ false → IsSwept (with_changes w cs)) → IsTied w
    → IsTied (with_all w cs) × IsSwept (with_all w cs)
all_tied w cs fit named tied = go (list_any takes cs) refl
  where
    go : (b : Bool) → list_any takes cs ≡ b → IsTied (with_all w cs) × IsSwept (with_all w cs)
    go true is = rw is (swept_tied (with_changes w cs) (changes_tied w cs fit tied), swept_is (with_changes w cs))
    go false is = rw is (changes_tied w cs fit tied, named is)
