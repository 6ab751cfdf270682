-- The world behind a step, from the parts once registers and state are written back.
use Rattle.std.proofs.Common.{◌≡◌, ℕ, zero, suc, ◌-◌, ◌==◌, ◌&&◌, Bool, true, false, if◌then◌else◌, List, [], ◌∷◌, ◌++◌, Some, None, slice_set, ap, sym, ◌∙◌, refl, subst}
use Rattle.std.specs.Prelude.{not, slice_get}
use Rattle.std.specs.List.{list_any}
use Rattle.o2_conf.specs.Dispatch.{Dispatch}
use Rattle.o2_world.specs.declared.types.State.{State}
use Rattle.o2_world.specs.declared.types.State.TheVariants.{Live, Trapped}
use Rattle.o2_world.specs.World.{Line, Process, Traps, World, is_live}
use Rattle.o2_world.specs.Holders.{process_at, with_process}
use Rattle.o2_world.specs.Views.{with_bytes}
use Rattle.o2_world.specs.Calls.{Before, Effect}
use Rattle.o2_world.specs.Changes.{Change, Drops, Finishes, Frees, Holds, Locks, Makes, Marks, Names, Reserves, Resizes, at_number, at_place, swept, takes, told_of, with_all, with_change, with_changes}
use Rattle.o2_world.specs.Effect.{has_trap_flag, single_stepped}
use Rattle.o2_world.specs.Run.{changed, plainly, worked, working}
use Rattle.o2_world.proofs.Quiet.{changed_plain}
use Rattle.o2_world.proofs.StepSound.{IsOrderly}
use Rattle.o2_calls.proofs.Ends.{end_behind}
use Rattle.o2_stands.specs.Parts.{Parts}
use Rattle.o2_stands.specs.Stands.{Matches, MatchesIn}
use Rattle.o2_stands.proofs.Matching.{matched_by}
use Rattle.o2_space.specs.Stands.{MatchesAfter, StandsCommitted}

-- A step that changes nothing but bytes.

pub plain_after : (p : Parts) (w : World) (n : ℕ) (x : Process) (e : Effect) → e.changes ≡ []
    → StandsCommitted w.processes (with_bytes w.names e.bytes) w.next_name w.reserved n x (record { cpu = e.cpu; state = e.state }) p → MatchesAfter w n x e p
unfolding plainly
plain_after p w n x e quiet stands d is =
    subst (Matches p) (sym (changed_plain w d x e quiet))
    (let here = subst (λ (k : ℕ). StandsCommitted w.processes (with_bytes w.names e.bytes) w.next_name w.reserved k x (record { cpu = e.cpu; state = e.state }) p) (sym is) stands in
    matched_by p _ _ _ _ here)

-- An effect with and without the exception 1 that follows in it.

pub orderly_before : (b : Before) (e : Effect) → IsOrderly b (single_stepped b e) → IsOrderly b e
orderly_before b e = go (has_trap_flag b.cpu.flags) (is_live e.state && not e.waits)
  where
    go : (t l : Bool) → IsOrderly b (if t && l then record e { state = Trapped 1; lines = e.lines ++ Traps b.number 1 b.cpu.cs b.cpu.ip ∷ [] } else e) → IsOrderly b e
    go true true o = record { ruled = o.ruled; sizes = o.sizes; moves = o.moves; still = o.still }
    go true false o = o
    go false l o = o

-- Lines don't matter.

lines_change : (v : World) (ls : List Line) (c : Change) → with_change (record v { lines = ls }) c ≡ record (with_change v c) { lines = ls }
lines_change v ls (Makes s) = refl
lines_change v ls (Resizes n size) = refl
lines_change v ls (Locks n count) = refl
lines_change v ls (Marks n discarded) = refl
lines_change v ls (Holds p i h) = refl
lines_change v ls (Drops p i count) = refl
lines_change v ls (Finishes p state) = refl
lines_change v ls (Reserves r) = refl
lines_change v ls (Frees region first) = refl
lines_change v ls (Names text name) = refl

lines_changes : (v : World) (ls : List Line) (cs : List Change) → with_changes (record v { lines = ls }) cs ≡ record (with_changes v cs) { lines = ls }
unfolding with_changes
lines_changes v ls [] = refl
lines_changes v ls (c ∷ cs) = ap (λ (z : World). with_changes z cs) (lines_change v ls c) ∙ lines_changes (with_change v c) ls cs

lines_all : (v : World) (ls : List Line) (cs : List Change) → with_all (record v { lines = ls }) cs ≡ record (with_all v cs) { lines = ls }
lines_all v ls cs = go (list_any takes cs)
  where
    go : (b : Bool) → (if b then swept (with_changes (record v { lines = ls }) cs) else with_changes (record v { lines = ls }) cs)
        ≡ record (if b then swept (with_changes v cs) else with_changes v cs) { lines = ls }
    go true = ap swept (lines_changes v ls cs)
    go false = lines_changes v ls cs

-- A process is changed in its place.

place_is : (ps : List Process) (i : ℕ) (y : Process) (f : Process → Process) → slice_get ps i ≡ Some y → at_place i f ps ≡ slice_set ps i (f y)
place_is [] i y f e = refl
place_is (x ∷ ps) zero y f e = ap (λ (z : Process). f z ∷ ps) (same x y e)
  where
    same : (a b : Process) → Some a ≡ Some b → a ≡ b
    same a b q = cc
place_is (x ∷ ps) (suc i) y f e = ap (λ (l : List Process). x ∷ l) (place_is ps i y f e)

number_is : (ps : List Process) (n : ℕ) (y : Process) (f : Process → Process) → process_at ps n ≡ Some y → at_number n f ps ≡ with_process ps n (f y)
number_is ps n y f = go (n == 0)
  where
    go : (b : Bool) → (if b then None else slice_get ps (n - 1)) ≡ Some y → (if b then ps else at_place (n - 1) f ps) ≡ (if b then ps else slice_set ps (n - 1) (f y))
    go true e = refl
    go false e = place_is ps (n - 1) y f e

-- Exception 1 behind a call: the process ends in the world that the call leaves.

module _ (q : Parts) (w : World) (d : Dispatch) (x : Process) (r : Effect) (ls : List Line) (live : x.state ≡ Live) (goes : r.state ≡ Live) where
  abbrev u : World
  u = changed w d x r

  abbrev ended : Effect
  ended = record r { state = Trapped 1; lines = ls }

  abbrev v : World
  v = worked w d x r

  same_working : working x ended ≡ working x r
  same_working = ap (λ (s : State). record x { cpu = r.cpu; state = s }) (live ∙ sym (by_state (is_live r.state) (ap is_live goes)))
    where
      by_state : (b : Bool) → b ≡ true → (if b then r.state else x.state) ≡ Live
      by_state true e = goes
      by_state false e = live

  same_worked : worked w d x ended ≡ record v { lines = w.lines ++ ls }
  same_worked = ap (λ (z : Process). record (worked w d x ended) { processes = with_process w.processes d.current z }) same_working

  behind : with_all v r.changes ≡ u
  unfolding changed
  behind = ap (with_all v) (sym (by_state (is_live r.state) (ap is_live goes)))
    where
      by_state : (b : Bool) → b ≡ true → (if b then r.changes else r.changes ++ Finishes d.current r.state ∷ []) ≡ r.changes
      by_state true e = refl
      by_state false e = absurd (cc)

  ended_is : changed w d x ended ≡ record (with_all u (Finishes d.current (Trapped 1) ∷ [])) { lines = w.lines ++ ls }
  unfolding changed
  ended_is =
      ap (λ (z : World). with_all z (r.changes ++ Finishes d.current (Trapped 1) ∷ [])) same_worked
      ∙ (lines_all v (w.lines ++ ls) (r.changes ++ Finishes d.current (Trapped 1) ∷ [])
      ∙ ap (λ (z : World). record z { lines = w.lines ++ ls }) (end_behind d.current (Trapped 1) v r.changes ∙ ap (λ (z : World). with_all z (Finishes d.current (Trapped 1) ∷ [])) behind))

  over : Process → Process
  over z = record z { state = Trapped 1; held = [] }

  pub trapped_after : (y : Process) → process_at u.processes d.current ≡ Some y
      → StandsCommitted u.processes u.names u.next_name u.reserved d.current y (record { cpu = y.cpu; state = Trapped 1 }) q → Matches q (changed w d x ended)
  unfolding with_changes over
  trapped_after y at stands =
      subst (Matches q) (sym ended_is)
      (let m = matched_by q _ _ _ _ stands in
      subst (λ (ps : List Process). MatchesIn q ps (swept (record u { processes = ps })).names u.next_name (swept (record u { processes = ps })).reserved)
      (sym (number_is u.processes d.current y over at)) m)

  -- texts of names that nobody holds go
  pub trapped_texts : (changed w d x ended).texts ≡ told_of (changed w d x ended).processes u.texts
  unfolding with_changes
  trapped_texts = subst (λ (z : World). z.texts ≡ told_of z.processes u.texts) (sym ended_is) refl
