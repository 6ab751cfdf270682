-- A process that shares nothing holds no run of the region that all share, so its calls of DosReallocHuge meet nobody.
use Rattle.std.proofs.Common.{◌≡◌, ◌⊎◌, inl, inr, refl, sym, ◌∙◌, ap, subst, ℕ, zero, suc, ◌+◌, ◌-◌, ◌<◌, ◌/◌, ◌==◌, ◌&&◌, ◌||◌, Bool, true, false, cond, List, [], ◌∷◌, ◌++◌, arith}
use Rattle.std.specs.Prelude.{Option, Some, None, Ok, option_map, slice_get, not, nat_lt}
use Rattle.std.specs.List.{list_any}
use Rattle.std.proofs.lemmas.Bool.{eq-eqb, eqb-true, false≢true}
use Rattle.o2_conf.specs.Dispatch.{Dispatch}
use Rattle.o2_conf.specs.declared.script.Word.{Word}
use Rattle.o2_isa.specs.View.{is_local}
use Rattle.o2_world.specs.Map.{get, put}
use Rattle.o2_world.specs.World.{World, Setting, Process, Held, is_live}
use Rattle.o2_world.specs.Holders.{process_at, with_process}
use Rattle.o2_world.specs.Sound.{held_in, held_of}
use Rattle.o2_world.specs.Known.{Known, held_at, known_of}
use Rattle.o2_world.specs.CallParts.{Before, Effect, argument}
use Rattle.o2_world.specs.Changes.{Change, Makes, Resizes, Locks, Marks, Holds, Drops, Finishes, Reserves, Frees, Names, fewer, more, swept, takes, with_change, with_changes}
use Rattle.o2_world.specs.Rulings.{held_under}
use Rattle.o2_world.specs.Effect.{effect}
use Rattle.o2_world.specs.Giving.{gives}
use Rattle.o2_world.specs.Run.{after, all_changes, before, changed, is_over, next_dispatch, ready, step, words_coming, worked, working}
use Rattle.o2_world.specs.Starts.{Start, opening_of}
use Rattle.o2_world.proofs.ByNumber.{IsOf, from_number}
use Rattle.o2_world.proofs.Keeps.{other_number, over_stays}
use Rattle.o2_world.proofs.MapLemmas.{if_no}
use Rattle.o2_world.proofs.Numbers.{number_some}
use Rattle.o2_world.proofs.OpeningLoads.{opening_loads}
use Rattle.o2_world.proofs.Reached.{get-put}
use Rattle.o2_world.proofs.StepReach.{own_at}
use Rattle.o2_world.proofs.StepSound.{next_process}
use Rattle.o2_world.proofs.Words.{ready_at_once}
use Rattle.o2_alone.specs.Events.{chosen_before, next_before}
use Rattle.o2_alone.specs.Keeping.{IsQuiet, IsUngiven, KeepsToItself, meets}
use Rattle.o2_alone.specs.Renaming.{asking_of, call_of, is_shared_run, reaches_shared}
use Rattle.o2_alone.proofs.Isolated.{step_is}
use Rattle.o2_isolation.specs.Strangers.{HoldsNoSharedRun, MeetsNobody, StaysApart, dos_realloc_huge, meets_others}
use Rattle.o2_isolation.proofs.OwnRuns.{AreUnshared, IsUnsharedChange, effect_unshared, quiet_itself}

none_some : (h : Held) → ◌≡◌ {A = Option Held} None (Some h) → ⊥
none_some h e = cc

-- Behind changes.

-- the process holds no shared run by this change
abbrev IsUnsharedFor : ℕ → Change → Type 0
IsUnsharedFor number (Makes s) = Unit {0}
IsUnsharedFor number (Resizes n size) = Unit {0}
IsUnsharedFor number (Locks n count) = Unit {0}
IsUnsharedFor number (Marks n discarded) = Unit {0}
IsUnsharedFor number (Holds p i h) = number ≡ p → is_shared_run h ≡ false
IsUnsharedFor number (Drops p i count) = Unit {0}
IsUnsharedFor number (Finishes p state) = Unit {0}
IsUnsharedFor number (Reserves r) = Unit {0}
IsUnsharedFor number (Frees region first) = Unit {0}
IsUnsharedFor number (Names text name) = Unit {0}

abbrev AreUnsharedFor : ℕ → List Change → Type 0
AreUnsharedFor number [] = Unit {0}
AreUnsharedFor number (c ∷ cs) = IsUnsharedFor number c × AreUnsharedFor number cs

for_all : (number : ℕ) (cs : List Change) → AreUnshared cs → AreUnsharedFor number cs
for_all number [] all = tt
for_all number (c ∷ cs) all = (one c all.0, for_all number cs all.1)
  where
    one : (c : Change) → IsUnsharedChange c → IsUnsharedFor number c
    one (Makes s) u = tt
    one (Resizes n size) u = tt
    one (Locks n count) u = tt
    one (Marks n discarded) u = tt
    one (Holds p i h) u = λ same. u
    one (Drops p i count) u = tt
    one (Finishes p state) u = tt
    one (Reserves r) u = tt
    one (Frees region first) u = tt
    one (Names text name) u = tt

-- what isn't given
not_given : (number : ℕ) (cs : List Change) → list_any (gives number) cs ≡ false → AreUnsharedFor number cs
not_given number [] none = tt
not_given number (c ∷ cs) none = (one c (first (gives number c) _ none), not_given number cs (rest (gives number c) _ none))
  where
    first : (x y : Bool) → (x || y) ≡ false → x ≡ false
    first true y e = e
    first false y e = refl

    rest : (x y : Bool) → (x || y) ≡ false → y ≡ false
    rest true y e = cc
    rest false y e = e

    one : (c : Change) → gives number c ≡ false → IsUnsharedFor number c
    one (Makes s) u = tt
    one (Resizes n size) u = tt
    one (Locks n count) u = tt
    one (Marks n discarded) u = tt
    one (Holds p i h) u = λ same. absurd (false≢true (sym u ∙ eq-eqb p number (sym same)))
    one (Drops p i count) u = tt
    one (Finishes p state) u = tt
    one (Reserves r) u = tt
    one (Frees region first) u = tt
    one (Names text name) u = tt

with_end : (number n : ℕ) (e : Effect) → AreUnsharedFor number e.changes → AreUnsharedFor number (all_changes n e)
with_end number n e all = go (is_live e.state)
  where
    more_one : (cs : List Change) → AreUnsharedFor number cs → AreUnsharedFor number (cs ++ Finishes n e.state ∷ [])
    more_one [] h = (tt, tt)
    more_one (c ∷ cs) h = (h.0, more_one cs h.1)

    go : (t : Bool) → AreUnsharedFor number (cond t e.changes (e.changes ++ Finishes n e.state ∷ []))
    go true = all
    go false = more_one e.changes all

module _ (number : ℕ) where
  -- a run goes by its stretch alone
  same_run : (g h : Held) → g.first ≡ h.first → g.reserved ≡ h.reserved → is_shared_run g ≡ false → is_shared_run h ≡ false
  same_run g h first count e =
      subst (λ (c : ℕ). (not (c == 0) && nat_lt 4096 (h.first + c)) ≡ false) count
      (subst (λ (f : ℕ). (not (g.reserved == 0) && nat_lt 4096 (f + g.reserved)) ≡ false) first e)

  of_more : (u : World) (p j i : ℕ) (x h : Held) → HoldsNoSharedRun u number → (number ≡ p → is_shared_run x ≡ false) → IsOf u.processes p number i (λ (y : Process). record y { held = put j (more x (get y.held j)) y.held }) h
      → is_shared_run h ≡ false
  of_more u p j i x h kept good o = pick (j == i) refl (get o.process.held j) refl (sym (get-put j i (more x (get o.process.held j)) o.process.held) ∙ o.is)
    where
      old : (l : ℕ) (g : Held) → get o.process.held l ≡ Some g → is_shared_run g ≡ false
      old l g there = kept l g (ap (λ (z : Option Process). held_of z l) o.there ∙ there)

      pick : (t : Bool) → (j == i) ≡ t → (v : Option Held) → get o.process.held j ≡ v → cond t (more x v) (get o.process.held i) ≡ Some h → is_shared_run h ≡ false
      pick false f v there is = old i h is
      pick true f None there is =
          let new : x ≡ h = cc in
          ap (λ (y : Held). is_shared_run y) (sym new) ∙ good o.same
      pick true f (Some g) there is =
          let new : record g { holds = g.holds + x.holds } ≡ h = cc in
          same_run g h (ap (λ (y : Held). y.first) new) (ap (λ (y : Held). y.reserved) new) (old j g there)

  of_fewer : (u : World) (p j count i : ℕ) (h : Held) → HoldsNoSharedRun u number → IsOf u.processes p number i (λ (y : Process). record y { held = put j (fewer count (get y.held j)) y.held }) h → is_shared_run h ≡ false
  of_fewer u p j count i h kept o = pick (j == i) refl (get o.process.held j) refl (sym (get-put j i (fewer count (get o.process.held j)) o.process.held) ∙ o.is)
    where
      old : (l : ℕ) (g : Held) → get o.process.held l ≡ Some g → is_shared_run g ≡ false
      old l g there = kept l g (ap (λ (z : Option Process). held_of z l) o.there ∙ there)

      left : (g : Held) → is_shared_run g ≡ false → (t : Bool) → cond t (Some (record g { holds = g.holds - count })) None ≡ Some h → is_shared_run h ≡ false
      left g own false is = absurd (none_some h is)
      left g own true is =
          let new : record g { holds = g.holds - count } ≡ h = cc in
          same_run g h (ap (λ (y : Held). y.first) new) (ap (λ (y : Held). y.reserved) new) own

      pick : (t : Bool) → (j == i) ≡ t → (v : Option Held) → get o.process.held j ≡ v → cond t (fewer count v) (get o.process.held i) ≡ Some h → is_shared_run h ≡ false
      pick false f v there is = old i h is
      pick true f None there is = absurd (none_some h is)
      pick true f (Some g) there is = left g (old j g there) (nat_lt count g.holds) is

  kept_change : (c : Change) (u : World) → IsUnsharedFor number c → HoldsNoSharedRun u number → HoldsNoSharedRun (with_change u c) number
  kept_change (Makes s) u good kept = kept
  kept_change (Resizes n size) u good kept = kept
  kept_change (Locks n count) u good kept = kept
  kept_change (Marks n discarded) u good kept = kept
  kept_change (Holds p j x) u good kept = λ i h is. by i h (from_number u.processes p number i (λ (y : Process). record y { held = put j (more x (get y.held j)) y.held }) h is)
    where
      by : (i : ℕ) (h : Held) → (held_at u.processes number i ≡ Some h) ⊎ IsOf u.processes p number i (λ (y : Process). record y { held = put j (more x (get y.held j)) y.held }) h → is_shared_run h ≡ false
      by i h (inl there) = kept i h there
      by i h (inr o) = of_more u p j i x h kept good o
  kept_change (Drops p j count) u good kept = λ i h is. by i h (from_number u.processes p number i (λ (y : Process). record y { held = put j (fewer count (get y.held j)) y.held }) h is)
    where
      by : (i : ℕ) (h : Held) → (held_at u.processes number i ≡ Some h) ⊎ IsOf u.processes p number i (λ (y : Process). record y { held = put j (fewer count (get y.held j)) y.held }) h → is_shared_run h ≡ false
      by i h (inl there) = kept i h there
      by i h (inr o) = of_fewer u p j count i h kept o
  kept_change (Finishes p state) u good kept = λ i h is. by i h (from_number u.processes p number i (λ (y : Process). record y { state = state; held = [] }) h is)
    where
      by : (i : ℕ) (h : Held) → (held_at u.processes number i ≡ Some h) ⊎ IsOf u.processes p number i (λ (y : Process). record y { state = state; held = [] }) h → is_shared_run h ≡ false
      by i h (inl there) = kept i h there
      by i h (inr o) = absurd (none_some h o.is)
  kept_change (Reserves r) u good kept = kept
  kept_change (Frees region first) u good kept = kept
  kept_change (Names text name) u good kept = kept

  kept_changes : (cs : List Change) (u : World) → AreUnsharedFor number cs → HoldsNoSharedRun u number → HoldsNoSharedRun (with_changes u cs) number
  unfolding with_changes
  kept_changes [] u good kept = kept
  kept_changes (c ∷ cs) u good kept = kept_changes cs (with_change u c) good.1 (kept_change c u good.0 kept)

  kept_swept : (t : Bool) (u : World) → HoldsNoSharedRun u number → HoldsNoSharedRun (cond t (swept u) u) number
  kept_swept false u kept = kept
  kept_swept true u kept = kept

  changed_kept : (s : Setting) (w : World) (d : Dispatch) (p : Process) → process_at w.processes d.current ≡ Some p → AreUnsharedFor number (effect (before s w d.current p)).changes
      → HoldsNoSharedRun w number → HoldsNoSharedRun (changed w d p (effect (before s w d.current p))) number
  unfolding changed
  changed_kept s w d p at good kept =
      kept_swept (list_any takes (all_changes n e)) v (kept_changes (all_changes n e) (worked w d p e) (with_end number n e good) (λ i h is. kept i h (held_now number i h is)))
    where
      n : ℕ
      n = d.current

      e : Effect
      e = effect (before s w d.current p)

      v : World
      v = with_changes (worked w d p (effect (before s w d.current p))) (all_changes d.current (effect (before s w d.current p)))

      other_at : (ps : List Process) (k : ℕ) (q : Process) (m : ℕ) → (m == k) ≡ false → process_at (with_process ps k q) m ≡ process_at ps m
      other_at ps k q m f = by (m == 0) refl
        where
          apart : (m == 0) ≡ false → m - 1 + 1 ≡ k → ⊥
          apart z is = different m k f z is
            where
              different : (m k : ℕ) → (m == k) ≡ false → (m == 0) ≡ false → m - 1 + 1 ≡ k → ⊥
              different m k f z is = grind arith

          by : (t : Bool) → (m == 0) ≡ t → cond t None (slice_get (with_process ps k q) (m - 1)) ≡ cond t None (slice_get ps (m - 1))
          by true z = refl
          by false z = other_number ps k q (m - 1) (apart z)

      -- what processes hold is the same before the changes
      held_now : (m i : ℕ) (h : Held) → held_at (worked w d p e).processes m i ≡ Some h → held_at w.processes m i ≡ Some h
      held_now m i h is = go (m == n) refl
        where
          go : (t : Bool) → (m == n) ≡ t → held_at w.processes m i ≡ Some h
          go true f =
              let same : m ≡ n = eqb-true m n f in
              let own : held_at (worked w d p e).processes n i ≡ get p.held i = ap (λ (o : Option Process). held_of o i) (own_at w.processes n p (working p e) at) in
              ap (λ (q : ℕ). held_at w.processes q i) same ∙ (ap (λ (o : Option Process). held_of o i) at ∙ (sym own ∙ (ap (λ (q : ℕ). held_at (worked w d p e).processes q i) (sym same) ∙ is)))
          go false f = sym (ap (λ (o : Option Process). held_of o i) (other_at w.processes n (working p e) m f)) ∙ is

  -- Behind a step.

  next_is : (s : Setting) (w : World) (p : Process) → is_over w ≡ false → words_coming w ≡ 0 → process_at w.processes (next_dispatch s w).current ≡ Some p
      → next_before s w ≡ Some (before s w (next_dispatch s w).current p)
  next_is s w p runs wordless at =
      if_no (is_over w) None (chosen_before s (ready w) (next_dispatch s w)) runs
      ∙ (ap (λ (v : World). chosen_before s v (next_dispatch s w)) (ready_at_once w wordless) ∙ ap (option_map (before s w (next_dispatch s w).current)) at)

  step_kept : (s : Setting) (w : World) → words_coming w ≡ 0 → IsUngiven s w number → IsQuiet s w number → HoldsNoSharedRun w number → HoldsNoSharedRun (step s w) number
  step_kept s w wordless ungiven quiet kept = by_end (is_over w) refl
    where
      d : Dispatch
      d = next_dispatch s w

      own : (p : Process) → is_over w ≡ false → process_at w.processes d.current ≡ Some p → (t : Bool) → (d.current == number) ≡ t → AreUnsharedFor number (effect (before s w d.current p)).changes
      own p runs at true is =
          let one : Before = before s w d.current p in
          for_all number (effect one).changes (effect_unshared one (quiet_itself one (call_of one) (number_some w.processes d.current p at) (quiet one (next_is s w p runs wordless at) (eqb-true d.current number is))))
      own p runs at false is =
          let one : Before = before s w d.current p in
          not_given number (effect one).changes (ungiven one (next_is s w p runs wordless at) (λ same. false≢true (sym is ∙ eq-eqb d.current number same)))

      by_end : (t : Bool) → is_over w ≡ t → HoldsNoSharedRun (step s w) number
      by_end true over = subst (λ (z : World). HoldsNoSharedRun z number) (sym (over_stays s w over)) kept
      by_end false runs =
          let here = next_process s w runs in
          subst (λ (z : World). HoldsNoSharedRun z number) (sym (step_is s w here.0 runs wordless here.1))
          (changed_kept s w d here.0 here.1 (own here.0 runs here.1 (d.current == number) refl) kept)

  -- A call of DosReallocHuge meets nobody.

  known_is : (s : Setting) (w : World) (b : Before) → words_coming w ≡ 0 → next_before s w ≡ Some b → b.known ≡ known_of s w
  known_is s w b wordless next =
      by_end (is_over w) (process_at w.processes (next_dispatch s w).current)
      (sym (ap (λ (v : World). cond (is_over w) None (chosen_before s v (next_dispatch s w))) (ready_at_once w wordless)) ∙ next)
    where
      none_before : ◌≡◌ {A = Option Before} None (Some b) → b.known ≡ known_of s w
      none_before e = cc

      is_before : (x : Before) → Some x ≡ Some b → x ≡ b
      is_before x e = cc

      by_end : (t : Bool) (o : Option Process) → cond t None (option_map (before s w (next_dispatch s w).current) o) ≡ Some b → b.known ≡ known_of s w
      by_end true o e = none_before e
      by_end false None e = none_before e
      by_end false (Some p) e = ap (λ (x : Before). x.known) (sym (is_before (before s w (next_dispatch s w).current p) e))

  reaches_none : (k : Known) (n selector : ℕ) → ((i : ℕ) (h : Held) → k.held n i ≡ Some h → is_shared_run h ≡ false) → reaches_shared (held_under k n selector) ≡ false
  reaches_none k n selector own = by_table (is_local selector)
    where
      by_hold : (o : Option Held) → k.held n (selector / 8) ≡ o → reaches_shared o ≡ false
      by_hold None e = refl
      by_hold (Some h) e = own (selector / 8) h e

      by_table : (t : Bool) → reaches_shared (cond t (k.held n (selector / 8)) None) ≡ false
      by_table true = by_hold (k.held n (selector / 8)) refl
      by_table false = refl

  resize_quiet : (b : Before) → reaches_shared (held_under b.known b.number (argument b.view b.cpu 0)) ≡ false → meets b (Some dos_realloc_huge) ≡ false
  unfolding asking_of
  resize_quiet b own = go (reaches_shared (held_under b.known b.number (argument b.view b.cpu 0))) own
    where
      go : (t : Bool) → t ≡ false → (t || false) ≡ false
      go true e = e
      go false e = refl

  all_quiet : (s : Setting) (w : World) → words_coming w ≡ 0 → MeetsNobody s w number → HoldsNoSharedRun w number → IsQuiet s w number
  all_quiet s w wordless strange kept b next is = by_call (call_of b) (strange b next is)
    where
      held : (i : ℕ) (h : Held) → b.known.held b.number i ≡ Some h → is_shared_run h ≡ false
      held i h e = kept i h (ap (λ (n : ℕ). held_at w.processes n i) (sym is) ∙ (sym (ap (λ (k : Known). k.held b.number i) (known_is s w b wordless next)) ∙ e))

      by_number : (service : ℕ) (t : Bool) → (service == dos_realloc_huge) ≡ t → (not t && meets b (Some service)) ≡ false → meets b (Some service) ≡ false
      by_number service true same e =
          subst (λ (n : ℕ). meets b (Some n) ≡ false) (sym (eqb-true service dos_realloc_huge same)) (resize_quiet b (reaches_none b.known b.number (argument b.view b.cpu 0) held))
      by_number service false other e = e

      by_call : (o : Option ℕ) → meets_others b o ≡ false → meets b o ≡ false
      by_call None e = refl
      by_call (Some service) e = by_number service (service == dos_realloc_huge) refl e

  -- Over a run.

  module _ (s : Setting) (w alone : World) (first : HoldsNoSharedRun w number) where
    -- before each of the first k steps, and behind them
    behind : (k : ℕ) → ((j : ℕ) → j < k → words_coming (after s w j) ≡ 0) → ((j : ℕ) → j < k → IsUngiven s (after s w j) number) → ((j : ℕ) → j < k → MeetsNobody s (after s w j) number)
        → HoldsNoSharedRun (after s w k) number
    behind zero wordless ungiven strange = first
    behind (suc k) wordless ungiven strange =
        let so_far = behind k (λ j low. wordless j (omega (arith, low))) (λ j low. ungiven j (omega (arith, low))) (λ j low. strange j (omega (arith, low))) in
        let none = wordless k (omega arith) in
        step_kept s (after s w k) none (ungiven k (omega arith)) (all_quiet s (after s w k) none (strange k (omega arith)) so_far) so_far

    pub no_run : (k : ℕ) → StaysApart s w alone number k → HoldsNoSharedRun (after s w k) number
    no_run k stays = behind k stays.wordless stays.ungiven stays.strange

    pub keeps : (k : ℕ) → StaysApart s w alone number k → KeepsToItself s w alone number k
    keeps k stays = record {
      wordless = stays.wordless;
      apart = stays.apart;
      ungiven = stays.ungiven;
      quiet = λ j low.
          all_quiet s (after s w j) (stays.wordless j low) (stays.strange j low)
          (behind j (λ i less. stays.wordless i (omega (arith, low, less))) (λ i less. stays.ungiven i (omega (arith, low, less))) (λ i less. stays.strange i (omega (arith, low, less))));
      room = stays.room;
      room_alone = stays.room_alone;
    }

-- before the first step all is held by load, and in no run
pub opened_unshared : (s : Setting) (reserved : List (ℕ × ℕ)) (script : List Word) (input : List ℕ) (starts : List Start) (w : World) → opening_of s reserved script input starts ≡ Ok w
    → (number : ℕ) → HoldsNoSharedRun w number
opened_unshared s reserved script input starts w e number i h is = no_run h (opening_loads s reserved script input starts w e (number - 1) i h (to_place (number == 0) is)).1
  where
    to_place : (t : Bool) → held_of (cond t None (slice_get w.processes (number - 1))) i ≡ Some h → held_in w.processes (number - 1) i ≡ Some h
    to_place true q = absurd (none_some h q)
    to_place false q = q

    no_run : (h : Held) → h.reserved ≡ 0 → is_shared_run h ≡ false
    no_run h none = ap (λ (c : ℕ). not (c == 0) && nat_lt 4096 (h.first + c)) none

-- nothing else is asked of a process that keeps to itself
pub keeps_apart : (s : Setting) (w alone : World) (number k : ℕ) → KeepsToItself s w alone number k → StaysApart s w alone number k
keeps_apart s w alone number k keeps = record {
  wordless = keeps.wordless;
  apart = keeps.apart;
  ungiven = keeps.ungiven;
  strange = λ j low b next is. by_call b (call_of b) (keeps.quiet j low b next is);
  room = keeps.room;
  room_alone = keeps.room_alone;
}
  where
    by_call : (b : Before) (o : Option ℕ) → meets b o ≡ false → meets_others b o ≡ false
    by_call b None e = refl
    by_call b (Some service) e = go (not (service == dos_realloc_huge)) e
      where
        go : (t : Bool) → meets b (Some service) ≡ false → (t && meets b (Some service)) ≡ false
        go true f = f
        go false f = refl
