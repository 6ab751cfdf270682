-- A step whose changes are fit keeps a world tied, and each live name held.
use Rattle.std.proofs.Common.{◌≡◌, ℕ, zero, suc, ◌-◌, ◌<◌, ◌≤◌, ◌==◌, ◌||◌, Bool, true, false, List, [], ◌∷◌, ◌++◌, length, Option, Some, None, if◌then◌else◌, ap, sym, ◌∙◌, refl, arith, subst, slice_set, filter, cond}
use Rattle.std.specs.Prelude.{slice_get, option_map}
use Rattle.std.specs.List.{list_any}
use Rattle.o2_conf.specs.Dispatch.{Dispatch}
use Rattle.o2_world.specs.Map.{Map, get}
use Rattle.o2_world.specs.World.{World, Process, Segment, Held, Reserve, is_live}
use Rattle.o2_world.specs.Holders.{process_at, with_process, is_held}
use Rattle.o2_world.specs.Views.{with_bytes}
use Rattle.o2_world.specs.declared.types.State.{State}
use Rattle.o2_world.specs.Changes.{Change, Finishes, takes, swept, used, is_used, told_of, run_held, own_run_held, holds_run, at_number, with_change, with_changes, with_all}
use Rattle.o2_world.specs.Calls.{Effect}
use Rattle.o2_world.specs.Sound.{held_in, HasGoodRegisters}
use Rattle.o2_world.specs.Run.{changed, working, worked}
use Rattle.o2_world.specs.Tied.{HasSize, IsTied, IsSwept, AreUsed, AreFitChanges, has_no_flags}
use Rattle.o2_world.proofs.MapLemmas.{get-map, if_yes, if_no}
use Rattle.o2_world.proofs.Keeps.{bytes_there, some_is, held_same_at, each_at}
use Rattle.o2_world.proofs.Numbers.{not_zero, number_some, at_place_of, process_is, with_is, changed_is}
use Rattle.o2_world.proofs.Reached.{get-place}
use Rattle.o2_world.proofs.StepReach.{same_at, live_changes, end_changes}
use Rattle.o2_world.proofs.TiedChanges.{KeepsMarks, still_one, texts_live}
use Rattle.o2_world.proofs.TiedSteps.{all_tied, swept_is}

-- a segment behind other bytes
record IsRewritten (names : Map Segment) (bytes : ℕ → List ℕ) (q : ℕ) (s : Segment) : Type 0 where
  old : Segment
  there : get names q ≡ Some old
  is : s ≡ record old { bytes = bytes q }

rewritten : (names : Map Segment) (bytes : ℕ → List ℕ) (q : ℕ) (s : Segment) → get (with_bytes names bytes) q ≡ Some s
    → IsRewritten names bytes q s
rewritten names bytes q s e = go (get names q) refl (sym (get-map (λ (n : ℕ) (x : Segment). record x { bytes = bytes n }) names q) ∙ e)
  where
    go : (o : Option Segment) → get names q ≡ o → option_map (λ (x : Segment). record x { bytes = bytes q }) (get names q) ≡ Some s → IsRewritten names bytes q s
    go None at f = absurd (let z : None ≡ Some s = sym (ap (option_map (λ (x : Segment). record x { bytes = bytes q })) at) ∙ f in cc)
    go (Some y) at f = let z : Some (record y { bytes = bytes q }) ≡ Some s = sym (ap (option_map (λ (x : Segment). record x { bytes = bytes q })) at) ∙ f in record { old = y; there = at; is = cc }

dead_or_live : (b c : Bool) → b ≡ true → b ≡ false → ⊥
dead_or_live b c e f = cc

pub fit_more : (w : World) (xs ys : List Change) → AreFitChanges w xs → AreFitChanges (with_changes w xs) ys → AreFitChanges w (xs ++ ys)
unfolding with_changes
fit_more w [] ys fit more = more
fit_more w (x ∷ xs) ys fit more = (fit.0, fit_more (with_change w x) xs ys fit.1 more)

any_last : (xs : List Change) (c : Change) → takes c ≡ true → list_any takes (xs ++ c ∷ []) ≡ true
any_last [] c e = go (takes c) e
  where
    go : (b : Bool) → b ≡ true → (b || false) ≡ true
    go true e = refl
    go false e = absurd (cc)
any_last (x ∷ xs) c e = go (takes x) (any_last xs c e)
  where
    go : (b : Bool) → list_any takes (xs ++ c ∷ []) ≡ true → (b || list_any takes (xs ++ c ∷ [])) ≡ true
    go true h = refl
    go false h = h

-- Who holds a run, where a process's map stays.

runs_same : (ps : List Process) (k : ℕ) (p new : Process) (first : ℕ) → slice_get ps k ≡ Some p → new.held ≡ p.held
    → run_held (slice_set ps k new) first ≡ run_held ps first
runs_same [] k p new first at same = refl
runs_same (a ∷ ps) zero p new first at same = ap (λ (x : Map Held). holds_run x first || run_held ps first) (same ∙ ap (λ (x : Process). x.held) (sym (some_is a p (Some a) refl at)))
runs_same (a ∷ ps) (suc k) p new first at same = ap (λ b. holds_run a.held first || b) (runs_same ps k p new first at same)

own_same : (ps : List Process) (k : ℕ) (p new : Process) (j first : ℕ) → slice_get ps k ≡ Some p → new.held ≡ p.held
    → own_run_held (slice_get (slice_set ps k new) j) first ≡ own_run_held (slice_get ps j) first
own_same [] k p new j first at same = refl
own_same (a ∷ ps) zero p new zero first at same = ap (λ (x : Map Held). holds_run x first) (same ∙ ap (λ (x : Process). x.held) (sym (some_is a p (Some a) refl at)))
own_same (a ∷ ps) zero p new (suc j) first at same = refl
own_same (a ∷ ps) (suc k) p new zero first at same = refl
own_same (a ∷ ps) (suc k) p new (suc j) first at same = own_same ps k p new j first at same

used_same : (ps : List Process) (n : ℕ) (p new : Process) (r : Reserve) → process_at ps n ≡ Some p → new.held ≡ p.held
    → is_used (with_process ps n new) r ≡ is_used ps r
used_same ps n p new r at same =
    ap (λ (qs : List Process). is_used qs r) (with_is ps n new (number_some ps n p at))
    ∙ ap (λ (b : Bool). if r.region == 0 then r.stays || b else own_run_held (process_at (slice_set ps (n - 1) new) r.region) r.first) (runs_same ps (n - 1) p new r.first there same)
    ∙ ap (λ (b : Bool). if r.region == 0 then r.stays || run_held ps r.first else b) (go (r.region == 0))
  where
    there : slice_get ps (n - 1) ≡ Some p
    there = at_place_of ps n p at

    go : (b : Bool)
        → own_run_held (if b then None else slice_get (slice_set ps (n - 1) new) (r.region - 1)) r.first ≡ own_run_held (if b then None else slice_get ps (r.region - 1)) r.first
    go true = refl
    go false = own_same ps (n - 1) p new (r.region - 1) r.first there same

uses_same : (ps : List Process) (n : ℕ) (p new : Process) (rs : List Reserve) → process_at ps n ≡ Some p → new.held ≡ p.held → AreUsed ps rs
    → AreUsed (with_process ps n new) rs
uses_same ps n p new [] at same h = h
uses_same ps n p new (r ∷ rs) at same h = (used_same ps n p new r at same ∙ h.0, uses_same ps n p new rs at same h.1)

-- other bytes change no flags
flags_there : (segments : Map Segment) (bytes : ℕ → List ℕ) (q : ℕ) → has_no_flags (get (with_bytes segments bytes) q) ≡ has_no_flags (get segments q)
flags_there segments bytes q = ap has_no_flags (get-map (λ (n : ℕ) (s : Segment). record s { bytes = bytes n }) segments q) ∙ mapped (get segments q)
  where
    mapped : (o : Option Segment) → has_no_flags (option_map (λ (s : Segment). record s { bytes = bytes q }) o) ≡ has_no_flags o
    mapped None = refl
    mapped (Some s) = refl

module _ (w : World) (d : Dispatch) (p : Process) (e : Effect) (at : process_at w.processes d.current ≡ Some p) (lives : is_live p.state ≡ true)
    (good : HasGoodRegisters (working p e)) (sizes : (q : ℕ) (s : Segment) → get w.names q ≡ Some s → length (e.bytes q) ≡ length s.bytes) where
  pub still_live : is_live (working p e).state ≡ true
  still_live = go (is_live e.state) refl
    where
      go : (b : Bool) → is_live e.state ≡ b → is_live (if b then e.state else p.state) ≡ true
      go true is = is
      go false is = lives

  pub worked_tied : IsTied w → IsTied (worked w d p e)
  worked_tied tied = record {
    held = λ place i h x. let old = tied.held place i h (before place i h x) in (bytes_there w.names e.bytes h.name ∙ old.0, old.1);
    below = λ q x. tied.below q (sym (bytes_there w.names e.bytes q) ∙ x);
    sized = λ q s x. let r = rewritten w.names e.bytes q s x in
        subst HasSize (sym r.is) (subst (λ n. (0 < n) × (n ≤ 65536)) (sym (sizes q r.old r.there)) (tied.sized q r.old r.there));
    clean = λ place i h s x g c. let r = rewritten w.names e.bytes h.name s g in tied.clean place i h r.old (before place i h x) r.there (ap (λ (y : Segment). y.clean) (sym r.is) ∙ c);
    one = λ place other i h k big x y. still_one w.names (with_bytes w.names e.bytes) h k (marks h.name) (marks k.name) (tied.one place other i h k big (before place i h x) (before other i k y));
    texts = texts_live w.names (with_bytes w.names e.bytes) w.texts (λ q x. flags_there w.names e.bytes q ∙ x) tied.texts;
    ended = each_at {P = λ x. is_live x.state ≡ false → x.held ≡ []} w.processes d.current (working p e) (λ ends. absurd (dead_or_live (is_live (working p e).state) true still_live ends)) tied.ended;
    registers = each_at {P = λ x. is_live x.state ≡ true → HasGoodRegisters x} w.processes d.current (working p e) (λ _. good) tied.registers;
  }
    where
      before : (place i : ℕ) (h : Held) → held_in (with_process w.processes d.current (working p e)) place i ≡ Some h
          → held_in w.processes place i ≡ Some h
      before place i h x = sym (same_at w.processes d.current p (working p e) place i at refl) ∙ x

      marks : (q : ℕ) (s : Segment) → get (with_bytes w.names e.bytes) q ≡ Some s → KeepsMarks w.names q s
      marks q s x =
          let r = rewritten w.names e.bytes q s x in
          record { old = r.old; there = r.there; clean = ap (λ (y : Segment). y.clean) r.is; shared = ap (λ (y : Segment). y.shared) r.is }

  -- bytes and registers take no holder from a name or a run
  pub worked_swept : IsSwept w → IsSwept (worked w d p e)
  worked_swept s = record {
    named = λ q x. held_same_at w.processes d.current p (working p e) q at refl ∙ s.named q (sym (bytes_there w.names e.bytes q) ∙ x);
    used = uses_same w.processes d.current p (working p e) w.reserved at refl s.used;
  }

  pub changed_tied : AreFitChanges (worked w d p e) e.changes
      → (list_any takes e.changes ≡ false → IsSwept (with_changes (worked w d p e) e.changes)) → IsTied w
      → IsTied (changed w d p e) × IsSwept (changed w d p e)
  unfolding changed
  changed_tied fit named tied = go (is_live e.state) refl
    where
      P : List Change → Type 0
      P cs = IsTied (with_all (worked w d p e) cs) × IsSwept (with_all (worked w d p e) cs)

      go : (b : Bool) → is_live e.state ≡ b → IsTied (changed w d p e) × IsSwept (changed w d p e)
      go true is = subst P (sym (live_changes d.current e is)) (all_tied (worked w d p e) e.changes fit named (worked_tied tied))
      go false is =
          subst P (sym (end_changes d.current e is))
          (all_tied (worked w d p e) (e.changes ++ Finishes d.current e.state ∷ [])
          (fit_more (worked w d p e) e.changes (Finishes d.current e.state ∷ []) fit (is, tt))
          (λ none. absurd (dead_or_live _ true (any_last e.changes (Finishes d.current e.state) refl) none)) (worked_tied tied))

region_is : (n m : ℕ) → (n == m) ≡ true → n ≡ m
region_is n m e = grind arith

same_place : (n : ℕ) → (n == n) ≡ true
same_place n = grind arith

pub with_more : (v : World) (xs ys : List Change) → with_changes v (xs ++ ys) ≡ with_changes (with_changes v xs) ys
unfolding with_changes
with_more v [] ys = refl
with_more v (x ∷ xs) ys = with_more (with_change v x) xs ys

one_more : (v : World) (c : Change) → with_changes v (c ∷ []) ≡ with_change v c
unfolding with_changes
one_more v c = refl

filter_twice : {X : Type 0} (p : X → Bool) (xs : List X) → filter p (filter p xs) ≡ filter p xs
filter_twice p [] = refl
filter_twice p (x ∷ xs) = filtered_by p x (filter p xs) (p x) refl (filter_twice p xs)
  where
    filtered_by : {X : Type 0} (p : X → Bool) (x : X) (ys : List X) (b : Bool) → p x ≡ b → filter p ys ≡ ys
        → filter p (cond b (x ∷ ys) ys) ≡ cond b (x ∷ ys) ys
    filtered_by p x ys true is h = rw is (ap (λ zs. x ∷ zs) h)
    filtered_by p x ys false is h = h

-- an end's world is swept
pub ended_swept : (w : World) (d : Dispatch) (p : Process) (e : Effect) → is_live e.state ≡ false
    → changed w d p e ≡ swept (with_changes (worked w d p e) (e.changes ++ Finishes d.current e.state ∷ []))
unfolding changed
ended_swept w d p e ends =
    ap (with_all (worked w d p e)) (end_changes d.current e ends)
    ∙ if_yes (list_any takes (e.changes ++ Finishes d.current e.state ∷ [])) _ _ (any_last e.changes (Finishes d.current e.state) refl)

pub end_used : (w : World) (d : Dispatch) (p : Process) (e : Effect) → is_live e.state ≡ false
    → used (changed w d p e).processes (changed w d p e).reserved ≡ (changed w d p e).reserved
end_used w d p e ends =
    let v : World = with_changes (worked w d p e) (e.changes ++ Finishes d.current e.state ∷ []) in
    subst (λ (x : World). used x.processes x.reserved ≡ x.reserved) (sym (ended_swept w d p e ends)) (filter_twice (is_used v.processes) v.reserved)

pub end_texts : (w : World) (d : Dispatch) (p : Process) (e : Effect) → is_live e.state ≡ false
    → told_of (changed w d p e).processes (changed w d p e).texts ≡ (changed w d p e).texts
end_texts w d p e ends =
    let v : World = with_changes (worked w d p e) (e.changes ++ Finishes d.current e.state ∷ []) in
    subst (λ (x : World). told_of x.processes x.texts ≡ x.texts) (sym (ended_swept w d p e ends)) (filter_twice (λ (t : List ℕ × ℕ). is_held v.processes t.1) v.texts)

-- Of the region of a process that holds nothing, nothing stays reserved.

own_unused : (ps : List Process) (n : ℕ) (r : Reserve) → (n == 0) ≡ false → own_run_held (process_at ps n) r.first ≡ false
    → (r.region == n) ≡ true → is_used ps r ≡ false
own_unused ps n r some none here =
    let same : r.region ≡ n = region_is r.region n here in
    if_no (r.region == 0) _ _ (ap (λ (k : ℕ). k == 0) same ∙ some) ∙ ap (λ (k : ℕ). own_run_held (process_at ps k) r.first) same ∙ none

other_region : (ps : List Process) (n : ℕ) (r : Reserve) → (n == 0) ≡ false → own_run_held (process_at ps n) r.first ≡ false
    → is_used ps r ≡ true → (r.region == n) ≡ false
other_region ps n r some none is = go (r.region == n) refl
  where
    go : (b : Bool) → (r.region == n) ≡ b → (r.region == n) ≡ false
    go true here = absurd (dead_or_live (is_used ps r) true is (own_unused ps n r some none here))
    go false here = here

none_there : (ps : List Process) (n : ℕ) (r : Reserve) (rest : List Reserve) → (n == 0) ≡ false
    → own_run_held (process_at ps n) r.first ≡ false → (b : Bool) → is_used ps r ≡ b
    → list_any (λ (r : Reserve). r.region == n) rest ≡ false → list_any (λ (r : Reserve). r.region == n) (cond b (r ∷ rest) rest) ≡ false
none_there ps n r rest some none true is below = ap (λ (b : Bool). b || list_any (λ (r : Reserve). r.region == n) rest) (other_region ps n r some none is) ∙ below
none_there ps n r rest some none false is below = below

none_used : (ps : List Process) (n : ℕ) (rs : List Reserve) → (n == 0) ≡ false
    → ((first : ℕ) → own_run_held (process_at ps n) first ≡ false) → list_any (λ (r : Reserve). r.region == n) (used ps rs) ≡ false
none_used ps n [] some none = refl
none_used ps n (r ∷ rs) some none = none_there ps n r (used ps rs) some (none r.first) (is_used ps r) refl (none_used ps n rs some none)

-- what the process that has ended holds
ended_holds : (u : World) (n : ℕ) (state : State) (first : ℕ) → 0 < n
    → own_run_held (process_at (with_change u (Finishes n state)).processes n) first ≡ false
unfolding holds_run
ended_holds u n state first some =
    ap (λ (o : Option Process). own_run_held o first)
    (process_is (at_number n empty u.processes) n some
    ∙ ap (λ (qs : List Process). slice_get qs (n - 1)) (changed_is n empty u.processes some)
    ∙ get-place (n - 1) (n - 1) empty u.processes
    ∙ if_yes (n - 1 == n - 1) _ _ (same_place (n - 1)))
    ∙ go (slice_get u.processes (n - 1))
  where
    empty : Process → Process
    empty x = record x { state = state; held = [] }

    go : (o : Option Process) → own_run_held (option_map empty o) first ≡ false
    go None = refl
    go (Some x) = refl

pub end_own : (w : World) (d : Dispatch) (p : Process) (e : Effect) → process_at w.processes d.current ≡ Some p → is_live e.state ≡ false
    → list_any (λ (r : Reserve). r.region == d.current) (changed w d p e).reserved ≡ false
end_own w d p e at ends =
    let u : World = with_changes (worked w d p e) e.changes in
    let some = number_some w.processes d.current p at in
    subst (λ (x : World). list_any (λ (r : Reserve). r.region == d.current) x.reserved ≡ false) (sym (ended_swept w d p e ends ∙ ap swept (with_more (worked w d p e) e.changes (Finishes d.current e.state ∷ []) ∙ one_more u (Finishes d.current e.state))))
    (none_used (with_change u (Finishes d.current e.state)).processes d.current (with_change u (Finishes d.current e.state)).reserved (not_zero d.current some) (λ first. ended_holds u d.current e.state first some))

pub end_swept : (w : World) (d : Dispatch) (p : Process) (e : Effect) → is_live e.state ≡ false → IsSwept (changed w d p e)
end_swept w d p e ends = subst IsSwept (sym (ended_swept w d p e ends)) (swept_is (with_changes (worked w d p e) (e.changes ++ Finishes d.current e.state ∷ [])))
