-- A world behind the end of a process, by look-ups.
use Rattle.std.proofs.Common.{◌≡◌, ◌≢◌, ℕ, ◌+◌, inl, inr, Bool, true, false, cond, ◌&&◌, ◌||◌, List, [], ◌∷◌, Option, Some, None, is_some, refl, sym, ap, ◌∙◌, if◌then◌else◌}
use Rattle.std.specs.Prelude.{◌==◌}
use Rattle.std.specs.List.{list_any}
use Rattle.std.proofs.lemmas.Bool.{cases_eq, eq-eqb, false≢true, ne_eqb}
use Rattle.o2_world.specs.Holders.{is_held, kept, process_at, with_process}
use Rattle.o2_world.specs.Known.{held_at, is_for_the_run, lives_at, reserves}
use Rattle.o2_world.specs.Map.{Map, get}
use Rattle.o2_world.specs.Sound.{held_of}
use Rattle.o2_world.specs.World.{Held, Process, Reserve, Segment}
use Rattle.o2_world.proofs.MapLemmas.{get-filter}
use Rattle.o2_world.specs.Changes.{is_used, used}
use Rattle.o2_world.specs.Tied.{AreUsed}
use Rattle.o2_stands.specs.Runs.{is_full, may_be_member}
use Rattle.o2_stands.specs.Stands.{IsTidy}
use Rattle.o2_stands.proofs.Once.{once_kept}
use Rattle.o2_stands.proofs.Reserved.{stay_of, two_of}
use Rattle.o2_stands.proofs.RunsKept.{runs_ended}
use Rattle.o2_stands.proofs.Tidying.{AreRight, IsListed, listed_swept, right_of, right_swept}
use Rattle.o2_stands.proofs.Worlds.{put_here, put_other}

-- The process that has ended.

module _ (ps : List Process) (pid : ℕ) (x q : Process) (there : process_at ps pid ≡ Some x) where
  pub held_here : q.held ≡ [] → (i : ℕ) → held_at (with_process ps pid q) pid i ≡ None
  held_here none i = ap (λ (o : Option Process). held_of o i) (put_here ps pid x q there) ∙ ap (λ (m : Map Held). get m i) none

  pub held_other : (n i : ℕ) → n ≢ pid → held_at (with_process ps pid q) n i ≡ held_at ps n i
  held_other n i other = ap (λ (o : Option Process). held_of o i) (put_other ps pid x q there n other)

-- Names.

pub kept_is : (ps : List Process) (names : Map Segment) (n : ℕ) → get (kept ps names) n ≡ (if is_held ps n then get names n else None)
kept_is ps names n = get-filter (is_held ps) names n

-- Reserved indexes.

pub or_right : (a b : Bool) → b ≡ true → (a || b) ≡ true
or_right true b e = refl
or_right false b e = e

pub run_reserves : (rs : List Reserve) (i : ℕ) → list_any (is_for_the_run i) rs ≡ true → list_any (reserves 0 i) rs ≡ true
run_reserves [] i e = absurd (false≢true e)
run_reserves (r ∷ rs) i e = go r.stays (reserves 0 i r) e (run_reserves rs i)
  where
    go : (a b : Bool) → ((a && b) || list_any (is_for_the_run i) rs) ≡ true → (list_any (is_for_the_run i) rs ≡ true → list_any (reserves 0 i) rs ≡ true) → (b || list_any (reserves 0 i) rs) ≡ true
    go true true q rest = refl
    go true false q rest = rest q
    go false b q rest = or_right b (list_any (reserves 0 i) rs) (rest q)

pub absorbed : (a b : Bool) → (a ≡ true → b ≡ true) → (a || b) ≡ b
absorbed true b f = sym (f refl)
absorbed false b f = refl

no_hold : (h : Held) → ◌≡◌ {A = Option Held} None (Some h) → ⊥
no_hold h e = cc

-- what is used still
used_each : (ps : List Process) (rs : List Reserve) → AreUsed ps (used ps rs)
used_each ps [] = tt
used_each ps (r ∷ rs) = go (used_each ps rs) (is_used ps r) refl
  where
    go : AreUsed ps (used ps rs) → (b : Bool) → is_used ps r ≡ b → AreUsed ps (cond b (r ∷ used ps rs) (used ps rs))
    go rest true e = (e, rest)
    go rest false e = rest

-- The world is tidy.
pub tidy_behind : (ps : List Process) (names : Map Segment) (rs : List Reserve) (pid : ℕ) (x q : Process) → process_at ps pid ≡ Some x → q.held ≡ [] → IsTidy ps names rs
    → IsTidy (with_process ps pid q) (kept (with_process ps pid q) names) (used (with_process ps pid q) rs)
tidy_behind ps names rs pid x q there none tidy = record {
  once = once_kept (is_held qs) names tidy.once;
  used = λ n s. used_name n s;
  ended = λ n i e. elim (cases_eq n pid) [
    | inl same ↦ ap (λ (a : ℕ). held_at qs a i) same ∙ held_here ps pid x q there none i
    | inr other ↦ held_other ps pid x q there n i other ∙ tidy.ended n i (ap lives_at (sym (put_other ps pid x q there n other)) ∙ e)
  ];
  stay = stay_of qs (used qs rs) listed.two (used_each qs rs);
  shared = λ n i h high e load. (right.each n i h e).load high load;
  run = λ n i h e run. (right.each n i h e).run run;
  free = λ n i h e alone other. (right.each n i h e).free alone other;
  disjoint = listed.disjoint;
  runs = runs_ended (held_at ps) (held_at qs) pid ended_at tidy.runs;
  flags = record {
    each = λ n i h m. ap (may_be_member i) (kept_is qs names h.name)
        ∙ left i (is_held qs h.name) (get names h.name) (tidy.flags.each n i h (record { there = was n i h m.there; run = m.run }));
  };
  full = record {
    each = λ n i h m s some. ap is_full (kept_is qs names h.name)
        ∙ full_left (is_held qs h.name) (get names h.name) (tidy.full.each n i h (record { there = was n i h m.there; run = m.run }) s (some_was n (i + 1) (held_at qs n (i + 1)) refl some));
  };
}
  where
    qs : List Process
    qs = with_process ps pid q

    -- what is held behind it was held
    was : (n i : ℕ) (h : Held) → held_at qs n i ≡ Some h → held_at ps n i ≡ Some h
    was n i h e = elim (cases_eq n pid) [
      | inl same ↦ absurd (no_hold h (sym (ap (λ (a : ℕ). held_at qs a i) same ∙ held_here ps pid x q there none i) ∙ e))
      | inr other ↦ sym (held_other ps pid x q there n i other) ∙ e
    ]

    ended_at : (n i : ℕ) → held_at qs n i ≡ (if n == pid then None else held_at ps n i)
    ended_at n i = elim (cases_eq n pid) [
      | inl same ↦ ap (λ (a : ℕ). held_at qs a i) same ∙ (held_here ps pid x q there none i ∙ sym (ap (λ (b : Bool). if b then None else held_at ps n i) (eq-eqb n pid same)))
      | inr other ↦ held_other ps pid x q there n i other ∙ sym (ap (λ (b : Bool). if b then None else held_at ps n i) (ne_eqb n pid other))
    ]

    right : AreRight qs (used qs rs) []
    right = right_swept qs rs (record { each = λ n i h e. (right_of ps names rs tidy).each n i h (was n i h e) })

    listed : IsListed (used qs rs)
    listed = listed_swept qs rs (record { two = two_of ps rs tidy.stay; disjoint = tidy.disjoint })

    left : (i : ℕ) (b : Bool) (o : Option Segment) → may_be_member i o ≡ true → may_be_member i (if b then o else None) ≡ true
    left i true o e = e
    left i false o e = refl

    full_left : (b : Bool) (o : Option Segment) → is_full o ≡ true → is_full (if b then o else None) ≡ true
    full_left true o e = e
    full_left false o e = refl

    some_was : (n i : ℕ) (o : Option Held) → held_at qs n i ≡ o → is_some o ≡ true → is_some (held_at ps n i) ≡ true
    some_was n i None e some = absurd (false≢true some)
    some_was n i (Some h) e some = ap is_some (was n i h e)

    used_name : (n : ℕ) → is_some (get (kept qs names) n) ≡ true → is_held qs n ≡ true
    used_name n s = go (is_held qs n) (ap is_some (sym (kept_is qs names n)) ∙ s)
      where
        go : (b : Bool) → is_some (cond b (get names n) None) ≡ true → b ≡ true
        go true e = refl
        go false e = absurd (false≢true e)
