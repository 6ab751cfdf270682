-- A world stays tidy behind changes.
use Rattle.std.proofs.Common.{◌≡◌, ◌⊎◌, inl, inr, ℕ, ◌+◌, ◌-◌, ◌≤◌, Bool, true, false, ◌&&◌, ◌||◌, List, [], ◌∷◌, Option, Some, None, refl, sym, ap, ◌∙◌, subst, arith, if◌then◌else◌}
use Rattle.std.specs.Prelude.{filter, not, nat_lt, ◌==◌}
use Rattle.std.specs.List.{list_any}
use Rattle.std.proofs.lemmas.Bool.{false≢true}
use Rattle.o2_world.specs.Changes.{Change, Drops, Finishes, Frees, Holds, Locks, Makes, Marks, Names, Reserves, Resizes, at_number, fewer, is_used, more, swept, takes, used, with_all, with_change, with_changes}
use Rattle.o2_world.specs.Holders.{is_held, kept, process_at}
use Rattle.o2_world.specs.Known.{held_at, is_for_the_run, lives_at, reserves}
use Rattle.o2_world.specs.Map.{Map, get, put}
use Rattle.o2_world.specs.Sound.{held_of}
use Rattle.o2_world.specs.Tied.{AreFitChanges, IsSwept, IsTied}
use Rattle.o2_world.specs.World.{Held, Process, Reserve, Segment, World}
use Rattle.o2_world.proofs.ByNumber.{IsOf, from_number}
use Rattle.o2_world.proofs.MapLemmas.{get-filter}
use Rattle.o2_world.proofs.Numbers.{at_place_of}
use Rattle.o2_world.proofs.Reached.{get-put}
use Rattle.o2_world.proofs.TiedSteps.{changes_tied, swept_tied}
use Rattle.o2_world.specs.Rulings.{is_in_run}
use Rattle.o2_stands.specs.Stands.{AllDisjoint, AreOnce, IsTidy, is_by_load, is_placed, is_stretch, region_at}
use Rattle.o2_stands.specs.Tidies.{AreTidyChanges, IsFreeStretch, IsHeldRight, IsNewStretch, IsTidyChange, coming, is_fixed, is_or_will_be}
use Rattle.o2_stands.specs.Runs.{HasFullMembers, HasRunFlags, HasRuns, is_full, may_be_member}
use Rattle.o2_stands.proofs.Once.{once_all}
use Rattle.o2_stands.proofs.Reserved.{AllOfTwo, all_disjoint_left, and_parts, any_left, both_true, any_left_false, disjoint_new, none_at_all, none_of_both, or_right, stay_of, two_left, two_of}
use Rattle.o2_stands.proofs.Used.{used_found}

no_hold : (h : Held) → ◌≡◌ {A = Option Held} None (Some h) → ⊥
no_hold h e = cc

one_before : (n k : ℕ) → (n == k) ≡ true → n ≡ k
one_before n k e = grind arith

-- What is held is held as its index is reserved.

pub record AreRight (ps : List Process) (reserved more : List Reserve) : Type 0 where
  pub each : (n i : ℕ) (h : Held) → held_at ps n i ≡ Some h → IsHeldRight reserved more n i h

-- it goes by cause and run alone
pub right_as : (reserved more : List Reserve) (n i : ℕ) (h k : Held) → h.cause ≡ k.cause → h.first ≡ k.first → h.reserved ≡ k.reserved → IsHeldRight reserved more n i h → IsHeldRight reserved more n i k
right_as reserved more n i h k cause first count x = record {
  load = λ high load. x.load high (ap is_by_load cause ∙ load);
  run = λ run. subst (λ (f : ℕ). is_or_will_be reserved more (region_at n i) f k.reserved ≡ true) first
      (subst (λ (c : ℕ). is_or_will_be reserved more (region_at n i) h.first c ≡ true) count (x.run (ap (λ (c : ℕ). not (c == 0)) count ∙ run)));
  free = λ alone other. x.free (ap (λ (c : ℕ). not (c == 0)) count ∙ alone) (λ high. ap is_by_load cause ∙ other high);
}

abbrev with_more : ℕ → Held → Process → Process
with_more j x y = record y { held = put j (more x (get y.held j)) y.held }

abbrev with_fewer : ℕ → ℕ → Process → Process
with_fewer j count y = record y { held = put j (fewer count (get y.held j)) y.held }

module _ (w : World) (coming : List Reserve) (right : AreRight w.processes w.reserved coming) where
  -- the hold under this index was there, with the same cause and run
  stays : (n i : ℕ) (p : Process) (old h : Held) → process_at w.processes n ≡ Some p → get p.held i ≡ Some old → old.cause ≡ h.cause → old.first ≡ h.first → old.reserved ≡ h.reserved
      → IsHeldRight w.reserved coming n i h
  stays n i p old h at there cause first count =
      right_as w.reserved coming n i old h cause first count (right.each n i old (ap (λ (o : Option Process). held_of o i) at ∙ there))

  module _ (p j : ℕ) (x : Held) (fit : held_at w.processes p j ≡ None → IsHeldRight w.reserved coming p j x) (n i : ℕ) (h : Held) where
    of_holds : (o : IsOf w.processes p n i (with_more j x) h) (b : Bool) → (j == i) ≡ b → (v : Option Held) → get o.process.held j ≡ v → (if b then more x v else get o.process.held i) ≡ Some h
        → IsHeldRight w.reserved coming n i h
    of_holds o false q v u e = stays n i o.process h h o.there e refl refl refl
    of_holds o true q None u e =
        let same : j ≡ i = one_before j i q in
        let is : x ≡ h = cc in
        let none : held_at w.processes p j ≡ None = ap (λ (m : ℕ). held_of (process_at w.processes m) j) (sym o.same) ∙ (ap (λ (z : Option Process). held_of z j) o.there ∙ u) in
        subst (λ (y : Held). IsHeldRight w.reserved coming n i y) is
        (subst (λ (m : ℕ). IsHeldRight w.reserved coming n m x) same (subst (λ (m : ℕ). IsHeldRight w.reserved coming m j x) (sym o.same) (fit none)))
    of_holds o true q (Some old) u e =
        let same : j ≡ i = one_before j i q in
        let is : record old { holds = old.holds + x.holds } ≡ h = cc in
        stays n i o.process old h o.there (ap (get o.process.held) (sym same) ∙ u) (ap (λ (y : Held). y.cause) is) (ap (λ (y : Held). y.first) is) (ap (λ (y : Held). y.reserved) is)

    holds_right : held_at (at_number p (with_more j x) w.processes) n i ≡ Some h → IsHeldRight w.reserved coming n i h
    holds_right e = by (from_number w.processes p n i (with_more j x) h e)
      where
        by : (held_at w.processes n i ≡ Some h) ⊎ IsOf w.processes p n i (with_more j x) h → IsHeldRight w.reserved coming n i h
        by (inl f) = right.each n i h f
        by (inr o) = of_holds o (j == i) refl (get o.process.held j) refl (sym (get-put j i (more x (get o.process.held j)) o.process.held) ∙ o.is)

  module _ (p j count n i : ℕ) (h : Held) where
    fewer_is : (old : Held) (b : Bool) → (if b then Some (record old { holds = old.holds - count }) else None) ≡ Some h → (old.cause ≡ h.cause) × (old.first ≡ h.first) × (old.reserved ≡ h.reserved)
    fewer_is old true e =
        (let is : record old { holds = old.holds - count } ≡ h = cc in
        (ap (λ (y : Held). y.cause) is, ap (λ (y : Held). y.first) is, ap (λ (y : Held). y.reserved) is))
    fewer_is old false e = absurd (no_hold h e)

    of_drops : (o : IsOf w.processes p n i (with_fewer j count) h) (b : Bool) → (j == i) ≡ b → (v : Option Held) → get o.process.held j ≡ v → (if b then fewer count v else get o.process.held i) ≡ Some h
        → IsHeldRight w.reserved coming n i h
    of_drops o false q v u e = stays n i o.process h h o.there e refl refl refl
    of_drops o true q None u e = absurd (no_hold h e)
    of_drops o true q (Some old) u e =
        let z = fewer_is old (nat_lt count old.holds) e in
        stays n i o.process old h o.there (ap (get o.process.held) (sym (one_before j i q)) ∙ u) z.0 z.1 z.2

    drops_right : held_at (at_number p (with_fewer j count) w.processes) n i ≡ Some h → IsHeldRight w.reserved coming n i h
    drops_right e = by (from_number w.processes p n i (with_fewer j count) h e)
      where
        by : (held_at w.processes n i ≡ Some h) ⊎ IsOf w.processes p n i (with_fewer j count) h → IsHeldRight w.reserved coming n i h
        by (inl f) = right.each n i h f
        by (inr o) = of_drops o (j == i) refl (get o.process.held j) refl (sym (get-put j i (fewer count (get o.process.held j)) o.process.held) ∙ o.is)

-- A stretch is reserved.

passed_on : (a b c : Bool) → ((a || b) || c) ≡ true → (b || (a || c)) ≡ true
passed_on true true c e = refl
passed_on true false c e = refl
passed_on false true c e = refl
passed_on false false c e = e

reserves_right : (w : World) (r : Reserve) (more : List Reserve) → IsNewStretch w r → AreRight w.processes w.reserved (r ∷ more) → AreRight w.processes (r ∷ w.reserved) more
reserves_right w r more new right = record { each = λ n i h e. one n i h e (right.each n i h e) }
  where
    one : (n i : ℕ) (h : Held) → held_at w.processes n i ≡ Some h → IsHeldRight w.reserved (r ∷ more) n i h → IsHeldRight (r ∷ w.reserved) more n i h
    one n i h e x = record {
      load = λ high load. or_right (is_for_the_run i r) (list_any (is_for_the_run i) w.reserved) (x.load high load);
      run = λ run. passed_on (is_stretch (region_at n i) h.first h.reserved r) (list_any (is_stretch (region_at n i) h.first h.reserved) more) (list_any (is_stretch (region_at n i) h.first h.reserved) w.reserved) (x.run run);
      free = λ alone other. none_of_both (reserves (region_at n i) i r) (list_any (reserves (region_at n i) i) w.reserved) (new.runs n i h e alone) (x.free alone other);
    }

-- A stretch that nobody holds is free.
module _ (w : World) (region first : ℕ) (more : List Reserve) (free : IsFreeStretch w region first) where
  abbrev left : Reserve → Bool
  left r = not ((r.region == region) && (r.first == first))

  for_the_run : (i : ℕ) (r : Reserve) → is_for_the_run i r ≡ true → is_fixed region first r ≡ false → left r ≡ true
  for_the_run i r e none = go r.stays ((r.region == region) && (r.first == first)) (and_parts r.stays (reserves 0 i r) e).0 none
    where
      go : (s b : Bool) → s ≡ true → (s && b) ≡ false → not b ≡ true
      go true true e f = absurd (let z : true ≡ false = f in cc)
      go true false e f = refl
      go false b e f = absurd (let z : false ≡ true = e in cc)

  of_another : (g f c : ℕ) → (g ≡ region → f ≡ first → ⊥) → (r : Reserve) → is_stretch g f c r ≡ true → left r ≡ true
  of_another g f c other r e =
      let x = and_parts (not r.stays) _ e in
      let y = and_parts (r.region == g) _ x.1 in
      let z = and_parts (r.first == f) _ y.1 in
      go (r.region == region) refl (r.first == first) refl (one_before r.region g y.0) (one_before r.first f z.0)
    where
      go : (a : Bool) → (r.region == region) ≡ a → (b : Bool) → (r.first == first) ≡ b → r.region ≡ g → r.first ≡ f → not (a && b) ≡ true
      go true p true q s t = absurd (other (sym s ∙ one_before r.region region p) (sym t ∙ one_before r.first first q))
      go true p false q s t = refl
      go false p b q s t = refl

  either : (a b c : Bool) → (b ≡ true → c ≡ true) → (a || b) ≡ true → (a || c) ≡ true
  either true b c f e = refl
  either false b c f e = f e

  frees_right : AreRight w.processes w.reserved more → AreRight w.processes (filter left w.reserved) more
  frees_right right = record { each = λ n i h e. one n i h e (right.each n i h e) }
    where
      one : (n i : ℕ) (h : Held) → held_at w.processes n i ≡ Some h → IsHeldRight w.reserved more n i h → IsHeldRight (filter left w.reserved) more n i h
      one n i h e x = record {
        load = λ high load. any_left (is_for_the_run i) (is_fixed region first) left (for_the_run i) w.reserved free.goes (x.load high load);
        run = λ run. either (list_any (is_stretch (region_at n i) h.first h.reserved) more) (list_any (is_stretch (region_at n i) h.first h.reserved) w.reserved) (list_any (is_stretch (region_at n i) h.first h.reserved) (filter left w.reserved))
            (any_left (is_stretch (region_at n i) h.first h.reserved) (λ (r : Reserve). false) left (λ r f none. of_another (region_at n i) h.first h.reserved (free.unheld n i h e run) r f) w.reserved (none_at_all w.reserved)) (x.run run);
        free = λ alone other. any_left_false (reserves (region_at n i) i) left w.reserved (x.free alone other);
      }

-- One change.

right_change : (w : World) (c : Change) (cs : List Change) → IsTidyChange (coming cs) w c → AreRight w.processes w.reserved (coming (c ∷ cs)) → AreRight (with_change w c).processes (with_change w c).reserved (coming cs)
right_change w (Makes s) cs fit right = right
right_change w (Resizes m size) cs fit right = right
right_change w (Locks m count) cs fit right = right
right_change w (Marks m discarded) cs fit right = right
right_change w (Holds p j x) cs fit right = record { each = λ n i h e. holds_right w (coming cs) right p j x fit n i h e }
right_change w (Drops p j count) cs fit right = record { each = λ n i h e. drops_right w (coming cs) right p j count n i h e }
right_change w (Finishes p state) cs fit right = record { each = λ n i h e. by n i h (from_number w.processes p n i (λ (y : Process). record y { state = state; held = [] }) h e) }
  where
    by : (n i : ℕ) (h : Held) → (held_at w.processes n i ≡ Some h) ⊎ IsOf w.processes p n i (λ (y : Process). record y { state = state; held = [] }) h → IsHeldRight w.reserved (coming cs) n i h
    by n i h (inl f) = right.each n i h f
    by n i h (inr o) = absurd (no_hold h o.is)
right_change w (Reserves r) cs fit right = reserves_right w r (coming cs) fit right
right_change w (Frees region first) cs fit right = frees_right w region first (coming cs) fit right
right_change w (Names text name) cs fit right = right

pub record IsListed (rs : List Reserve) : Type 0 where
  pub two : AllOfTwo rs
  pub disjoint : AllDisjoint rs

either_of : (a b : Bool) → b ≡ true → (a || b) ≡ true
either_of true b e = refl
either_of false b e = e

listed_change : (w : World) (c : Change) (more : List Reserve) → IsTidyChange more w c → IsListed w.reserved → IsListed (with_change w c).reserved
listed_change w (Makes s) more fit listed = listed
listed_change w (Resizes m size) more fit listed = listed
listed_change w (Locks m count) more fit listed = listed
listed_change w (Marks m discarded) more fit listed = listed
listed_change w (Holds p j x) more fit listed = listed
listed_change w (Drops p j count) more fit listed = listed
listed_change w (Finishes p state) more fit listed = listed
listed_change w (Reserves r) more fit listed = record {
  two = (either_of ((r.region == 0) && r.stays) (not r.stays && is_placed r) (both_true (not r.stays) (is_placed r) (ap not fit.goes) fit.placed), listed.two);
  disjoint = (disjoint_new r w.reserved fit.new, listed.disjoint);
}
listed_change w (Frees region first) more fit listed = record {
  two = two_left (left w region first more fit) w.reserved listed.two;
  disjoint = all_disjoint_left (left w region first more fit) w.reserved listed.disjoint;
}
listed_change w (Names text name) more fit listed = listed

listed_changes : (w : World) (cs : List Change) → AreTidyChanges w cs → IsListed w.reserved → IsListed (with_changes w cs).reserved
unfolding with_changes
listed_changes w [] fit listed = listed
listed_changes w (c ∷ cs) fit listed = listed_changes (with_change w c) cs fit.1 (listed_change w c (coming cs) fit.0 listed)

right_changes : (w : World) (cs : List Change) → AreTidyChanges w cs → AreRight w.processes w.reserved (coming cs) → AreRight (with_changes w cs).processes (with_changes w cs).reserved []
unfolding with_changes
right_changes w [] fit right = right
right_changes w (c ∷ cs) fit right = right_changes (with_change w c) cs fit.1 (right_change w c cs fit.0 right)

-- What nobody holds any more is gone.

high_is : (i : ℕ) → nat_lt i 4096 ≡ false → 4096 ≤ i
high_is i e = grind arith

own_region : (n i : ℕ) → (region_at n i == 0) ≡ false → n ≡ region_at n i
own_region n i e = go (nat_lt i 4096) refl
  where
    go : (b : Bool) → nat_lt i 4096 ≡ b → n ≡ region_at n i
    go true is = rw is refl
    go false is = absurd (let z : (region_at n i == 0) ≡ true = rw is refl in false≢true (sym e ∙ z))

equal : (n : ℕ) → (n == n) ≡ true
equal n = grind arith

-- a stretch that is held is used
held_is_used : (ps : List Process) (n i : ℕ) (h : Held) → held_at ps n i ≡ Some h → is_in_run h ≡ true → (r : Reserve) → is_stretch (region_at n i) h.first h.reserved r ≡ true → is_used ps r ≡ true
held_is_used ps n i h there run r e =
    let x = and_parts (not r.stays) _ e in
    let y = and_parts (r.region == region_at n i) _ x.1 in
    let z = and_parts (r.first == h.first) _ y.1 in
    let region : r.region ≡ region_at n i = one_before r.region (region_at n i) y.0 in
    let first : r.first ≡ h.first = one_before r.first h.first z.0 in
    used_found ps r (record {
      number = n;
      index = i;
      hold = h;
      there = there;
      runs = both (h.first == r.first) (not (h.reserved == 0)) (ap (λ (f : ℕ). h.first == f) first ∙ equal h.first) run;
      own = λ no. own_region n i (ap (λ (g : ℕ). g == 0) (sym region) ∙ no) ∙ sym region;
    })
  where
    both : (a b : Bool) → a ≡ true → b ≡ true → (a && b) ≡ true
    both true b e f = f
    both false b e f = absurd (false≢true e)

fixed_is_used : (ps : List Process) (i : ℕ) (r : Reserve) → is_for_the_run i r ≡ true → is_used ps r ≡ true
fixed_is_used ps i r e =
    let x = and_parts r.stays (reserves 0 i r) e in
    let y = and_parts (r.region == 0) _ x.1 in
    rw (y.0, x.0) refl

pub right_swept : (ps : List Process) (rs : List Reserve) → AreRight ps rs [] → AreRight ps (used ps rs) []
right_swept ps rs right = record { each = λ n i h e. one n i h e (right.each n i h e) }
  where
    one : (n i : ℕ) (h : Held) → held_at ps n i ≡ Some h → IsHeldRight rs [] n i h → IsHeldRight (used ps rs) [] n i h
    one n i h e x = record {
      load = λ high load. any_left (is_for_the_run i) (λ (r : Reserve). false) (is_used ps) (λ r f none. fixed_is_used ps i r f) rs (none_at_all rs) (x.load high load);
      run = λ run. any_left (is_stretch (region_at n i) h.first h.reserved) (λ (r : Reserve). false) (is_used ps) (λ r f none. held_is_used ps n i h e run r f) rs (none_at_all rs) (x.run run);
      free = λ alone other. any_left_false (reserves (region_at n i) i) (is_used ps) rs (x.free alone other);
    }

pub listed_swept : (ps : List Process) (rs : List Reserve) → IsListed rs → IsListed (used ps rs)
listed_swept ps rs listed = record { two = two_left (is_used ps) rs listed.two; disjoint = all_disjoint_left (is_used ps) rs listed.disjoint }

-- The world behind them.

more_comes : (a : List Reserve) (ps : List Process) (rs : List Reserve) → AreRight ps rs [] → AreRight ps rs a
more_comes a ps rs right = record { each = λ n i h e. one n i h (right.each n i h e) }
  where
    one : (n i : ℕ) (h : Held) → IsHeldRight rs [] n i h → IsHeldRight rs a n i h
    one n i h x = record { load = x.load; run = λ run. or_right (list_any (is_stretch (region_at n i) h.first h.reserved) a) _ (x.run run); free = x.free }

pub right_of : (ps : List Process) (names : Map Segment) (reserved : List Reserve) → IsTidy ps names reserved → AreRight ps reserved []
right_of ps names reserved tidy = record {
  each = λ n i h e. record { load = λ high load. tidy.shared n i h high e load; run = λ run. tidy.run n i h e run; free = λ alone other. tidy.free n i h e alone other };
}

nothing_held : (w : World) → IsTied w → (n i : ℕ) → lives_at (process_at w.processes n) ≡ false → held_at w.processes n i ≡ None
nothing_held w tied n i e = go (process_at w.processes n) refl e
  where
    go : (o : Option Process) → process_at w.processes n ≡ o → lives_at o ≡ false → held_of (process_at w.processes n) i ≡ None
    go None at f = ap (λ (o : Option Process). held_of o i) at
    go (Some p) at f =
        ap (λ (o : Option Process). held_of o i) at
        ∙ ap (λ (m : Map Held). get m i) (tied.ended (n - 1) p (at_place_of w.processes n p at) f)

tidy_by : (w : World) → IsTied w → IsSwept w → AreOnce w.names → IsListed w.reserved → AreRight w.processes w.reserved [] → HasRuns (held_at w.processes) → HasRunFlags (held_at w.processes) w.names → HasFullMembers (held_at w.processes) w.names
    → IsTidy w.processes w.names w.reserved
tidy_by w tied swept once listed right runs flags full = record {
  once = once;
  used = swept.named;
  ended = nothing_held w tied;
  stay = stay_of w.processes w.reserved listed.two swept.used;
  shared = λ n i h high e load. (right.each n i h e).load high load;
  run = λ n i h e run. (right.each n i h e).run run;
  free = λ n i h e alone other. (right.each n i h e).free alone other;
  disjoint = listed.disjoint;
  runs = runs;
  flags = flags;
  full = full;
}

module _ (w : World) (cs : List Change) (tied : IsTied w) (fit : AreFitChanges w cs) (tidies : AreTidyChanges w cs) (tidy : IsTidy w.processes w.names w.reserved) where
  abbrev v : World
  v = with_changes w cs

  listed : IsListed v.reserved
  listed = listed_changes w cs tidies (record { two = two_of w.processes w.reserved tidy.stay; disjoint = tidy.disjoint })

  right : AreRight v.processes v.reserved []
  right = right_changes w cs tidies (more_comes (coming cs) w.processes w.reserved (right_of w.processes w.names w.reserved tidy))

  tied_behind : IsTied v
  tied_behind = changes_tied w cs fit tied

  all_tied : (b : Bool) → IsTied (if b then swept v else v)
  all_tied true = swept_tied v tied_behind
  all_tied false = tied_behind

  all_listed : (b : Bool) → IsListed (if b then swept v else v).reserved
  all_listed true = listed_swept v.processes v.reserved listed
  all_listed false = listed

  all_right : (b : Bool) → AreRight (if b then swept v else v).processes (if b then swept v else v).reserved []
  all_right true = right_swept v.processes v.reserved right
  all_right false = right

  -- names that go take no flags from members
  swept_flags : HasRunFlags (held_at v.processes) v.names → HasRunFlags (held_at v.processes) (kept v.processes v.names)
  swept_flags flags = record { each = λ n i h m. ap (may_be_member i) (get-filter (is_held v.processes) v.names h.name) ∙ go i (is_held v.processes h.name) (get v.names h.name) (flags.each n i h m) }
    where
      go : (i : ℕ) (b : Bool) (o : Option Segment) → may_be_member i o ≡ true → may_be_member i (if b then o else None) ≡ true
      go i true o e = e
      go i false o e = refl

  swept_full : HasFullMembers (held_at v.processes) v.names → HasFullMembers (held_at v.processes) (kept v.processes v.names)
  swept_full full = record { each = λ n i h m s some. ap is_full (get-filter (is_held v.processes) v.names h.name) ∙ go (is_held v.processes h.name) (get v.names h.name) (full.each n i h m s some) }
    where
      go : (b : Bool) (o : Option Segment) → is_full o ≡ true → is_full (if b then o else None) ≡ true
      go true o e = e
      go false o e = refl

  all_runs : HasRuns (held_at v.processes) → (b : Bool) → HasRuns (held_at (if b then swept v else v).processes)
  all_runs runs true = runs
  all_runs runs false = runs

  all_flags : HasRunFlags (held_at v.processes) v.names → (b : Bool) → HasRunFlags (held_at (if b then swept v else v).processes) (if b then swept v else v).names
  all_flags flags true = swept_flags flags
  all_flags flags false = flags

  all_full : HasFullMembers (held_at v.processes) v.names → (b : Bool) → HasFullMembers (held_at (if b then swept v else v).processes) (if b then swept v else v).names
  all_full full true = swept_full full
  all_full full false = full

  pub tidy_behind : IsSwept (with_all w cs) → HasRuns (held_at v.processes) → HasRunFlags (held_at v.processes) v.names → HasFullMembers (held_at v.processes) v.names
      → IsTidy (with_all w cs).processes (with_all w cs).names (with_all w cs).reserved
  tidy_behind swept runs flags full =
      tidy_by (with_all w cs) (all_tied (list_any takes cs)) swept (once_all w cs fit tied tidy.once) (all_listed (list_any takes cs)) (all_right (list_any takes cs))
      (all_runs runs (list_any takes cs)) (all_flags flags (list_any takes cs)) (all_full full (list_any takes cs))
