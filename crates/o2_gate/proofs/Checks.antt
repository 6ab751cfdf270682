-- Pointers as a bus tests them, and as the boundless machine does.
use Rattle.std.proofs.Common.{◌≡◌, ◌⊎◌, inl, inr, ℕ, ◌+◌, Bool, true, false, cond, ◌&&◌, ◌||◌, ◌==◌, nat_le, List, [], ◌∷◌, length, Option, Some, None, ap, sym, ◌∙◌, refl, subst, arith}
use Rattle.o2_base.specs.declared.selector.Selector.{Selector}
use Rattle.o2_isa.specs.declared.cpu.Purpose.TheVariants.{DataReg}
use Rattle.o2_isa.specs.declared.cpu.Loaded.{Loaded}
use Rattle.o2_isa.specs.declared.cpu.Loaded.TheVariants as loaded
use Rattle.o2_isa.specs.View.{View, Hold, Filling, found, bound_in, is_null, is_readable, here, when, refused, trap_of, probe_of}
use Rattle.o2_isa.specs.Steps.{selector}
use Rattle.o2_isa.specs.Pointers.{is_passed, is_for_es, has_range, is_good, is_ready}
use Rattle.o2_isa.specs.Presence.{IsMissed, is_in}
use Rattle.o2_world.specs.Slots.{Pointer}
use Rattle.o2_run.specs.Room.{pointed, passed}
use Rattle.o2_gate.specs.Befores.{boundless}
use Rattle.o2_gate.specs.declared.pointer.Pointed.{Pointed}
use Rattle.o2_gate.specs.declared.pointer.Pointed.TheVariants.{Good, Bad, Missed}
use Rattle.o2_gate.specs.Pointed.{ArePresent, IsGoodTest, IsBadTest, IsMissedTest, Pointers, Tells, only}

-- The rules for loading ES, by what a selector names.

abbrev loads : View → ℕ → Option Hold → Loaded
loads v s o = cond (is_null s) loaded.Done (when v 11 s is_readable o)

es_is : (v : View) (s : ℕ) → is_for_es v s ≡ is_passed (loads v s (found v s))
unfolding probe_of
es_is v s = refl

passed_hold : (f : Filling) (v : View) (s : ℕ) (n : Bool) (o : Option Hold)
    → is_passed (cond n loaded.Done (when (boundless f v) 11 s is_readable o)) ≡ is_passed (cond n loaded.Done (when v 11 s is_readable o))
passed_hold f v s true o = refl
passed_hold f v s false None = refl
passed_hold f v s false (Some h) = go (is_readable h.rights) (v.discarded h.name) (v.present h.name)
  where
    go : (r d p : Bool) → is_passed (cond r (cond d (trap_of 11 s) loaded.Done) (refused s))
        ≡ is_passed (cond r (cond d (trap_of 11 s) (cond p loaded.Done (loaded.Miss (selector s)))) (refused s))
    go true true p = refl
    go true false true = refl
    go true false false = refl
    go false d p = refl

-- which selectors pass doesn't depend on what is present
pub es_boundless : (f : Filling) (v : View) (s : ℕ) → is_for_es (boundless f v) s ≡ is_for_es v s
es_boundless f v s = es_is (boundless f v) s ∙ passed_hold f v s (is_null s) (found v s) ∙ sym (es_is v s)

-- What a probe says of a selector that isn't null.

pub record IsSeen (v : View) (s : ℕ) (present : Bool) : Type 0 where
  pub hold : Hold
  pub found_it : found v s ≡ Some hold
  pub readable : is_readable hold.rights ≡ true
  pub at_hand : v.present hold.name ≡ present
  pub whole : v.discarded hold.name ≡ false

done_here : (v : View) (s : ℕ) (h : Hold) (d p : Bool) → found v s ≡ Some h → is_readable h.rights ≡ true → v.discarded h.name ≡ d → v.present h.name ≡ p
    → loaded.Done ≡ cond d (trap_of 11 s) (cond p loaded.Done (loaded.Miss (selector s))) → IsSeen v s true
done_here v s h true p found_it readable whole at_hand e = absurd (cc)
done_here v s h false true found_it readable whole at_hand e = record { hold = h; found_it = found_it; readable = readable; at_hand = at_hand; whole = whole }
done_here v s h false false found_it readable whole at_hand e = absurd (cc)

done_hold : (v : View) (s : ℕ) (o : Option Hold) → found v s ≡ o → loaded.Done ≡ when v 11 s is_readable o → IsSeen v s true
done_hold v s None found_it e = absurd (cc)
done_hold v s (Some h) found_it e = go (is_readable h.rights) refl e
  where
    go : (r : Bool) → is_readable h.rights ≡ r → loaded.Done ≡ cond r (here v 11 s h) (refused s) → IsSeen v s true
    go true readable e = done_here v s h (v.discarded h.name) (v.present h.name) found_it readable refl refl e
    go false readable e = absurd (cc)

pub done_seen : (v : View) (s : ℕ) → is_null s ≡ false → loaded.Done ≡ probe_of v DataReg (selector s) → IsSeen v s true
unfolding probe_of
done_seen v s some e = done_hold v s (found v s) refl (rw some at e)

pub record IsUnseen (v : View) (s : ℕ) (t : Selector) : Type 0 where
  pub same : t ≡ selector s
  pub seen : IsSeen v s false

miss_here : (v : View) (s : ℕ) (t : Selector) (h : Hold) (d p : Bool) → found v s ≡ Some h → is_readable h.rights ≡ true → v.discarded h.name ≡ d → v.present h.name ≡ p
    → loaded.Miss t ≡ cond d (trap_of 11 s) (cond p loaded.Done (loaded.Miss (selector s))) → IsUnseen v s t
miss_here v s t h true p found_it readable whole at_hand e = absurd (cc)
miss_here v s t h false true found_it readable whole at_hand e = absurd (cc)
miss_here v s t h false false found_it readable whole at_hand e =
    let same : t ≡ selector s = cc in record { same = same; seen = record { hold = h; found_it = found_it; readable = readable; at_hand = at_hand; whole = whole } }

miss_hold : (v : View) (s : ℕ) (t : Selector) (o : Option Hold) → found v s ≡ o → loaded.Miss t ≡ when v 11 s is_readable o → IsUnseen v s t
miss_hold v s t None found_it e = absurd (cc)
miss_hold v s t (Some h) found_it e = go (is_readable h.rights) refl e
  where
    go : (r : Bool) → is_readable h.rights ≡ r → loaded.Miss t ≡ cond r (here v 11 s h) (refused s) → IsUnseen v s t
    go true readable e = miss_here v s t h (v.discarded h.name) (v.present h.name) found_it readable refl refl e
    go false readable e = absurd (cc)

pub miss_seen : (v : View) (s : ℕ) (t : Selector) → is_null s ≡ false → loaded.Miss t ≡ probe_of v DataReg (selector s) → IsUnseen v s t
unfolding probe_of
miss_seen v s t some e = miss_hold v s t (found v s) refl (rw some at e)

-- Tests of one pointer, by what was found.

pub none_named : (v : View) → ArePresent v []
none_named v n e = absurd (cc)

one_name : (n m : ℕ) → is_in n (m ∷ []) ≡ true → m ≡ n
one_name n m e = grind arith

pub one_named : (v : View) (m : ℕ) → v.present m ≡ true → ArePresent v (m ∷ [])
one_named v m here n e = subst (λ (k : ℕ). v.present k ≡ true) (one_name n m e) here

names_at : (v : View) (m : ℕ) (a b : Bool) → v.present m ≡ true → ArePresent v (cond a (m ∷ cond b [] []) [])
names_at v m true true here = one_named v m here
names_at v m true false here = one_named v m here
names_at v m false b here = none_named v

module _ (v : View) (p : Pointer) where
  -- the name behind the pointer, where it has one, is present
  names_present : (w : View) (o : Option Hold) → ((h : Hold) → o ≡ Some h → v.present h.name ≡ true) → ArePresent v (passed w o p [])
  names_present w None present = none_named v
  names_present w (Some h) present = names_at v h.name (is_for_es w p.selector) (p.good h.rights && nat_le (p.offset + p.count) (length (w.bytes h.name))) (present h refl)

  -- no name passes
  names_none : (w : View) (o : Option Hold) → ((h : Hold) → o ≡ Some h → is_for_es w p.selector ≡ false) → ArePresent v (passed w o p [])
  names_none w None refuses = none_named v
  names_none w (Some h) refuses =
      subst (λ (a : Bool). ArePresent v (cond a (h.name ∷ cond (p.good h.rights && nat_le (p.offset + p.count) (length (w.bytes h.name))) [] []) [])) (sym (refuses h refl)) (none_named v)

  by_count : (z : Bool) (w : View) → (p.count == 0) ≡ z → ArePresent v (cond z [] (passed w (bound_in w.held p.selector) p [])) → ArePresent v (pointed w (p ∷ []))
  by_count z w is h = subst (λ (y : Bool). ArePresent v (cond y [] (passed w (bound_in w.held p.selector) p []))) (sym is) h

  or_left : (a b : Bool) → a ≡ true → ((a || b) && true) ≡ true
  or_left a b e = grind arith

  or_right : (a b : Bool) → b ≡ true → ((a || b) && true) ≡ true
  or_right a b e = grind arith

  or_none : (a b : Bool) → a ≡ false → b ≡ false → ((a || b) && true) ≡ false
  or_none a b e f = grind arith

  -- a range of no bytes
  pub nothing : (p.count == 0) ≡ true → IsGoodTest v (only p)
  unfolding is_good is_ready
  nothing zero = record {
    good = λ f. or_left (p.count == 0) _ zero;
    ready = λ f. or_left (p.count == 0) _ zero;
    names = λ f. by_count true (boundless f v) zero (none_named v);
  }

  -- what the selector names can't be loaded into ES
  pub unfit : (p.count == 0) ≡ false
      → ((f : Filling) (h : Hold) → bound_in v.held p.selector ≡ Some h → is_for_es (boundless f v) p.selector ≡ false) → IsBadTest v (only p)
  unfolding is_good
  unfit some refuses = record {
    good = λ f. or_none (p.count == 0) _ some (by_hold f (bound_in v.held p.selector) (refuses f));
    names = λ f. by_count false (boundless f v) some (names_none (boundless f v) (bound_in v.held p.selector) (refuses f));
  }
    where
      not_all : (a b : Bool) → a ≡ false → (a && b) ≡ false
      not_all a b e = grind arith

      never : (a : Bool) → (a && false) ≡ false
      never a = grind arith

      by_hold : (f : Filling) (o : Option Hold) → ((h : Hold) → o ≡ Some h → is_for_es (boundless f v) p.selector ≡ false)
          → (is_for_es (boundless f v) p.selector && has_range (boundless f v).bytes p.good p.offset p.count o) ≡ false
      by_hold f None no_hold = never (is_for_es (boundless f v) p.selector)
      by_hold f (Some h) no_hold = not_all (is_for_es (boundless f v) p.selector) _ (no_hold h refl)

  bytes_here : (f : Filling) (h : Hold) → v.present h.name ≡ true → (boundless f v).bytes h.name ≡ v.bytes h.name
  bytes_here f h here = ap (λ (b : Bool). cond b (v.bytes h.name) (v.hidden.away h.name f.blocks)) here

  only_hold : (h : Hold) → bound_in v.held p.selector ≡ Some h → v.present h.name ≡ true → (k : Hold) → bound_in v.held p.selector ≡ Some k → v.present k.name ≡ true
  only_hold h is here k e = let same : h ≡ k = cc in subst (λ (x : Hold). v.present x.name ≡ true) same here

  -- it is present, and the range lies in it
  pub fits : (p.count == 0) ≡ false → is_for_es v p.selector ≡ true → (h : Hold) → bound_in v.held p.selector ≡ Some h → v.present h.name ≡ true
      → p.good h.rights ≡ true → nat_le (p.offset + p.count) (length (v.bytes h.name)) ≡ true → IsGoodTest v (only p)
  unfolding is_good is_ready
  fits some es h is here good lies = record {
    good = λ f. or_right (p.count == 0) _ (all_good f);
    ready = λ f. or_right (p.count == 0) _ (rw (is, here, good, lies) refl);
    names = λ f. by_count false (boundless f v) some (names_present (boundless f v) (bound_in v.held p.selector) (only_hold h is here));
  }
    where
      all_good : (f : Filling) → (is_for_es (boundless f v) p.selector && has_range (boundless f v).bytes p.good p.offset p.count (bound_in v.held p.selector)) ≡ true
      all_good f = rw (es_boundless f v p.selector, es, is, bytes_here f h here, good, lies) refl

  -- it is present, and it isn't good for the pointer, or the range doesn't lie in it
  pub exceeds : (p.count == 0) ≡ false → (h : Hold) → bound_in v.held p.selector ≡ Some h → v.present h.name ≡ true
      → (p.good h.rights && nat_le (p.offset + p.count) (length (v.bytes h.name))) ≡ false → IsBadTest v (only p)
  unfolding is_good
  exceeds some h is here beyond = record {
    good = λ f. or_none (p.count == 0) _ some (none_good f);
    names = λ f. by_count false (boundless f v) some (names_present (boundless f v) (bound_in v.held p.selector) (only_hold h is here));
  }
    where
      last_fails : (a b : Bool) → b ≡ false → (a && b) ≡ false
      last_fails a b e = grind arith

      none_good : (f : Filling) → (is_for_es (boundless f v) p.selector && has_range (boundless f v).bytes p.good p.offset p.count (bound_in v.held p.selector)) ≡ false
      none_good f =
          subst (λ (o : Option Hold). (is_for_es (boundless f v) p.selector && has_range (boundless f v).bytes p.good p.offset p.count o) ≡ false) (sym is)
          (last_fails (is_for_es (boundless f v) p.selector) _ (ap (λ (bs : List ℕ). p.good h.rights && nat_le (p.offset + p.count) (length bs)) (bytes_here f h here) ∙ beyond))

  -- it isn't present
  pub misses : (p.count == 0) ≡ false → is_for_es v p.selector ≡ true → (h : Hold) → found v p.selector ≡ Some h → bound_in v.held p.selector ≡ Some h
      → v.present h.name ≡ false → v.discarded h.name ≡ false → (f : Filling) → IsMissed v (selector p.selector) (pointed (boundless f v) (p ∷ []))
  misses some es h found_it is absent kept f = record { hold = h; found_it = found_it; absent = absent; whole = kept; named = named }
    where
      first : (n : ℕ) (rest : List ℕ) → is_in n (n ∷ rest) ≡ true
      first n rest = grind arith

      named : is_in h.name (pointed (boundless f v) (p ∷ [])) ≡ true
      named = rw (some, is, es_boundless f v p.selector, es) (first h.name _)

-- Two pointers, one after the other.

names_split : (n : ℕ) (w : View) (p : Pointer) (qs : List Pointer) → is_in n (pointed w (p ∷ qs)) ≡ true
    → (is_in n (pointed w (p ∷ [])) ≡ true) ⊎ (is_in n (pointed w qs) ≡ true)
names_split n w p qs = by_number (p.count == 0) (bound_in w.held p.selector)
  where
    rest : List ℕ
    rest = pointed w qs

    head_or : (m : ℕ) (xs : List ℕ) → is_in n (m ∷ xs) ≡ true → (is_in n (m ∷ []) ≡ true) ⊎ (is_in n xs ≡ true)
    head_or m xs e = by_head (m == n) refl
      where
        here : (m == n) ≡ true → is_in n (m ∷ []) ≡ true
        here is = grind arith

        there : (m == n) ≡ false → is_in n xs ≡ true
        there is = grind arith

        by_head : (b : Bool) → (m == n) ≡ b → (is_in n (m ∷ []) ≡ true) ⊎ (is_in n xs ≡ true)
        by_head true is = inl (here is)
        by_head false is = inr (there is)

    by_tests : (m : ℕ) (a r : Bool) → is_in n (cond a (m ∷ cond r rest []) []) ≡ true → (is_in n (cond a (m ∷ cond r [] []) []) ≡ true) ⊎ (is_in n rest ≡ true)
    by_tests m true true e = head_or m rest e
    by_tests m true false e = inl e
    by_tests m false r e = absurd (cc)

    by_number : (z : Bool) (o : Option Hold) → is_in n (cond z rest (passed w o p rest)) ≡ true → (is_in n (cond z [] (passed w o p [])) ≡ true) ⊎ (is_in n rest ≡ true)
    by_number true o e = inr e
    by_number false None e = absurd (cc)
    by_number false (Some h) e = by_tests h.name (is_for_es w p.selector) (p.good h.rights && nat_le (p.offset + p.count) (length (w.bytes h.name))) e

present_split : (v w : View) (p : Pointer) (qs : List Pointer) → ArePresent v (pointed w (p ∷ [])) → ArePresent v (pointed w qs) → ArePresent v (pointed w (p ∷ qs))
present_split v w p qs first rest n e = go (names_split n w p qs e)
  where
    go : (is_in n (pointed w (p ∷ [])) ≡ true) ⊎ (is_in n (pointed w qs) ≡ true) → v.present n ≡ true
    go (inl x) = first n x
    go (inr x) = rest n x

module _ (n : ℕ) (w : View) (p : Pointer) (qs : List Pointer) where
  abbrev rest_of : List ℕ
  rest_of = pointed w qs

  first_in : (m : ℕ) (a r : Bool) → is_in n (cond a (m ∷ cond r [] []) []) ≡ true → is_in n (cond a (m ∷ cond r rest_of []) []) ≡ true
  first_in m true true e = longer m rest_of e
    where
      longer : (m : ℕ) (xs : List ℕ) → is_in n (m ∷ []) ≡ true → is_in n (m ∷ xs) ≡ true
      longer m xs e = grind arith
  first_in m true false e = e
  first_in m false r e = absurd (cc)

  pub names_first : (z : Bool) (o : Option Hold) → is_in n (cond z [] (passed w o p [])) ≡ true → is_in n (cond z rest_of (passed w o p rest_of)) ≡ true
  names_first true o e = absurd (cc)
  names_first false None e = absurd (cc)
  names_first false (Some h) e = first_in h.name (is_for_es w p.selector) (p.good h.rights && nat_le (p.offset + p.count) (length (w.bytes h.name))) e

  -- the names behind a pointer that is good
  behind_in : (m : ℕ) (a r : Bool) → (a && r) ≡ true → is_in n rest_of ≡ true → is_in n (cond a (m ∷ cond r rest_of []) []) ≡ true
  behind_in m true true e here = longer m rest_of here
    where
      longer : (m : ℕ) (xs : List ℕ) → is_in n xs ≡ true → is_in n (m ∷ xs) ≡ true
      longer m xs e = grind arith
  behind_in m true false e here = absurd (cc)
  behind_in m false r e here = absurd (cc)

  behind_hold : (e : Bool) (o : Option Hold) → e ≡ is_for_es w p.selector → (e && has_range w.bytes p.good p.offset p.count o) ≡ true → is_in n rest_of ≡ true → is_in n (passed w o p rest_of) ≡ true
  behind_hold true None is q here = absurd (cc)
  behind_hold false None is q here = absurd (cc)
  behind_hold e (Some h) is q here =
      behind_in h.name (is_for_es w p.selector) (p.good h.rights && nat_le (p.offset + p.count) (length (w.bytes h.name)))
      (subst (λ (x : Bool). (x && has_range w.bytes p.good p.offset p.count (Some h)) ≡ true) is q) here

  names_behind : (z : Bool) → ((z || (is_for_es w p.selector && has_range w.bytes p.good p.offset p.count (bound_in w.held p.selector))) && true) ≡ true
      → is_in n rest_of ≡ true → is_in n (cond z rest_of (passed w (bound_in w.held p.selector) p rest_of)) ≡ true
  names_behind true q here = here
  names_behind false q here = behind_hold (is_for_es w p.selector) (bound_in w.held p.selector) refl (plain _ q) here
    where
      plain : (b : Bool) → (b && true) ≡ true → b ≡ true
      plain b e = grind arith

  -- none behind one that is bad
  stop_in : (m : ℕ) (a r : Bool) → (a && r) ≡ false → is_in n (cond a (m ∷ cond r rest_of []) []) ≡ true → is_in n (cond a (m ∷ cond r [] []) []) ≡ true
  stop_in m true true e here = absurd (cc)
  stop_in m true false e here = here
  stop_in m false r e here = absurd (cc)

  stop_hold : (o : Option Hold) → (is_for_es w p.selector && has_range w.bytes p.good p.offset p.count o) ≡ false → is_in n (passed w o p rest_of) ≡ true → is_in n (passed w o p []) ≡ true
  stop_hold None q here = here
  stop_hold (Some h) q here = stop_in h.name (is_for_es w p.selector) (p.good h.rights && nat_le (p.offset + p.count) (length (w.bytes h.name))) q here

  pub names_stop : (z : Bool) → ((z || (is_for_es w p.selector && has_range w.bytes p.good p.offset p.count (bound_in w.held p.selector))) && true) ≡ false
      → is_in n (cond z rest_of (passed w (bound_in w.held p.selector) p rest_of)) ≡ true → is_in n (cond z [] (passed w (bound_in w.held p.selector) p [])) ≡ true
  names_stop true q here = absurd (cc)
  names_stop false q here = stop_hold (bound_in w.held p.selector) (plain _ q) here
    where
      plain : (b : Bool) → (b && true) ≡ false → b ≡ false
      plain b e = grind arith

and_one : (a b : Bool) → (a && true) ≡ true → b ≡ true → (a && b) ≡ true
and_one a b e f = grind arith

and_none : (a b : Bool) → (a && true) ≡ true → b ≡ false → (a && b) ≡ false
and_none a b e f = grind arith

and_bad : (a b : Bool) → (a && true) ≡ false → (a && b) ≡ false
and_bad a b e = grind arith

module _ (v : View) (p : View → Pointer) (qs : Pointers) where
  abbrev first : Pointers
  first w = p w ∷ []

  abbrev both : Pointers
  both w = p w ∷ qs w

  good_then_good : IsGoodTest v first → IsGoodTest v qs → IsGoodTest v both
  good_then_good x y = record {
    good = λ f. and_one _ _ (x.good f) (y.good f);
    ready = λ f. and_one _ _ (x.ready f) (y.ready f);
    names = λ f. present_split v (boundless f v) (p (boundless f v)) (qs (boundless f v)) (x.names f) (y.names f);
  }

  good_then_bad : IsGoodTest v first → IsBadTest v qs → IsBadTest v both
  good_then_bad x y = record {
    good = λ f. and_none _ _ (x.good f) (y.good f);
    names = λ f. present_split v (boundless f v) (p (boundless f v)) (qs (boundless f v)) (x.names f) (y.names f);
  }

  good_then_missed : (s : Selector) → IsGoodTest v first → IsMissedTest v s qs → IsMissedTest v s both
  unfolding is_good
  good_then_missed s x y = record {
    away = y.away;
    missed = λ f.
        let m = y.missed f in
        record {
          hold = m.hold;
          found_it = m.found_it;
          absent = m.absent;
          whole = m.whole;
          named = names_behind m.hold.name (boundless f v) (p (boundless f v)) (qs (boundless f v)) ((p (boundless f v)).count == 0) (x.good f) m.named;
        };
  }

  -- behind a pointer that is good, the rest decides
  pub then_tells : (r : Pointed) → IsGoodTest v first → Tells v qs r → Tells v both r
  then_tells Good x y = good_then_good x y
  then_tells Bad x y = good_then_bad x y
  then_tells (Missed s) x y = good_then_missed s x y

  pub bad_first : IsBadTest v first → IsBadTest v both
  unfolding is_good
  bad_first x = record {
    good = λ f. and_bad _ _ (x.good f);
    names = λ f n e. x.names f n (names_stop n (boundless f v) (p (boundless f v)) (qs (boundless f v)) ((p (boundless f v)).count == 0) (x.good f) e);
  }

  pub missed_first : (s : Selector) → IsMissedTest v s first → IsMissedTest v s both
  missed_first s x = record {
    away = x.away;
    missed = λ f.
        let m = x.missed f in
        let w = boundless f v in
        record {
          hold = m.hold;
          found_it = m.found_it;
          absent = m.absent;
          whole = m.whole;
          named = names_first m.hold.name w (p w) (qs w) ((p w).count == 0) (bound_in v.held (p w).selector) m.named;
        };
  }

-- no pointer
pub no_pointers : (v : View) → IsGoodTest v (λ w. [])
no_pointers v = record { good = λ f. refl; ready = λ f. refl; names = λ f. none_named v }
