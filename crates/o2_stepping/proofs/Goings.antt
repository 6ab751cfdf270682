-- Who comes into memory for a step, and who leaves it, over all its tries.
use Rattle.std.proofs.Common.{◌≡◌, inl, inr, ℕ, suc, ◌+◌, ◌<◌, ◌≤◌, ◌==◌, Bool, true, false, List, [], ◌∷◌, ◌++◌, length, Some, None, is_some, IsSome, refl, sym, ap, ◌∙◌, subst, arith}
use Rattle.std.specs.Prelude.{slice_get}
use Rattle.std.proofs.lemmas.Bool.{cases_eq, eq-eqb, false≢true, ne_eqb}
use Rattle.o2_isa.specs.Presence.{is_in}
use Rattle.o2_place.specs.declared.seg_id.SegId.{SegId}
use Rattle.o2_place.specs.Layout.{Layout, find_in, len_of, over, used}
use Rattle.o2_store.specs.Leaving.{HadToLeave, LeaveFor, NoneLeaves}
use Rattle.o2_store.specs.Shelf.{Shelf, IsShelf, SameTables, entry, entry_of, place_of, rounded}
use Rattle.o2_store.proofs.Departing.{came_in, had_first, had_later}
use Rattle.o2_store.proofs.Leaving.{by_presence, some_not_none}
use Rattle.o2_service.specs.Needs.{AreLive, OnlyNeededComes, Stays, needs}
use Rattle.o2_service.proofs.Departed.{not_needed, was_there}
use Rattle.o2_stepping.specs.Goings.{GoForRoom, NoneGoes, OnlyNamedCome}
use Rattle.o2_stepping.specs.Rooms.{ages_of}
use Rattle.o2_stepping.proofs.Bringing.{needs_both}
use Rattle.o2_stepping.proofs.Named.{age_is, or_back, or_front}

-- Where nothing is done, and what one call leaves.

pub goes_refl : (s : Shelf) → GoForRoom s s
goes_refl s = inl (record { each = λ k i. i; load = omega arith; comes = λ k n i. absurd (some_not_none (place_of s k) i n) })

pub goes_served : (s t : Shelf) → SameTables s t → IsShelf s → IsShelf t → over (λ k. len_of (place_of s k)) (length s.entries) ≡ used s.places.ranges
    → over (λ k. len_of (place_of t k)) (length t.entries) ≡ used t.places.ranges → LeaveFor s t 0 → GoForRoom s t
goes_served s t same h q sum_s sum_t p = elim p [
  | inl n ↦ inl (record { each = n.each; load = n.load; comes = λ k a b. came_in s t k same h q sum_s sum_t n.each a b })
  | inr h ↦ inr h
]

-- a change of bytes alone
pub goes_kept : (s t u : Shelf) → u.places ≡ t.places → GoForRoom s t → GoForRoom s u
goes_kept s t u e p = elim p [
  | inl n ↦ inl (record {
    each = λ k i. ap (λ (x : Layout). is_some (find_in x.ranges k)) e ∙ n.each k i;
    load = (let a : used u.places.ranges ≡ used t.places.ranges = ap (λ (x : Layout). used x.ranges) e in let b = n.load in omega (arith, a, b));
    comes = λ k a i.
        (let b = n.comes k a (sym (ap (λ (x : Layout). is_some (find_in x.ranges k)) e) ∙ i) in
        let d : used u.places.ranges ≡ used t.places.ranges = ap (λ (x : Layout). used x.ranges) e in
        omega (arith, b, d));
  })
  | inr h ↦ inr (record {
    number = h.number;
    was = h.was;
    out = ap (λ (x : Layout). find_in x.ranges h.number) e ∙ h.out;
    short = subst (λ (x : Layout). x.size < used x.ranges + rounded (entry s h.number).size + 0) (sym e) h.short;
  })
]

pub only_kept : (need : List (SegId × ℕ)) (s t u : Shelf) → u.places ≡ t.places → OnlyNeededComes need s t → OnlyNeededComes need s u
only_kept need s t u e o = record { each = λ k f n. ap (λ (x : Layout). find_in x.ranges k) e ∙ o.each k f n }

pub stays_kept : (need : List (SegId × ℕ)) (s t u : Shelf) → u.places ≡ t.places → Stays need s t → Stays need s u
stays_kept need s t u e o = record { each = λ k f i. ap (λ (x : Layout). is_some (find_in x.ranges k)) e ∙ o.each k f i }

-- One try behind another.

none_goes_then : (s t u : Shelf) → SameTables s t → NoneGoes s t → NoneGoes t u → NoneGoes s u
none_goes_then s t u same m n = record {
  each = λ k i. n.each k (m.each k i);
  load = (let a = m.load in let b = n.load in omega (arith, a, b));
  comes = λ k a b. elim (by_presence (place_of t k)) [
    | inl out ↦
        (let x = n.comes k out b in
        let y = m.load in
        let z : rounded (entry t k).size ≡ rounded (entry s k).size = ap rounded (same.same k).size in
        omega (arith, x, y, z))
    | inr mid ↦ (let x = m.comes k a mid in let y = n.load in omega (arith, x, y))
  ];
}

none_of : (s t : Shelf) → NoneGoes s t → NoneLeaves s t
none_of s t n = record { each = n.each; load = n.load }

-- who had to leave before hasn't come in again
still_out : (s t u : Shelf) → SameTables s t → u.places.size ≡ t.places.size → used u.places.ranges ≤ u.places.size → NoneGoes t u → (h : HadToLeave s t 0) → place_of u h.number ≡ None
still_out s t u same size room n h = elim (by_presence (place_of u h.number)) [
  | inl out ↦ out
  | inr here ↦ absurd
      (let a = n.comes h.number h.out here in
      let b = h.short in
      let d : rounded (entry t h.number).size ≡ rounded (entry s h.number).size = ap rounded (same.same h.number).size in
      omega (arith, a, b, d, room, size))
]

pub goes_then : (need : List (SegId × ℕ)) (s t u : Shelf) → SameTables s t → u.places.size ≡ t.places.size → used u.places.ranges ≤ u.places.size → OnlyNeededComes need s t → Stays need t u
    → GoForRoom s t → GoForRoom t u → GoForRoom s u
goes_then need s t u same size room only stays p q = elim q [
  | inl n ↦ elim p [
    | inl m ↦ inl (none_goes_then s t u same m n)
    | inr h ↦ inr (had_later s t u 0 size (none_of t u n) h (still_out s t u same size room n h))
  ]
  | inr h ↦ inr (had_first s t u 0 same h (was_there need s t h.number only (not_needed need t u h.number stays h.was h.out) h.was))
]

-- What is needed too.

pub only_more : (need more : List (SegId × ℕ)) (s t : Shelf) → OnlyNeededComes need s t → OnlyNeededComes (need ++ more) s t
only_more need more s t o = record { each = λ k f n. o.each k (fewer k f) n }
  where
    fewer : (k : ℕ) → needs (need ++ more) k ≡ false → needs need k ≡ false
    fewer k f = go (needs need k) refl
      where
        go : (b : Bool) → needs need k ≡ b → needs need k ≡ false
        go false e = e
        go true e = absurd (false≢true (sym f ∙ (needs_both need more k ∙ or_front (needs need k) (needs more k) e)))

-- By names.

named_age : (t : Shelf) (need : List (SegId × ℕ)) (k : ℕ) → ((i : ℕ) (p : SegId × ℕ) → slice_get need i ≡ Some p → IsSome (entry_of t p.0)) → needs need k ≡ true → is_in (entry t k).age (ages_of need) ≡ true
named_age t [] k l e = absurd (false≢true e)
named_age t (p ∷ ps) k l e = elim (cases_eq k p.0.key) [
  | inl same ↦
      (let a : (entry t k).age ≡ p.0.age = ap (λ (j : ℕ). (entry t j).age) same ∙ age_is t p.0 (l 0 p refl) in
      or_front (p.0.age == (entry t k).age) (is_in (entry t k).age (ages_of ps)) (eq-eqb p.0.age (entry t k).age (sym a)))
  | inr other ↦
      (let f : (k == p.0.key) ≡ false = ne_eqb k p.0.key other in
      let r : needs ps k ≡ true = rw f at e in
      or_back (p.0.age == (entry t k).age) (is_in (entry t k).age (ages_of ps)) (named_age t ps k (λ i q g. l (suc i) q g) r))
]

pub only_named : (need : List (SegId × ℕ)) (s t : Shelf) (names : List ℕ) → AreLive t need → SameTables s t → ((n : ℕ) → is_in n (ages_of need) ≡ true → is_in n names ≡ true) → OnlyNeededComes need s t
    → OnlyNamedCome names s t
only_named need s t names live same named o = record { each = λ k f n. o.each k (other k f) n }
  where
    other : (k : ℕ) → is_in (entry s k).age names ≡ false → needs need k ≡ false
    other k f = go (needs need k) refl
      where
        go : (b : Bool) → needs need k ≡ b → needs need k ≡ false
        go false e = e
        go true e = absurd (false≢true
            (sym f ∙ named (entry s k).age (subst (λ (n : ℕ). is_in n (ages_of need) ≡ true) (same.same k).age (named_age t need k live.each e))))
