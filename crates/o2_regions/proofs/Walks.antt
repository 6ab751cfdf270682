-- Walks along a list of places.
use Rattle.std.proofs.Common.{◌≡◌, ℕ, zero, suc, ◌+◌, ◌-◌, ◌<◌, ◌≤◌, inl, inr, Bool, true, false, List, ◌∷◌, length, drop, Option, Some, None, cond, eqb, ltb, arith, refl, sym, ap, ◌∙◌, subst, get_or}
use Rattle.std.proofs.lemmas.Bool.{cases_eq, cases_lt, both_ways, eqb-true, and_parts, cond-true, cond-false, eq-eqb, lt-ltb, le-ltb, false_from_ne_true}
use Rattle.std.proofs.lemmas.List.{drop_more, drop_all, get_or_past}
use Rattle.std.specs.List.{slice_get}
use Rattle.o2_place.specs.declared.seg_id.SegId.{SegId}
use Rattle.o2_regions.specs.declared.held.Held.{Held}
use Rattle.o2_regions.specs.Maps.{is_of}
use Rattle.o2_regions.specs.Links.{IsNext, IsLast, AreNext, ArePrev, is_in, list_of, places_from, stands_in}

-- a walk down a list for the highest place below `place` has come to `at`
pub record IsDown (held : List (Option Held)) (b place at : ℕ) : Type 0 where
  pub here : at < length held → stands_in held b at ≡ true
  pub past : length held ≤ at → at ≡ length held + b
  pub clear : (z : ℕ) → z < place → (at < length held → at < z) → stands_in held b z ≡ false

pub down_start : (held : List (Option Held)) (prev : List ℕ) (b place at : ℕ) → ArePrev (length held) held prev → b < 65536 → place ≤ length held
    → at ≡ get_or prev (length held + b) 0 → IsDown held b place at
down_start held prev b place at h m w e =
    let n = length held in
    let l = subst (λ (r : ℕ). IsLast (stands_in held b) n (n + b) n r) (sym e) (h.leads b (n + b) n m (inl (refl, refl))) in
    record {
      here = λ a. (l.here a).1;
      past = l.past;
      clear = λ z a c. l.clear z (omega arith) c;
    }

pub down_last : (held : List (Option Held)) (prev : List ℕ) (b place at next : ℕ) → ArePrev (length held) held prev → b < 65536 → IsDown held b place at
    → at < length held → next ≡ get_or prev at 0 → IsLast (stands_in held b) (length held) (length held + b) at next
down_last held prev b place at next h m d w e =
    let n = length held in
    subst (λ (r : ℕ). IsLast (stands_in held b) n (n + b) at r) (sym e) (h.leads b at at m (inr (w, d.here w, refl)))

pub down_more : (held : List (Option Held)) (prev : List ℕ) (b place at next : ℕ) → ArePrev (length held) held prev → b < 65536 → IsDown held b place at
    → at < length held → place < at → next ≡ get_or prev at 0 → IsDown held b place next
down_more held prev b place at next h m d w l e =
    let s = down_last held prev b place at next h m d w e in
    record {
      here = λ a. (s.here a).1;
      past = s.past;
      clear = λ z a c. s.clear z (omega arith) c;
    }

-- how far a walk down has yet to go
abbrev pub depth : ℕ → ℕ → ℕ
depth n at = cond (ltb at n) (at + 1) 0

pub down_smaller : (held : List (Option Held)) (prev : List ℕ) (b place at next : ℕ) → ArePrev (length held) held prev → b < 65536 → IsDown held b place at
    → at < length held → next ≡ get_or prev at 0 → depth (length held) next < depth (length held) at
down_smaller held prev b place at next h m d w e =
    let n = length held in
    let s = down_last held prev b place at next h m d w e in
    let x : depth n at ≡ at + 1 = cond-true (ltb at n) (at + 1) 0 (lt-ltb at n w) in
    elim (cases_lt next n) [
      | inl within ↦ (let y : depth n next ≡ next + 1 = cond-true (ltb next n) (next + 1) 0 (lt-ltb next n within) in omega (arith, (s.here within).0))
      | inr over ↦ (let y : depth n next ≡ 0 = cond-false (ltb next n) (next + 1) 0 (le-ltb next n over) in omega arith)
    ]

pub down_end : (held : List (Option Held)) (b place at : ℕ) → get_or held place None ≡ None → IsDown held b place at → (at < length held → at ≤ place) → IsLast (stands_in held b) (length held) (length held + b) place at
down_end held b place at none d low = record {
  here = λ l. (
    elim (cases_eq at place) [
      | inl same ↦ absurd (both_ways (stands_in held b at) (subst (λ (x : ℕ). stands_in held b x ≡ false) (sym same) (ap (is_in b) none)) (d.here l))
      | inr other ↦ omega (arith, low l)
    ],
    d.here l,
  );
  past = d.past;
  clear = λ z l m. d.clear z l m;
}

-- a segment's holders stand in the list of its key
pub of_in : (id : SegId) (o : Option Held) → is_in (list_of id.key) o ≡ false → is_of id o ≡ false
of_in id None e = refl
of_in id (Some h) e = false_from_ne_true (is_of id (Some h)) (λ t.
    (let k = eqb-true h.id.key id.key (and_parts (eqb h.id.key id.key) (eqb h.id.age id.age) t).0 in
    both_ways (is_in (list_of id.key) (Some h)) e (eq-eqb (list_of h.id.key) (list_of id.key) (ap (λ (x : ℕ). list_of x) k))))

-- places that don't pass are skipped
pub skip_places : (test : Option Held → Bool) (held : List (Option Held)) (d x : ℕ) → ((z : ℕ) → x ≤ z → z < x + d → test (get_or held z None) ≡ false)
    → places_from test (drop x held) x ≡ places_from test (drop (x + d) held) (x + d)
skip_places test held zero x out = let e : x + 0 ≡ x = omega arith in rw e refl
skip_places test held (suc d) x out =
    let e : x + 1 + d ≡ x + suc d = omega arith in
    elim (cases_lt x (length held)) [
      | inl within ↦
          (let first = ap (λ (l : List (Option Held)). places_from test l x) (drop_more held x None within) in
          let none = cond-false (test (get_or held x None)) (x ∷ places_from test (drop (x + 1) held) (x + 1)) (places_from test (drop (x + 1) held) (x + 1)) (out x (omega arith) (omega arith)) in
          first ∙ none ∙ skip_places test held d (x + 1) (λ z a b. out z (omega arith) (omega arith)) ∙ ap (λ (y : ℕ). places_from test (drop y held) y) e)
      | inr past ↦
          ap (λ (l : List (Option Held)). places_from test l x) (drop_all x held past) ∙ sym (ap (λ (l : List (Option Held)). places_from test l (x + suc d)) (drop_all (x + suc d) held (omega arith)))
    ]

-- a walk up the list of a segment's key has come to `at`, and the holder sought is that with this number from there on
pub record IsUp (held : List (Option Held)) (id : SegId) (k left at : ℕ) : Type 0 where
  pub here : at < length held → stands_in held (list_of id.key) at ≡ true
  pub past : length held ≤ at → at ≡ length held + list_of id.key
  pub rest : slice_get (places_from (is_of id) held 0) k ≡ slice_get (places_from (is_of id) (drop at held) at) left

-- from a place on, a segment's holders begin at the next place of its list
next_places : (held : List (Option Held)) (id : SegId) (y at : ℕ) → IsNext (stands_in held (list_of id.key)) (length held) (length held + list_of id.key) y at
    → places_from (is_of id) (drop y held) y ≡ places_from (is_of id) (drop at held) at
next_places held id y at h =
    let n = length held in
    elim (cases_lt at y) [
      | inl below ↦
          (let far : n ≤ at = elim (cases_lt at n) [ inl within ↦ absurd (omega (arith, (h.here within).0)) | inr over ↦ over ] in
          ap (λ (l : List (Option Held)). places_from (is_of id) l y) (drop_all y held (omega arith)) ∙ sym (ap (λ (l : List (Option Held)). places_from (is_of id) l at) (drop_all at held far)))
      | inr above ↦
          (let e : y + (at - y) ≡ at = omega arith in
          skip_places (is_of id) held (at - y) y
          (λ z a b. elim (cases_lt z n) [
            | inl within ↦ of_in id (get_or held z None) (h.clear z a (omega arith) within)
            | inr over ↦ ap (is_of id) (get_or_past held z None over)
          ])
          ∙ ap (λ (x : ℕ). places_from (is_of id) (drop x held) x) e)
    ]

pub up_start : (held : List (Option Held)) (next : List ℕ) (id : SegId) (k at : ℕ) → AreNext (length held) held next → at ≡ get_or next (length held + list_of id.key) 0 → IsUp held id k k at
up_start held next id k at h e =
    let n = length held in
    let b = list_of id.key in
    let l = subst (λ (r : ℕ). IsNext (stands_in held b) n (n + b) 0 r) (sym e) (h.leads b (n + b) 0 (omega arith) (inl (refl, refl))) in
    record {
      here = λ a. (l.here a).1;
      past = l.past;
      rest = ap (λ (p : List ℕ). slice_get p k) (next_places held id 0 at l);
    }

pub up_next : (held : List (Option Held)) (next : List ℕ) (id : SegId) (k left at to : ℕ) → AreNext (length held) held next → IsUp held id k left at → at < length held → to ≡ get_or next at 0
    → IsNext (stands_in held (list_of id.key)) (length held) (length held + list_of id.key) (at + 1) to
up_next held next id k left at to h u w e =
    let n = length held in
    let b = list_of id.key in
    subst (λ (r : ℕ). IsNext (stands_in held b) n (n + b) (at + 1) r) (sym e) (h.leads b at (at + 1) (omega arith) (inr (w, u.here w, refl)))

-- the places from one on, by whether it passes
places_at : (held : List (Option Held)) (id : SegId) (at : ℕ) (b : Bool) → at < length held → is_of id (get_or held at None) ≡ b
    → places_from (is_of id) (drop at held) at ≡ cond b (at ∷ places_from (is_of id) (drop (at + 1) held) (at + 1)) (places_from (is_of id) (drop (at + 1) held) (at + 1))
places_at held id at b w e =
    ap (λ (l : List (Option Held)). places_from (is_of id) l at) (drop_more held at None w)
    ∙ ap (λ (t : Bool). cond t (at ∷ places_from (is_of id) (drop (at + 1) held) (at + 1)) (places_from (is_of id) (drop (at + 1) held) (at + 1))) e

pub up_other : (held : List (Option Held)) (next : List ℕ) (id : SegId) (k left at to : ℕ) → AreNext (length held) held next → IsUp held id k left at → at < length held
    → is_of id (get_or held at None) ≡ false → to ≡ get_or next at 0 → IsUp held id k left to
up_other held next id k left at to h u w out e =
    let l = up_next held next id k left at to h u w e in
    record {
      here = λ a. (l.here a).1;
      past = l.past;
      rest = u.rest ∙ ap (λ (p : List ℕ). slice_get p left) (places_at held id at false w out ∙ next_places held id (at + 1) to l);
    }

pub up_one : (held : List (Option Held)) (next : List ℕ) (id : SegId) (k left less at to : ℕ) → AreNext (length held) held next → IsUp held id k left at → at < length held
    → is_of id (get_or held at None) ≡ true → left ≡ suc less → to ≡ get_or next at 0 → IsUp held id k less to
up_one held next id k left less at to h u w one c e =
    let l = up_next held next id k left at to h u w e in
    record {
      here = λ a. (l.here a).1;
      past = l.past;
      rest = u.rest ∙ ap (λ (p : List ℕ). slice_get p left) (places_at held id at true w one) ∙ ap (λ (i : ℕ). slice_get (at ∷ places_from (is_of id) (drop (at + 1) held) (at + 1)) i) c
          ∙ ap (λ (p : List ℕ). slice_get p less) (next_places held id (at + 1) to l);
    }

pub up_found : (held : List (Option Held)) (id : SegId) (k left at : ℕ) → IsUp held id k left at → at < length held → is_of id (get_or held at None) ≡ true → left ≡ 0
    → Some at ≡ slice_get (places_from (is_of id) held 0) k
up_found held id k left at u w one zero_left =
    sym (u.rest ∙ ap (λ (p : List ℕ). slice_get p left) (places_at held id at true w one) ∙ ap (λ (i : ℕ). slice_get (at ∷ places_from (is_of id) (drop (at + 1) held) (at + 1)) i) zero_left)

pub up_end : (held : List (Option Held)) (id : SegId) (k left at : ℕ) → IsUp held id k left at → length held ≤ at → None ≡ slice_get (places_from (is_of id) held 0) k
up_end held id k left at u far =
    sym (u.rest ∙ ap (λ (l : List (Option Held)). slice_get (places_from (is_of id) l at) left) (drop_all at held far))

pub up_smaller : (held : List (Option Held)) (next : List ℕ) (id : SegId) (k left at to : ℕ) → AreNext (length held) held next → IsUp held id k left at → at < length held → to ≡ get_or next at 0
    → length held - to < length held - at
up_smaller held next id k left at to h u w e =
    let l = up_next held next id k left at to h u w e in
    elim (cases_lt to (length held)) [
      | inl within ↦ omega (arith, (l.here within).0)
      | inr over ↦ omega arith
    ]
