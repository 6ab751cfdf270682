-- Lemmas on ranges by rising place.
use Rattle.std.proofs.Common.{◌≡◌, ◌≢◌, ℕ, zero, suc, ◌+◌, ◌-◌, ◌<◌, ◌≤◌, ◌⊎◌, inl, inr, List, length, [], ◌∷◌, take, Option, Some, None, cond, eqb, leb, ltb, refl, sym, ap, ◌∙◌, arith, true, false, get_or, subst, set, unwrap_or, add-one}
use Rattle.std.specs.List.{insert, remove}
use Rattle.std.proofs.lemmas.Bool.Decides.{nat_tests}
use Rattle.std.proofs.lemmas.Bool.{cases_lt, cases_eq}
use Rattle.std.proofs.lemmas.List.Sums.{sum_by-cons, sum_by_push, sum_by-set}
use Rattle.std.proofs.lemmas.List.{take_more_set}
use Rattle.std.proofs.lemmas.Grind.{common_steps}
use Rattle.o2_place.specs.declared.ranges.Range.{Range}
use Rattle.o2_place.specs.Layout.{Layout, find_in, AreLaid, AreApart, IsFree, IsLowestFrom, used, Changes, end_before, start_of, IsPacked, no_range, ids_of, without}

-- an id without a range isn't the first one's
pub not_first : (r : Range) (rs : List Range) (id : ℕ) → find_in (r ∷ rs) id ≡ None → (id ≢ r.id) × (find_in rs id ≡ None)
not_first r rs id h = grind (arith, nat_tests)

pub find_in-insert : (rs : List Range) (i : ℕ) (r : Range) → find_in rs r.id ≡ None → (k : ℕ) → find_in (insert rs i r) k ≡ cond (eqb k r.id) (Some (r.at, r.len)) (find_in rs k)
find_in-insert rs zero r h k = refl
find_in-insert [] (suc i) r h k = refl
find_in-insert (s ∷ rs) (suc i) r h k =
    let n = not_first s rs r.id h in
    let e = find_in-insert rs i r n.1 k in
    grind (arith, nat_tests)

pub AreApart-insert : (rs : List Range) (i : ℕ) (r : Range) → find_in rs r.id ≡ None → AreApart rs → AreApart (insert rs i r)
AreApart-insert rs zero r h a = (h, a)
AreApart-insert [] (suc i) r h a = (h, a)
AreApart-insert (s ∷ rs) (suc i) r h a =
    let n = not_first s rs r.id h in
    let e = find_in-insert rs i r n.1 s.id in
    let f : find_in (insert rs i r) s.id ≡ None = grind (arith, nat_tests) in
    (f, AreApart-insert rs i r n.1 a.1)

pub AreLaid-insert : (rs : List Range) (i : ℕ) (r : Range) (low size : ℕ) → AreLaid low size rs → IsFree size rs r.at r.len → 0 < r.len
    → low ≤ r.at → i ≤ length rs → ((k : ℕ) (d : Range) → k < i → (get_or rs k d).at < r.at)
    → ((d : Range) → i < length rs → r.at ≤ (get_or rs i d).at) → AreLaid low size (insert rs i r)
AreLaid-insert [] zero r low size a f p l w b n = (l, p, f)
AreLaid-insert [] (suc i) r low size a f p l w b n = absurd (omega arith)
AreLaid-insert (s ∷ rs) zero r low size a f p l w b n =
    let later : r.at ≤ s.at = n s (omega arith) in
    let filled : 0 < s.len = a.1 in
    let gap : r.at + r.len ≤ s.at = grind (arith, f.0) in
    (l, p, (gap, a.1, a.2))
AreLaid-insert (s ∷ rs) (suc i) r low size a f p l w b n =
    let before : s.at < r.at = b 0 s (omega arith) in
    let gap : s.at + s.len ≤ r.at = grind (arith, f.0) in
    (a.0, a.1, AreLaid-insert rs i r (s.at + s.len) size a.2 f.1 p gap (omega arith) (λ k d h. b (suc k) d (omega arith)) (λ d h. n d (omega arith)))

pub AreLaid-lower : (rs : List Range) (low high size : ℕ) → low ≤ high → AreLaid high size rs → AreLaid low size rs
AreLaid-lower [] low high size l a = omega arith
AreLaid-lower (s ∷ rs) low high size l a = (omega arith, a.1, a.2)

pub AreLaid-remove : (rs : List Range) (i low size : ℕ) → i < length rs → AreLaid low size rs → AreLaid low size (remove rs i)
AreLaid-remove [] i low size h a = absurd (omega arith)
AreLaid-remove (s ∷ rs) zero low size h a = AreLaid-lower rs low (s.at + s.len) size (omega (arith, a.0)) a.2
AreLaid-remove (s ∷ rs) (suc i) low size h a = (a.0, a.1, AreLaid-remove rs i (s.at + s.len) size (omega arith) a.2)

pub find_in-none_remove : (rs : List Range) (i k : ℕ) → i < length rs → find_in rs k ≡ None → find_in (remove rs i) k ≡ None
find_in-none_remove [] i k l h = absurd (omega arith)
find_in-none_remove (s ∷ rs) zero k l h = (not_first s rs k h).1
find_in-none_remove (s ∷ rs) (suc i) k l h =
    let n = not_first s rs k h in
    let e = find_in-none_remove rs i k (omega arith) n.1 in
    grind (arith, nat_tests)

pub AreApart-remove : (rs : List Range) (i : ℕ) → i < length rs → AreApart rs → AreApart (remove rs i)
AreApart-remove [] i l a = absurd (omega arith)
AreApart-remove (s ∷ rs) zero l a = a.1
AreApart-remove (s ∷ rs) (suc i) l a = (find_in-none_remove rs i s.id (omega arith) a.0, AreApart-remove rs i (omega arith) a.1)

-- what is found at the id that stands at i
pub find_in-at : (rs : List Range) (i : ℕ) (d : Range) → i < length rs → AreApart rs → find_in rs (get_or rs i d).id ≡ Some ((get_or rs i d).at, (get_or rs i d).len)
find_in-at [] i d l a = absurd (omega arith)
find_in-at (s ∷ rs) zero d l a = grind (arith, nat_tests)
find_in-at (s ∷ rs) (suc i) d l a =
    let e = find_in-at rs i d (omega arith) a.1 in
    let n : (get_or rs i d).id ≢ s.id = λ h. cc (a.0, h, e) in
    grind (arith, nat_tests)

pub find_in-remove : (rs : List Range) (i : ℕ) (d : Range) → i < length rs → AreApart rs → (k : ℕ) → find_in (remove rs i) k ≡ cond (eqb k (get_or rs i d).id) None (find_in rs k)
find_in-remove [] i d l a k = absurd (omega arith)
find_in-remove (s ∷ rs) zero d l a k = elim (cases_eq k s.id) [
  | inl same ↦ (let e : eqb k s.id ≡ true = grind (arith, nat_tests) in rw e (subst (λ x. find_in rs x ≡ None) (sym same) a.0))
  | inr other ↦ (let e : eqb k s.id ≡ false = grind (arith, nat_tests) in rw e refl)
]
find_in-remove (s ∷ rs) (suc i) d l a k =
    let e = find_in-at rs i d (omega arith) a.1 in
    let n : (get_or rs i d).id ≢ s.id = λ h. cc (a.0, h, e) in
    let q = find_in-remove rs i d (omega arith) a.1 k in
    grind (arith, nat_tests)

-- an id that no range has isn't found
pub find_in-none : (rs : List Range) (id : ℕ) → ((k : ℕ) (d : Range) → k < length rs → (get_or rs k d).id ≢ id) → find_in rs id ≡ None
find_in-none [] id h = refl
find_in-none (s ∷ rs) id h =
    let n : s.id ≢ id = h 0 s (omega arith) in
    let e = find_in-none rs id (λ k d l. h (suc k) d (omega arith)) in
    grind (arith, nat_tests)

-- the lowest place at or above low
abbrev pub fit_from : ℕ → ℕ → ℕ → List Range → Option ℕ
fit_from low size len [] = cond (leb len (size - low)) (Some low) None
fit_from low size len (r ∷ rs) = cond (leb len (r.at - low)) (Some low) (fit_from (r.at + r.len) size len rs)

-- what lies from low on is free for what ends there
pub IsFree-below : (rs : List Range) (low size at len : ℕ) → AreLaid low size rs → at + len ≤ low → IsFree size rs at len
IsFree-below [] low size at len a h = omega arith
IsFree-below (s ∷ rs) low size at len a h = (inr (omega arith), IsFree-below rs (s.at + s.len) size at len a.2 (omega (arith, a.0)))

fit_step : (s : Range) (rs : List Range) (low size len : ℕ) → AreLaid low size (s ∷ rs) → s.at - low < len → (o : Option ℕ) → IsLowestFrom (s.at + s.len) size len rs o → IsLowestFrom low size len (s ∷ rs) o
fit_step s rs low size len a h None q = λ b l f. q b (grind (arith, f.0)) f.1
fit_step s rs low size len a h (Some at) q = (omega (arith, a.0, q.0), (inl q.0, q.1), λ b l m f. q.2 b (grind (arith, f.0)) m f.1)

pub fit_law : (rs : List Range) (low size len : ℕ) → AreLaid low size rs → IsLowestFrom low size len rs (fit_from low size len rs)
fit_law [] low size len a = elim (cases_lt (size - low) len) [
  | inl small ↦ (let e : leb len (size - low) ≡ false = grind (arith, nat_tests) in rw e (λ b l f. omega arith))
  | inr big ↦ (let e : leb len (size - low) ≡ true = grind (arith, nat_tests) in rw e (omega arith, omega arith, λ b l m f. omega arith))
]
fit_law (s ∷ rs) low size len a = elim (cases_lt (s.at - low) len) [
  | inl small ↦ (let e : leb len (s.at - low) ≡ false = grind (arith, nat_tests) in rw e (fit_step s rs low size len a small _ (fit_law rs (s.at + s.len) size len a.2)))
  | inr big ↦ (let e : leb len (s.at - low) ≡ true = grind (arith, nat_tests) in rw e (omega arith, (inr (omega (arith, a.0)), IsFree-below rs (s.at + s.len) size low len a.2 (omega (arith, a.0))), λ b l m f. omega arith))
]

pub AreLaid-within : (rs : List Range) (low size : ℕ) → AreLaid low size rs → low ≤ size
AreLaid-within [] low size a = a
AreLaid-within (s ∷ rs) low size a = let b = AreLaid-within rs (s.at + s.len) size a.2 in omega (arith, a.0)

pub Changes-none : (old : Layout) (id : ℕ) → find_in old.ranges id ≡ None → Changes old old id None
Changes-none old id h = record {
  at = λ k. elim (cases_eq k id) [
    | inl same ↦ (let e : eqb k id ≡ true = grind (arith, nat_tests) in rw e (subst (λ x. find_in old.ranges x ≡ None) (sym same) h))
    | inr other ↦ (let e : eqb k id ≡ false = grind (arith, nat_tests) in rw e refl)
  ];
  size = refl;
  most = refl;
}

-- the ranges end within the size
pub used-le : (rs : List Range) (low size : ℕ) → AreLaid low size rs → low + used rs ≤ size
used-le [] low size a = omega arith
used-le (s ∷ rs) low size a =
    let b = used-le rs (s.at + s.len) size a.2 in
    let e = sum_by-cons (λ (r : Range). r.len) s rs in
    omega (arith, a.0, e)

pair_is : (a l b m : ℕ) → ◌≡◌ {A = Option (ℕ × ℕ)} (Some (a, l)) (Some (b, m)) → (a ≡ b) × (l ≡ m)
pair_is a l b m h = (ap (λ (o : Option (ℕ × ℕ)). (unwrap_or o (0, 0)).0) h, ap (λ (o : Option (ℕ × ℕ)). (unwrap_or o (0, 0)).1) h)

-- what is found is one of the ranges, so that two don't meet
pub found_from : (rs : List Range) (low size k at len : ℕ) → AreLaid low size rs → find_in rs k ≡ Some (at, len) → (low ≤ at) × (0 < len) × (at + len ≤ size)
found_from [] low size k at len a h = cc
found_from (s ∷ rs) low size k at len a h = elim (cases_eq k s.id) [
  | inl same ↦
      (let e : eqb k s.id ≡ true = grind (arith, nat_tests) in
      let g : Some (s.at, s.len) ≡ Some (at, len) = rw e at h in
      let w = AreLaid-within rs (s.at + s.len) size a.2 in
      let x = pair_is s.at s.len at len g in
      (omega (arith, a.0), omega (arith, a.1), omega arith))
  | inr other ↦
      (let e : eqb k s.id ≡ false = grind (arith, nat_tests) in
      let r = found_from rs (s.at + s.len) size k at len a.2 (rw e at h) in
      (omega (arith, a.0, r.0), r.1, r.2))
]

pub AreLaid-apart : (rs : List Range) (low size i j a l b m : ℕ) → AreLaid low size rs → i ≢ j → find_in rs i ≡ Some (a, l) → find_in rs j ≡ Some (b, m) → (a + l ≤ b) ⊎ (b + m ≤ a)
AreLaid-apart [] low size i j a l b m h n p q = cc
AreLaid-apart (s ∷ rs) low size i j a l b m h n p q = elim (cases_eq i s.id) [
  | inl first ↦
      (let e : eqb i s.id ≡ true = grind (arith, nat_tests) in
      let f : eqb j s.id ≡ false = grind (arith, nat_tests) in
      let g : Some (s.at, s.len) ≡ Some (a, l) = rw e at p in
      let x = pair_is s.at s.len a l g in
      let r = found_from rs (s.at + s.len) size j b m h.2 (rw f at q) in
      inl (omega (arith, r.0)))
  | inr later ↦ elim (cases_eq j s.id) [
    | inl second ↦
        (let e : eqb i s.id ≡ false = grind (arith, nat_tests) in
        let f : eqb j s.id ≡ true = grind (arith, nat_tests) in
        let g : Some (s.at, s.len) ≡ Some (b, m) = rw f at q in
        let x = pair_is s.at s.len b m g in
        let r = found_from rs (s.at + s.len) size i a l h.2 (rw e at p) in
        inr (omega (arith, r.0)))
    | inr neither ↦
        (let e : eqb i s.id ≡ false = grind (arith, nat_tests) in
        let f : eqb j s.id ≡ false = grind (arith, nat_tests) in
        AreLaid-apart rs (s.at + s.len) size i j a l b m h.2 n (rw e at p) (rw f at q))
  ]
]

-- a free place meets no range
pub IsFree-apart : (rs : List Range) (size at len k b m : ℕ) → IsFree size rs at len → find_in rs k ≡ Some (b, m) → (at + len ≤ b) ⊎ (b + m ≤ at)
IsFree-apart [] size at len k b m f q = cc
IsFree-apart (s ∷ rs) size at len k b m f q = elim (cases_eq k s.id) [
  | inl same ↦
      (let e : eqb k s.id ≡ true = grind (arith, nat_tests) in
      let g : Some (s.at, s.len) ≡ Some (b, m) = rw e at q in
      let x = pair_is s.at s.len b m g in
      grind (arith, f.0))
  | inr other ↦
      (let e : eqb k s.id ≡ false = grind (arith, nat_tests) in
      IsFree-apart rs size at len k b m f.1 (rw e at q))
]

pub end_before-le : (rs : List Range) (k low size : ℕ) (d : Range) → k < length rs → AreLaid low size rs → (low ≤ end_before low rs k) × (end_before low rs k ≤ (get_or rs k d).at) × ((get_or rs k d).at + (get_or rs k d).len ≤ size)
end_before-le [] k low size d l a = absurd (omega arith)
end_before-le (s ∷ rs) zero low size d l a = (omega arith, a.0, AreLaid-within rs (s.at + s.len) size a.2)
end_before-le (s ∷ rs) (suc k) low size d l a = let r = end_before-le rs k (s.at + s.len) size d (omega arith) a.2 in (omega (arith, a.0, r.0), r.1, r.2)

pub end_before-zero : (rs : List Range) (low : ℕ) → end_before low rs zero ≡ low
end_before-zero [] low = refl
end_before-zero (s ∷ rs) low = refl

pub end_before-within : (rs : List Range) (low size : ℕ) → AreLaid low size rs → low ≤ end_before low rs (length rs)
end_before-within [] low size a = omega arith
end_before-within (s ∷ rs) low size a = let g = end_before-within rs (s.at + s.len) size a.2 in omega (arith, a.0)

pub end_before-more : (rs : List Range) (k low : ℕ) (d : Range) → k < length rs → end_before low rs (suc k) ≡ (get_or rs k d).at + (get_or rs k d).len
end_before-more [] k low d l = absurd (omega arith)
end_before-more (s ∷ rs) zero low d l = end_before-zero rs (s.at + s.len)
end_before-more (s ∷ rs) (suc k) low d l = end_before-more rs k (s.at + s.len) d (omega arith)

-- past the end of the ranges all is free
pub IsFree-past : (rs : List Range) (low size at len : ℕ) → AreLaid low size rs → end_before low rs (length rs) ≤ at → at + len ≤ size → IsFree size rs at len
IsFree-past [] low size at len a h l = l
IsFree-past (s ∷ rs) low size at len a h l = (inl (let g = end_before-within rs (s.at + s.len) size a.2 in omega arith), IsFree-past rs (s.at + s.len) size at len a.2 h l)

pub end_before-set : (rs : List Range) (k low : ℕ) (r : Range) → k < length rs → end_before low (set rs k r) (suc k) ≡ r.at + r.len
end_before-set [] k low r l = absurd (omega arith)
end_before-set (s ∷ rs) zero low r l = end_before-zero rs (r.at + r.len)
end_before-set (s ∷ rs) (suc k) low r l = end_before-set rs k (s.at + s.len) r (omega arith)

pub used-take : (rs : List Range) (k : ℕ) (r : Range) → k < length rs → used (take (k + 1) (set rs k r)) ≡ used (take k rs) + r.len
used-take rs k r l = ap used (take_more_set rs k r l) ∙ sum_by_push (λ (s : Range). s.len) (take k rs) r

pub IsFree-within : (rs : List Range) (size at len : ℕ) → IsFree size rs at len → at + len ≤ size
IsFree-within [] size at len f = f
IsFree-within (s ∷ rs) size at len f = IsFree-within rs size at len f.1

-- another place and length of the k-th range, between its neighbours
AreLaid-from : (rs : List Range) (low high size : ℕ) → AreLaid high size rs → low ≤ start_of size rs zero → AreLaid low size rs
AreLaid-from [] low high size a l = l
AreLaid-from (s ∷ rs) low high size a l = (l, a.1, a.2)

pub AreLaid-reshape : (rs : List Range) (k low size id at len : ℕ) → k < length rs → AreLaid low size rs → 0 < len → end_before low rs k ≤ at → at + len ≤ start_of size rs (suc k) → AreLaid low size (set rs k (record { id = id; at = at; len = len }))
AreLaid-reshape [] k low size id at len l a p b c = absurd (omega arith)
AreLaid-reshape (s ∷ rs) zero low size id at len l a p b c = (b, p, AreLaid-from rs (at + len) (s.at + s.len) size a.2 c)
AreLaid-reshape (s ∷ rs) (suc k) low size id at len l a p b c = (a.0, a.1, AreLaid-reshape rs k (s.at + s.len) size id at len (omega arith) a.2 p b c)

-- such a change keeps the ids
pub find_in-reshape : (rs : List Range) (k : ℕ) (d : Range) (at len : ℕ) → k < length rs → AreApart rs → (j : ℕ) → find_in (set rs k (record { id = (get_or rs k d).id; at = at; len = len })) j ≡ cond (eqb j (get_or rs k d).id) (Some (at, len)) (find_in rs j)
find_in-reshape [] k d at len l a j = absurd (omega arith)
find_in-reshape (s ∷ rs) zero d at len l a j = elim (cases_eq j s.id) [
  | inl same ↦ (let e : eqb j s.id ≡ true = grind (arith, nat_tests) in rw e refl)
  | inr other ↦ (let e : eqb j s.id ≡ false = grind (arith, nat_tests) in rw e refl)
]
find_in-reshape (s ∷ rs) (suc k) d at len l a j =
    let q = find_in-reshape rs k d at len (omega arith) a.1 j in
    let e = find_in-at rs k d (omega arith) a.1 in
    let n : (get_or rs k d).id ≢ s.id = λ h. cc (a.0, h, e) in
    grind (arith, nat_tests)

find_in-none_reshape : (rs : List Range) (k : ℕ) (d : Range) (at len x : ℕ) → k < length rs → find_in rs x ≡ None → find_in (set rs k (record { id = (get_or rs k d).id; at = at; len = len })) x ≡ None
find_in-none_reshape [] k d at len x l h = absurd (omega arith)
find_in-none_reshape (s ∷ rs) zero d at len x l h = let n = not_first s rs x h in grind (arith, nat_tests)
find_in-none_reshape (s ∷ rs) (suc k) d at len x l h =
    let n = not_first s rs x h in
    let e = find_in-none_reshape rs k d at len x (omega arith) n.1 in
    grind (arith, nat_tests)

pub AreApart-reshape : (rs : List Range) (k : ℕ) (d : Range) (at len : ℕ) → k < length rs → AreApart rs → AreApart (set rs k (record { id = (get_or rs k d).id; at = at; len = len }))
AreApart-reshape [] k d at len l a = absurd (omega arith)
AreApart-reshape (s ∷ rs) zero d at len l a = (a.0, a.1)
AreApart-reshape (s ∷ rs) (suc k) d at len l a = (find_in-none_reshape rs k d at len s.id (omega arith) a.0, AreApart-reshape rs k d at len (omega arith) a.1)

pub used-reshape : (rs : List Range) (k id at len : ℕ) (d : Range) → k < length rs → used (set rs k (record { id = id; at = at; len = len })) + (get_or rs k d).len ≡ used rs + len
used-reshape rs k id at len d l = let e = sum_by-set (λ (s : Range). s.len) rs k (record { id = id; at = at; len = len }) d l in omega (arith, e)

pub len-le-used : (rs : List Range) (k : ℕ) (d : Range) → k < length rs → (get_or rs k d).len ≤ used rs
len-le-used [] k d l = absurd (omega arith)
len-le-used (s ∷ rs) zero d l = let c = sum_by-cons (λ (r : Range). r.len) s rs in omega (arith, c)
len-le-used (s ∷ rs) (suc k) d l = let q = len-le-used rs k d (omega arith) in let c = sum_by-cons (λ (r : Range). r.len) s rs in omega (arith, q, c)

-- the places of the ranges rise
pub places_rise : (rs : List Range) (low size i j : ℕ) (d : Range) → AreLaid low size rs → i ≤ j → j < length rs → (low ≤ (get_or rs i d).at) × ((get_or rs i d).at ≤ (get_or rs j d).at)
places_rise [] low size i j d a l m = absurd (omega arith)
places_rise (s ∷ rs) low size zero zero d a l m = (a.0, omega arith)
places_rise (s ∷ rs) low size zero (suc j) d a l m = let r = places_rise rs (s.at + s.len) size j j d a.2 (omega arith) (omega arith) in (a.0, omega (arith, r.0))
places_rise (s ∷ rs) low size (suc i) zero d a l m = absurd (omega arith)
places_rise (s ∷ rs) low size (suc i) (suc j) d a l m = let r = places_rise rs (s.at + s.len) size i j d a.2 (omega arith) (omega arith) in (omega (arith, a.0, r.0), r.1)

range_is : (s : Range) (id at len : ℕ) → s.id ≡ id → s.at ≡ at → s.len ≡ len → s ≡ record { id = id; at = at; len = len }
range_is s id at len e f g =
    let first : s ≡ record { id = id; at = s.at; len = s.len } = ap (λ (x : ℕ). let r : Range = record { id = x; at = s.at; len = s.len } in r) e in
    let second : record { id = id; at = s.at; len = s.len } ≡ record { id = id; at = at; len = s.len } = ap (λ (x : ℕ). let r : Range = record { id = id; at = x; len = s.len } in r) f in
    let third : record { id = id; at = at; len = s.len } ≡ record { id = id; at = at; len = len } = ap (λ (x : ℕ). let r : Range = record { id = id; at = at; len = x } in r) g in
    first ∙ second ∙ third

-- the range of an id stands behind those that begin below it
pub found_at : (rs : List Range) (low size id at len i : ℕ) (d : Range) → AreLaid low size rs → find_in rs id ≡ Some (at, len)
    → ((k : ℕ) (d : Range) → k < i → (get_or rs k d).at < at) → ((k : ℕ) (d : Range) → i ≤ k → k < length rs → at ≤ (get_or rs k d).at)
    → (i < length rs) × (get_or rs i d ≡ record { id = id; at = at; len = len })
found_at [] low size id at len i d a h b n = cc
found_at (s ∷ rs) low size id at len zero d a h b n = elim (cases_eq id s.id) [
  | inl same ↦
      (let e : eqb id s.id ≡ true = grind (arith, nat_tests) in
      let g : Some (s.at, s.len) ≡ Some (at, len) = rw e at h in
      let x : (s.at ≡ at) × (s.len ≡ len) = pair_is s.at s.len at len g in
      (omega arith, range_is s id at len (sym same) x.0 x.1))
  | inr other ↦
      (let e : eqb id s.id ≡ false = grind (arith, nat_tests) in
      let r = found_from rs (s.at + s.len) size id at len a.2 (rw e at h) in
      let m : at ≤ s.at = n zero s (omega arith) (omega arith) in
      absurd (omega (arith, r.0, a.1)))
]
found_at (s ∷ rs) low size id at len (suc i) d a h b n = elim (cases_eq id s.id) [
  | inl same ↦
      (let e : eqb id s.id ≡ true = grind (arith, nat_tests) in
      let g : Some (s.at, s.len) ≡ Some (at, len) = rw e at h in
      let x = pair_is s.at s.len at len g in
      let m : s.at < at = b zero s (omega arith) in
      absurd (omega (arith, x.0)))
  | inr other ↦
      (let e : eqb id s.id ≡ false = grind (arith, nat_tests) in
      let r = found_at rs (s.at + s.len) size id at len i d a.2 (rw e at h) (λ k d l. b (suc k) d (omega arith)) (λ k d l m. n (suc k) d (omega arith) (omega arith)) in
      (omega (arith, r.0), r.1))
]

-- those that begin below a place stand before the others
pub below_first : (rs : List Range) (size at : ℕ) → AreLaid 0 size rs → (i j : ℕ) (d : Range) → i ≤ j → j < length rs → ltb (get_or rs j d).at at ≡ true → ltb (get_or rs i d).at at ≡ true
below_first rs size at a i j d l m h =
    let r = places_rise rs 0 size i j d a l m in
    let b : (get_or rs j d).at < at = grind (arith, nat_tests) in
    let c : (get_or rs i d).at < at = omega (arith, r.1) in
    grind (arith, nat_tests)

-- the k-th range isn't empty, and ends before the next begins
pub laid_at : (rs : List Range) (k low size : ℕ) (d : Range) → k < length rs → AreLaid low size rs → (0 < (get_or rs k d).len) × ((get_or rs k d).at + (get_or rs k d).len ≤ start_of size rs (suc k)) × (end_before low rs k ≤ (get_or rs k d).at)
laid_at [] k low size d l a = absurd (omega arith)
laid_at (s ∷ []) zero low size d l a = (a.1, a.2, a.0)
laid_at (s ∷ t ∷ rs) zero low size d l a = (a.1, a.2.0, a.0)
laid_at (s ∷ rs) (suc k) low size d l a = laid_at rs k (s.at + s.len) size d (omega arith) a.2

-- past the last range the memory ends
pub start_of-end : (rs : List Range) (size : ℕ) → start_of size rs (length rs) ≡ size
start_of-end [] size = refl
start_of-end (s ∷ rs) size = start_of-end rs size

pub start_of-set : (rs : List Range) (k size : ℕ) (r : Range) → k < length rs → start_of size (set rs k r) k ≡ r.at
start_of-set [] k size r l = absurd (omega arith)
start_of-set (s ∷ rs) zero size r l = refl
start_of-set (s ∷ rs) (suc k) size r l = start_of-set rs k size r (omega arith)

pub end_before-set_same : (rs : List Range) (k low : ℕ) (r : Range) → end_before low (set rs k r) k ≡ end_before low rs k
end_before-set_same [] k low r = refl
end_before-set_same (s ∷ rs) zero low r = refl
end_before-set_same (s ∷ rs) (suc k) low r = end_before-set_same rs k (s.at + s.len) r

-- the bytes of one range more
pub used-take_more : (rs : List Range) (k : ℕ) (d : Range) → k < length rs → used (take (k + 1) rs) ≡ used (take k rs) + (get_or rs k d).len
used-take_more rs k d l = grind (arith, common_steps)

-- where the ranges are packed, each ends where the bytes before it end
pub packed_end : (rs : List Range) (k : ℕ) → k ≤ length rs → IsPacked rs k → end_before 0 rs k ≡ used (take k rs)
packed_end rs zero l h = end_before-zero rs 0
packed_end rs (suc k) l h =
    let e = end_before-more rs k 0 no_range (omega arith) in
    let u = used-take_more rs k no_range (omega arith) in
    let a = h k (omega arith) in
    let v : used (take (suc k) rs) ≡ used (take k rs) + (get_or rs k no_range).len = rw (add-one k) at u in
    omega (arith, e, v, a)

-- a range that is laid at the end of the packed ones
pub packed-set : (rs : List Range) (k j : ℕ) (r : Range) → j ≤ k → k < length rs → IsPacked rs j → IsPacked (set rs k r) j
packed-set rs k j r l m h i w =
    let e : get_or (set rs k r) i no_range ≡ get_or rs i no_range = grind (arith, common_steps) in
    let t : take i (set rs k r) ≡ take i rs = grind (arith, common_steps) in
    ap (λ (x : Range). x.at) e ∙ h i w ∙ ap used (sym t)

pub packed-more : (rs : List Range) (k : ℕ) (r : Range) → k < length rs → IsPacked rs k → r.at ≡ used (take k rs) → IsPacked (set rs k r) (k + 1)
packed-more rs k r l h e i w = elim (cases_eq i k) [
  | inl same ↦
      (let g : get_or (set rs k r) k no_range ≡ r = grind (arith, common_steps) in
      let t : take k (set rs k r) ≡ take k rs = grind (arith, common_steps) in
      let q : (get_or (set rs k r) k no_range).at ≡ used (take k (set rs k r)) = ap (λ (x : Range). x.at) g ∙ e ∙ ap used (sym t) in
      subst (λ (x : ℕ). (get_or (set rs k r) x no_range).at ≡ used (take x (set rs k r))) (sym same) q)
  | inr other ↦ packed-set rs k k r (omega arith) l h i (omega arith)
]

pub start_of-le : (rs : List Range) (k low size : ℕ) → AreLaid low size rs → start_of size rs k ≤ size
start_of-le [] k low size a = omega arith
start_of-le (s ∷ rs) zero low size a = let w = AreLaid-within rs (s.at + s.len) size a.2 in omega arith
start_of-le (s ∷ rs) (suc k) low size a = start_of-le rs k (s.at + s.len) size a.2

-- what is free stays so where a range goes
pub IsFree-remove : (rs : List Range) (i size at len : ℕ) → i < length rs → IsFree size rs at len → IsFree size (remove rs i) at len
IsFree-remove [] i size at len l h = absurd (omega arith)
IsFree-remove (r ∷ rs) zero size at len l h = h.1
IsFree-remove (r ∷ rs) (suc i) size at len l h = (h.0, IsFree-remove rs i size at len (omega arith) h.1)

-- an id without a range doesn't stand among the ids
pub without-fresh : (rs : List Range) (id : ℕ) → find_in rs id ≡ None → without id (ids_of rs) ≡ ids_of rs
without-fresh [] id h = refl
without-fresh (r ∷ rs) id h =
    let n = not_first r rs id h in
    let t : eqb id r.id ≡ false = (let d : id ≢ r.id = n.0 in grind (arith, nat_tests)) in
    rw t (ap (λ (ks : List ℕ). r.id ∷ ks) (without-fresh rs id n.1))

pub ids-insert : (rs : List Range) (i : ℕ) (r : Range) → find_in rs r.id ≡ None → without r.id (ids_of (insert rs i r)) ≡ ids_of rs
ids-insert [] zero r h = let t : eqb r.id r.id ≡ true = grind (arith, nat_tests) in rw t refl
ids-insert [] (suc i) r h = let t : eqb r.id r.id ≡ true = grind (arith, nat_tests) in rw t refl
ids-insert (x ∷ rs) zero r h = let t : eqb r.id r.id ≡ true = grind (arith, nat_tests) in rw t (without-fresh (x ∷ rs) r.id h)
ids-insert (x ∷ rs) (suc i) r h =
    let n = not_first x rs r.id h in
    let t : eqb r.id x.id ≡ false = (let d : r.id ≢ x.id = n.0 in grind (arith, nat_tests)) in
    rw t (ap (λ (ks : List ℕ). x.id ∷ ks) (ids-insert rs i r n.1))

pub ids-remove : (rs : List Range) (i id : ℕ) (d : Range) → i < length rs → AreApart rs → (get_or rs i d).id ≡ id → ids_of (remove rs i) ≡ without id (ids_of rs)
ids-remove [] i id d l h e = absurd (omega arith)
ids-remove (x ∷ rs) zero id d l h e = let t : eqb id x.id ≡ true = (let f : x.id ≡ id = e in grind (arith, nat_tests)) in rw t (sym (without-fresh rs id (subst (λ (k : ℕ). find_in rs k ≡ None) e h.0)))
ids-remove (x ∷ rs) (suc i) id d l h e =
    let w : i < length rs = omega arith in
    let f = find_in-at rs i d w h.1 in
    let t : eqb id x.id ≡ false = elim (cases_eq id x.id) [
      | inl same ↦ (let g : find_in rs x.id ≡ Some ((get_or rs i d).at, (get_or rs i d).len) = subst (λ (k : ℕ). find_in rs k ≡ Some ((get_or rs i d).at, (get_or rs i d).len)) (e ∙ same) f in let k = h.0 in absurd cc)
      | inr other ↦ grind (arith, nat_tests)
    ] in
    rw t (ap (λ (ks : List ℕ). x.id ∷ ks) (ids-remove rs i id d w h.1 e))

pub ids-set : (rs : List Range) (k id at len : ℕ) (d : Range) → k < length rs → id ≡ (get_or rs k d).id → ids_of (set rs k (record { id = id; at = at; len = len })) ≡ ids_of rs
ids-set [] k id at len d l e = absurd (omega arith)
ids-set (r ∷ rs) zero id at len d l e = ap (λ (x : ℕ). x ∷ ids_of rs) e
ids-set (r ∷ rs) (suc k) id at len d l e = ap (λ (ks : List ℕ). r.id ∷ ks) (ids-set rs k id at len d (omega arith) e)

-- where a range that isn't the last is followed
pub start_of-at : (rs : List Range) (k size : ℕ) (d : Range) → k < length rs → start_of size rs k ≡ (get_or rs k d).at
start_of-at [] k size d l = absurd (omega arith)
start_of-at (r ∷ rs) zero size d l = refl
start_of-at (r ∷ rs) (suc k) size d l = start_of-at rs k size d (omega arith)
