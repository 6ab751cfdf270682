-- The ranges that lie one behind the other from 0 on, and those behind them.
use Rattle.std.proofs.Common.{◌≡◌, ◌≢◌, ◌⊎◌, inl, inr, ℕ, zero, suc, ◌+◌, ◌-◌, ◌<◌, ◌≤◌, List, [], ◌∷◌, length, drop, take, Option, Some, None, eqb, true, false, refl, sym, ap, ◌∙◌, arith, subst, add-one}
use Rattle.std.proofs.lemmas.Bool.{cases_eq}
use Rattle.std.proofs.lemmas.Bool.Decides.{nat_tests}
use Rattle.std.proofs.lemmas.List.{get_or-set_same, get_or-set_other}
use Rattle.o2_place.specs.declared.ranges.Range.{Range}
use Rattle.o2_place.specs.Layout.{Layout, IsLayout, find_in, used, reshaped, range_at, no_range, len_of, IsPacked, end_before}
use Rattle.o2_place.proofs.RangeLemmas.{laid_at, packed_end, end_before-more, end_before-zero, start_of-le, start_of-at}
use Rattle.o2_compact.specs.Parts.{KeepsParts, SlideBehind, StayInFront}

-- a range ends within the memory
pub range_ends : (p : Layout) (k : ℕ) (r : Range) → IsLayout p → k < length p.ranges → r ≡ range_at p.ranges k → r.at + r.len ≤ p.size
range_ends p k r h l e =
    let a = laid_at p.ranges k 0 p.size no_range l h.laid in
    let b = start_of-le p.ranges (suc k) 0 p.size h.laid in
    let x = ap (λ (y : Range). y.at) e in
    let y = ap (λ (y : Range). y.len) e in
    omega (arith, a.1, b, x, y)

-- one more range that begins where those before it end
pub packed_next : (p : Layout) (k : ℕ) (r : Range) → IsLayout p → k < length p.ranges → IsPacked p.ranges k → r ≡ range_at p.ranges k → r.at ≤ end_before 0 p.ranges k → IsPacked p.ranges (k + 1)
packed_next p k r h l packed e low i w = elim (cases_eq i k) [
  | inl same ↦
      (let a = laid_at p.ranges k 0 p.size no_range l h.laid in
      let x = ap (λ (y : Range). y.at) e in
      let b = packed_end p.ranges k (omega arith) packed in
      let q : (range_at p.ranges k).at ≡ used (take k p.ranges) = omega (arith, a.2, x, b, low) in
      subst (λ (x : ℕ). (range_at p.ranges x).at ≡ used (take x p.ranges)) (sym same) q)
  | inr other ↦ packed i (omega arith)
]

pub next_end : (p : Layout) (k : ℕ) (r : Range) → k < length p.ranges → r ≡ range_at p.ranges k → r.at + r.len ≡ end_before 0 p.ranges (k + 1)
next_end p k r l e = ap (λ (y : Range). y.at + y.len) e ∙ sym (rw (add-one k) (end_before-more p.ranges k 0 no_range l))

pub all_packed : (p : Layout) (k n : ℕ) → k ≡ n → IsPacked p.ranges k → IsPacked p.ranges n
all_packed p k n e h = subst (IsPacked p.ranges) e h

pub gap_before : (p : Layout) (k end : ℕ) (r : Range) → r ≡ range_at p.ranges k → end ≡ end_before 0 p.ranges k → end < r.at → end_before 0 p.ranges k < (range_at p.ranges k).at
gap_before p k end r e f l = let x = ap (λ (y : Range). y.at) e in omega (arith, x, f, l)

-- where the range before a place of the list ends
pub first_end : (p : Layout) (k : ℕ) → k ≡ 0 → 0 ≡ end_before 0 p.ranges k
first_end p k e = rw e (sym (end_before-zero p.ranges 0))

pub below_end : (p : Layout) (k : ℕ) (r : Range) → k ≤ length p.ranges → k ≢ 0 → r ≡ range_at p.ranges (k - 1) → r.at + r.len ≡ end_before 0 p.ranges k
below_end p zero r l n e = absurd (n refl)
below_end p (suc k) r l n e =
    let m : suc k - 1 ≡ k = omega arith in
    ap (λ (y : Range). y.at + y.len) (e ∙ ap (range_at p.ranges) m) ∙ sym (end_before-more p.ranges k 0 no_range (omega (arith, l)))

-- the ranges are as they were but for those that have slid so far
pub record HaveSlid (p q : Layout) (front k end : ℕ) : Type 0 where
  pub low : front ≤ k
  pub before : (j : ℕ) → j < front → range_at q.ranges j ≡ range_at p.ranges j
  pub later : (j : ℕ) → k ≤ j → range_at q.ranges j ≡ range_at p.ranges j
  pub slid : (j : ℕ) → front ≤ j → j < k → (range_at q.ranges j).at < (range_at p.ranges j).at
  pub gap : k < length p.ranges → end < (range_at p.ranges k).at

pub slid_none : (p : Layout) (front end : ℕ) → end ≡ end_before 0 p.ranges front → (front < length p.ranges → end_before 0 p.ranges front < (range_at p.ranges front).at) → HaveSlid p p front front end
slid_none p front end e gap = record {
  low = omega arith;
  before = λ j l. refl;
  later = λ j l. refl;
  slid = λ j a b. absurd (omega (arith, a, b));
  gap = λ l. (let g = gap l in omega (arith, e, g));
}

-- one more range slides to where those before it end
pub slid_more : (p q s : Layout) (front k end : ℕ) → IsLayout p → HaveSlid p q front k end → k < length p.ranges → length q.ranges ≡ length p.ranges
    → s ≡ reshaped q k (range_at q.ranges k).id end (range_at q.ranges k).len → HaveSlid p s front (k + 1) (end + (range_at q.ranges k).len)
slid_more p q s front k end h v l count e = record {
  low = (let a = v.low in omega (arith, a));
  before = λ j w. (let n : j ≢ k = (let a = v.low in omega (arith, a, w)) in others j n ∙ v.before j w);
  later = λ j w. (let n : j ≢ k = omega (arith, w) in others j n ∙ v.later j (omega (arith, w)));
  slid = λ j a b. elim (cases_eq j k) [
    | inl same ↦ subst (λ (x : ℕ). (range_at s.ranges x).at < (range_at p.ranges x).at) (sym same) (let x : (range_at s.ranges k).at ≡ end = ap (λ (r : Range). r.at) here in let g = v.gap l in omega (arith, x, g))
    | inr other ↦ (let x = ap (λ (r : Range). r.at) (others j other) in let g = v.slid j a (omega (arith, b, other)) in omega (arith, x, g))
  ];
  gap = λ more.
      (let a = laid_at p.ranges k 0 p.size no_range l h.laid in
      let m : suc k < length p.ranges = omega (arith, more) in
      let b = start_of-at p.ranges (suc k) p.size no_range m in
      let g = v.gap l in
      let x = ap (λ (r : Range). r.len) (v.later k (omega arith)) in
      let y : (range_at p.ranges (k + 1)).at ≡ (range_at p.ranges (suc k)).at = ap (λ (i : ℕ). (range_at p.ranges i).at) (add-one k) in
      omega (arith, a.1, b, g, x, y));
}
  where
    here : range_at s.ranges k ≡ record { id = (range_at q.ranges k).id; at = end; len = (range_at q.ranges k).len }
    here = ap (λ (x : Layout). range_at x.ranges k) e ∙ get_or-set_same q.ranges k (record { id = (range_at q.ranges k).id; at = end; len = (range_at q.ranges k).len }) no_range (omega (arith, l, count))

    others : (j : ℕ) → j ≢ k → range_at s.ranges j ≡ range_at q.ranges j
    others j n = ap (λ (x : Layout). range_at x.ranges j) e ∙ get_or-set_other q.ranges k j (record { id = (range_at q.ranges k).id; at = end; len = (range_at q.ranges k).len }) no_range n

-- what the first ranges have is found in both, and what they don't have isn't found where the others don't have it
front_find : (qs rs : List Range) (n id : ℕ) → length qs ≡ length rs → ((j : ℕ) → j < n → range_at qs j ≡ range_at rs j) → find_in (drop n qs) id ≡ None
    → (find_in qs id ≡ find_in rs id) ⊎ (find_in qs id ≡ None)
front_find qs rs zero id long same none = inr none
front_find [] [] (suc n) id long same none = inl refl
front_find [] (r ∷ rs) (suc n) id long same none = absurd (omega (arith, long))
front_find (q ∷ qs) [] (suc n) id long same none = absurd (omega (arith, long))
front_find (q ∷ qs) (r ∷ rs) (suc n) id long same none =
    let e : q ≡ r = same 0 (omega arith) in
    elim (cases_eq id q.id) [
      | inl here ↦
          (let t : eqb id q.id ≡ true = grind (arith, nat_tests) in
          inl (subst (λ (x : Range). find_in (q ∷ qs) id ≡ find_in (x ∷ rs) id) e (rw t refl)))
      | inr other ↦
          (let t : eqb id q.id ≡ false = grind (arith, nat_tests) in
          elim (front_find qs rs n id (omega (arith, long)) (λ j w. same (suc j) (omega (arith, w))) none) [
            | inl found ↦ inl (subst (λ (x : Range). find_in (q ∷ qs) id ≡ find_in (x ∷ rs) id) e (rw t found))
            | inr gone ↦ inr (rw t gone)
          ])
    ]

no_length : (rs : List Range) (id : ℕ) → len_of (find_in rs id) ≡ 0 → ((at len : ℕ) → find_in rs id ≡ Some (at, len) → 0 < len) → find_in rs id ≡ None
no_length rs id e some = go (find_in rs id) refl
  where
    go : (o : Option (ℕ × ℕ)) → find_in rs id ≡ o → find_in rs id ≡ None
    go None f = f
    go (Some x) f = absurd (let a = some x.0 x.1 f in let b : len_of (find_in rs id) ≡ x.1 = ap len_of f in omega (arith, a, b, e))

pub front_stays : (m n : List ℕ) (p q : Layout) (front k end : ℕ) → KeepsParts m p n q → ((i at len : ℕ) → find_in p.ranges i ≡ Some (at, len) → 0 < len) → HaveSlid p q front k end → StayInFront p q front
front_stays m n p q front k end h some v id none = elim (front_find q.ranges p.ranges front id h.count v.before none) [
  | inl same ↦ same
  | inr gone ↦
      (let a : len_of (find_in p.ranges id) ≡ 0 = sym (h.lengths id) ∙ ap len_of gone in
      gone ∙ sym (no_length p.ranges id a (some id)))
]

pub behind_slide : (p q : Layout) (front k end : ℕ) → length q.ranges ≤ k → HaveSlid p q front k end → SlideBehind p q front
behind_slide p q front k end l v j a b = v.slid j a (omega (arith, b, l))
