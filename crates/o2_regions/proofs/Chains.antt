-- A list of places by rising place: what its links are after a place came or went.
use Rattle.std.proofs.Common.{◌≡◌, ◌≢◌, ℕ, ◌+◌, ◌<◌, ◌≤◌, inl, inr, Bool, true, false, arith, sym, ◌∙◌, subst}
use Rattle.std.proofs.lemmas.Bool.{cases_eq, cases_lt, both_ways}
use Rattle.o2_regions.specs.Links.{IsNext, IsLast, IsBefore, IsBehind}

-- the test of one place decides as another does
same_test : (t : ℕ → Bool) (x y : ℕ) (b : Bool) → x ≡ y → t x ≡ b → t y ≡ b
same_test t x y b e h = subst (λ (z : ℕ). t z ≡ b) e h

-- pointwise equal tests
pub IsNext-same : (t u : ℕ → Bool) (n s y r : ℕ) → ((z : ℕ) → u z ≡ t z) → IsNext t n s y r → IsNext u n s y r
IsNext-same t u n s y r e h = record {
  here = λ l. ((h.here l).0, e r ∙ (h.here l).1);
  past = h.past;
  clear = λ z a b l. e z ∙ h.clear z a b l;
}

pub IsLast-same : (t u : ℕ → Bool) (n s y r : ℕ) → ((z : ℕ) → u z ≡ t z) → IsLast t n s y r → IsLast u n s y r
IsLast-same t u n s y r e h = record {
  here = λ l. ((h.here l).0, e r ∙ (h.here l).1);
  past = h.past;
  clear = λ z a b. e z ∙ h.clear z a b;
}

module _ (t : ℕ → Bool) (n s p a c : ℕ) (pn : p < n) (ns : n ≤ s) (last : IsLast t n s p a) where
  -- where the places behind a begin
  pub bound_low : (y : ℕ) → IsBefore t n s a y → y ≤ p
  bound_low y node = elim node [
    | inl head ↦ omega arith
    | inr place ↦ omega (arith, (last.here place.0).0)
  ]

  pub bound_above : (y z : ℕ) → IsBefore t n s a y → y ≤ z → a < n → a < z
  bound_above y z node l m = elim node [ inl head ↦ absurd (omega arith) | inr place ↦ omega arith ]

  -- the only one whose next place is p or lies behind it is the last one before p
  pub only_before : (x y r : ℕ) → IsBefore t n s x y → IsNext t n s y r → y ≤ p → p ≤ r → x ≡ a
  only_before x y r node nx low high = elim node [
    | inl head ↦ elim (cases_lt a n) [
      | inl within ↦ absurd (both_ways (t a) (nx.clear a (omega arith) (omega (arith, (last.here within).0)) within) (last.here within).1)
      | inr past ↦ omega (arith, last.past past)
    ]
    | inr place ↦ elim (cases_lt x a) [
      | inl less ↦ elim (cases_lt a n) [
        | inl within ↦ absurd (both_ways (t a) (nx.clear a (omega arith) (omega (arith, (last.here within).0)) within) (last.here within).1)
        | inr past ↦ absurd (both_ways (t x) (last.clear x (omega arith) (λ l. omega arith)) place.1)
      ]
      | inr more ↦ elim (cases_eq x a) [
        | inl same ↦ same
        | inr other ↦ absurd (both_ways (t x) (last.clear x (omega arith) (λ l. omega arith)) place.1)
      ]
    ]
  ]

module _ (t : ℕ → Bool) (n s p a c : ℕ) (pn : p < n) (ns : n ≤ s) (cp : IsNext t n s (p + 1) c) where
  -- the only one whose place before it is p or lies before it is the next one behind p
  pub only_behind : (x y r : ℕ) → IsBehind t n s x y → IsLast t n s y r → p < y → (r < n → r ≤ p) → x ≡ c
  only_behind x y r node lx low high = elim node [
    | inl head ↦ elim (cases_lt c n) [
      | inl within ↦ absurd (both_ways (t c) (lx.clear c (omega arith) (λ l. omega (arith, high l, (cp.here within).0))) (cp.here within).1)
      | inr past ↦ omega (arith, cp.past past)
    ]
    | inr place ↦ elim (cases_eq x c) [
      | inl same ↦ same
      | inr other ↦ elim (cases_lt c x) [
        | inl less ↦
            (let within : c < n = omega arith in
            absurd (both_ways (t c) (lx.clear c (omega arith) (λ l. omega (arith, high l, (cp.here within).0))) (cp.here within).1))
        | inr more ↦ absurd (both_ways (t x) (cp.clear x (omega arith) (omega arith) place.0) place.1)
      ]
    ]
  ]

-- the next place behind one that isn't in the list is the next behind the last one before it
pub next_past : (t : ℕ → Bool) (n s p a c y : ℕ) → p < n → n ≤ s → IsLast t n s p a → t p ≡ false → IsBefore t n s a y → IsNext t n s y c → IsNext t n s (p + 1) c
next_past t n s p a c y pn ns last out node cn =
    let low = bound_low t n s p a c pn ns last y node in
    record {
      here = λ l. (
        elim (cases_lt p c) [
          | inl less ↦ omega arith
          | inr more ↦ elim (cases_eq c p) [
            | inl same ↦ absurd (both_ways (t p) out (same_test t c p true same (cn.here l).1))
            | inr other ↦ absurd (both_ways (t c) (last.clear c (omega arith) (bound_above t n s p a c pn ns last y c node (cn.here l).0)) (cn.here l).1)
          ]
        ],
        (cn.here l).1,
      );
      past = cn.past;
      clear = λ z l m h. cn.clear z (omega arith) m h;
    }

-- a place comes into the list
module _ (t u : ℕ → Bool) (n s p a c : ℕ) (pn : p < n) (ns : n ≤ s) (last : IsLast t n s p a) (cp : IsNext t n s (p + 1) c)
    (same : (z : ℕ) → z ≢ p → u z ≡ t z) (in_now : u p ≡ true) where
  kept : (r : ℕ) → t r ≡ true → u r ≡ true
  kept r h = elim (cases_eq r p) [ inl is ↦ same_test u p r true (sym is) in_now | inr other ↦ same r other ∙ h ]

  pub came_next : IsNext u n s (p + 1) c
  came_next = record {
    here = λ l. ((cp.here l).0, kept c (cp.here l).1);
    past = cp.past;
    clear = λ z l m h. same z (λ e. omega arith) ∙ cp.clear z l m h;
  }

  pub came_before : (y : ℕ) → IsBefore t n s a y → IsNext u n s y p
  came_before y node = record {
    here = λ l. (bound_low t n s p a c pn ns last y node, in_now);
    past = λ l. absurd (omega arith);
    clear = λ z l m h. same z (λ e. omega arith) ∙ last.clear z m (bound_above t n s p a c pn ns last y z node l);
  }

  pub came_else : (x y r : ℕ) → x ≢ a → IsBefore t n s x y → IsNext t n s y r → IsNext u n s y r
  came_else x y r other node nx = record {
    here = λ l. ((nx.here l).0, kept r (nx.here l).1);
    past = nx.past;
    clear = λ z l m h. elim (cases_eq z p) [
      | inl is ↦ absurd (other (only_before t n s p a c pn ns last x y r node nx (omega arith) (omega arith)))
      | inr not_p ↦ same z not_p ∙ nx.clear z l m h
    ];
  }

  pub came_last : IsLast u n s p a
  came_last = record {
    here = λ l. ((last.here l).0, kept a (last.here l).1);
    past = last.past;
    clear = λ z l m. same z (λ e. omega arith) ∙ last.clear z l m;
  }

  pub came_behind : (y : ℕ) → IsBehind t n s c y → IsLast u n s y p
  came_behind y node =
      let top : p < y = elim node [ inl head ↦ omega arith | inr place ↦ omega (arith, (cp.here place.0).0) ] in
      let less = λ (z : ℕ) (l : z < y). elim node as (λ q. (z < c) × (z < n)) [ inl head ↦ (omega arith, omega arith) | inr place ↦ (omega arith, omega arith) ] in
      record {
        here = λ l. (top, in_now);
        past = λ l. absurd (omega arith);
        clear = λ z l m. same z (λ e. omega (arith, m pn)) ∙ cp.clear z (omega (arith, m pn)) (less z l).0 (less z l).1;
      }

  pub came_back : (x y r : ℕ) → x ≢ c → IsBehind t n s x y → IsLast t n s y r → IsLast u n s y r
  came_back x y r other node lx = record {
    here = λ l. ((lx.here l).0, kept r (lx.here l).1);
    past = lx.past;
    clear = λ z l m. elim (cases_eq z p) [
      | inl is ↦ absurd (other (only_behind t n s p a c pn ns cp x y r node lx (omega arith) (λ h. omega (arith, m h))))
      | inr not_p ↦ same z not_p ∙ lx.clear z l m
    ];
  }

-- a place leaves the list
module _ (t u : ℕ → Bool) (n s p a c : ℕ) (pn : p < n) (ns : n ≤ s) (last : IsLast t n s p a) (cp : IsNext t n s (p + 1) c)
    (same : (z : ℕ) → z ≢ p → u z ≡ t z) (out_now : u p ≡ false) where
  pub went_before : (y : ℕ) → IsBefore t n s a y → IsNext u n s y c
  went_before y node =
      let low = bound_low t n s p a c pn ns last y node in
      record {
        here = λ l. (omega (arith, (cp.here l).0), same c (λ e. omega (arith, (cp.here l).0)) ∙ (cp.here l).1);
        past = cp.past;
        clear = λ z l m h. elim (cases_lt z p) [
          | inl less ↦ same z (λ e. omega arith) ∙ last.clear z less (bound_above t n s p a c pn ns last y z node l)
          | inr more ↦ elim (cases_eq z p) [
            | inl is ↦ same_test u p z false (sym is) out_now
            | inr other ↦ same z other ∙ cp.clear z (omega arith) m h
          ]
        ];
      }

  pub went_else : (x y r : ℕ) → x ≢ a → IsBefore t n s x y → IsNext t n s y r → IsNext u n s y r
  went_else x y r other node nx = record {
    here = λ l. ((nx.here l).0, same r (λ e. other (only_before t n s p a c pn ns last x y r node nx (omega (arith, (nx.here l).0)) (omega arith))) ∙ (nx.here l).1);
    past = nx.past;
    clear = λ z l m h. elim (cases_eq z p) [
      | inl is ↦ same_test u p z false (sym is) out_now
      | inr not_p ↦ same z not_p ∙ nx.clear z l m h
    ];
  }

  pub went_behind : (y : ℕ) → IsBehind t n s c y → IsLast u n s y a
  went_behind y node =
      let top : p < y = elim node [ inl head ↦ omega arith | inr place ↦ omega (arith, (cp.here place.0).0) ] in
      let less = λ (z : ℕ) (l : z < y). elim node as (λ q. (z < c) × (z < n)) [ inl head ↦ (omega arith, omega arith) | inr place ↦ (omega arith, omega arith) ] in
      record {
        here = λ l. (omega (arith, (last.here l).0), same a (λ e. omega (arith, (last.here l).0)) ∙ (last.here l).1);
        past = last.past;
        clear = λ z l m. elim (cases_lt z p) [
          | inl below ↦ same z (λ e. omega arith) ∙ last.clear z below m
          | inr more ↦ elim (cases_eq z p) [
            | inl is ↦ same_test u p z false (sym is) out_now
            | inr other ↦ same z other ∙ cp.clear z (omega arith) (less z l).0 (less z l).1
          ]
        ];
      }

  pub went_back : (x y r : ℕ) → x ≢ c → IsBehind t n s x y → IsLast t n s y r → IsLast u n s y r
  went_back x y r other node lx = record {
    here = λ l. ((lx.here l).0, same r (λ e. other (only_behind t n s p a c pn ns cp x y r node lx (omega (arith, (lx.here l).0)) (λ h. omega arith))) ∙ (lx.here l).1);
    past = lx.past;
    clear = λ z l m. elim (cases_eq z p) [
      | inl is ↦ same_test u p z false (sym is) out_now
      | inr not_p ↦ same z not_p ∙ lx.clear z l m
    ];
  }
