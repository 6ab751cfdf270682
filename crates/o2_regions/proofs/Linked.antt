-- The links after a place came into its list or left it.
use Rattle.std.proofs.Common.{◌≡◌, ◌≢◌, ◌⊎◌, ℕ, ◌+◌, ◌<◌, inl, inr, Bool, true, false, List, length, Option, Some, None, cond, eqb, arith, refl, sym, ap, ◌∙◌, subst, get_or, set}
use Rattle.std.proofs.lemmas.Bool.{cases_eq, cases_lt, both_ways, eq-eqb, ne_eqb, eqb-true}
use Rattle.std.proofs.lemmas.List.{length-set}
use Rattle.o2_regions.specs.declared.held.Held.{Held}
use Rattle.o2_regions.specs.Links.{IsNext, IsLast, IsBefore, IsBehind, AreNext, ArePrev, is_in, list_of, stands_in}
use Rattle.o2_regions.proofs.Chains.{IsNext-same, IsLast-same, next_past, came_next, came_before, came_else, came_last, came_behind, came_back, went_before, went_else, went_behind, went_back}
use Rattle.o2_regions.proofs.Writes.{get_or-set}

one_list : (o : Option Held) (b d : ℕ) → is_in b o ≡ true → is_in d o ≡ true → b ≡ d
one_list None b d e f = absurd cc
one_list (Some h) b d e f = sym (eqb-true (list_of h.id.key) b e) ∙ eqb-true (list_of h.id.key) d f

-- the head or a place of a list
abbrev IsOf : ℕ → List (Option Held) → ℕ → ℕ → Type 0
IsOf n held b x = (x ≡ n + b) ⊎ ((x < n) × (stands_in held b x ≡ true))

-- what belongs to one list belongs to no other
lists_apart : (n : ℕ) (held : List (Option Held)) (b d x a : ℕ) → b ≢ d → IsOf n held b x → IsOf n held d a → x ≢ a
lists_apart n held b d x a apart p q same = elim p [
  | inl head ↦ elim q [
    | inl other ↦ apart (omega arith)
    | inr place ↦ omega arith
  ]
  | inr here ↦ elim q [
    | inl other ↦ omega arith
    | inr place ↦ apart (one_list (get_or held x None) b d here.1 (subst (λ (z : ℕ). stands_in held d z ≡ true) (sym same) place.1))
  ]
]

last_of : (n : ℕ) (held : List (Option Held)) (b y a : ℕ) → IsLast (stands_in held b) n (n + b) y a → IsOf n held b a
last_of n held b y a h = elim (cases_lt a n) [ inl within ↦ inr (within, (h.here within).1) | inr past ↦ inl (h.past past) ]

next_of : (n : ℕ) (held : List (Option Held)) (b y c : ℕ) → IsNext (stands_in held b) n (n + b) y c → IsOf n held b c
next_of n held b y c h = elim (cases_lt c n) [ inl within ↦ inr (within, (h.here within).1) | inr past ↦ inl (h.past past) ]

before_of : (n : ℕ) (held : List (Option Held)) (b x y : ℕ) → IsBefore (stands_in held b) n (n + b) x y → IsOf n held b x
before_of n held b x y node = elim node [ inl head ↦ inl head.0 | inr place ↦ inr (place.0, place.1) ]

behind_of : (n : ℕ) (held : List (Option Held)) (b x y : ℕ) → IsBehind (stands_in held b) n (n + b) x y → IsOf n held b x
behind_of n held b x y node = elim node [ inl head ↦ inl head.0 | inr place ↦ inr (place.0, place.1) ]

-- where a list begins behind one of its own
pub before_from : (n : ℕ) (held : List (Option Held)) (b a : ℕ) → IsOf n held b a → (y : ℕ) × IsBefore (stands_in held b) n (n + b) a y
before_from n held b a p = elim p [ inl head ↦ (0, inl (head, refl)) | inr place ↦ (a + 1, inr (place.0, place.1, refl)) ]

before_same : (t u : ℕ → Bool) (n s x y : ℕ) → u x ≡ t x → IsBefore u n s x y → IsBefore t n s x y
before_same t u n s x y e node = elim node [ inl head ↦ inl head | inr place ↦ inr (place.0, sym e ∙ place.1, place.2) ]

behind_same : (t u : ℕ → Bool) (n s x y : ℕ) → u x ≡ t x → IsBehind u n s x y → IsBehind t n s x y
behind_same t u n s x y e node = elim node [ inl head ↦ inl head | inr place ↦ inr (place.0, sym e ∙ place.1, place.2) ]

module _ (n : ℕ) (held : List (Option Held)) (p : ℕ) (o : Option Held) (long : length held ≡ n) (pn : p < n) where
  test_other : (b z : ℕ) → z ≢ p → stands_in (set held p o) b z ≡ stands_in held b z
  test_other b z e = ap (is_in b) (get_or-set held p o None (omega arith) z ∙ ap (λ (t : Bool). cond t o (get_or held z None)) (ne_eqb z p e))

  test_here : (b : ℕ) → stands_in (set held p o) b p ≡ is_in b o
  test_here b = ap (is_in b) (get_or-set held p o None (omega arith) p ∙ ap (λ (t : Bool). cond t o (get_or held p None)) (eq-eqb p p refl))

  -- the test of a list that the place neither comes into nor leaves
  test_same : (b : ℕ) → is_in b o ≡ stands_in held b p → (z : ℕ) → stands_in (set held p o) b z ≡ stands_in held b z
  test_same b e z = elim (cases_eq z p) [
    | inl is ↦ subst (λ (x : ℕ). stands_in (set held p o) b x ≡ stands_in held b x) (sym is) (test_here b ∙ e)
    | inr other ↦ test_other b z other
  ]

-- a place with nothing comes to hold something
module _ (n : ℕ) (held : List (Option Held)) (next prev : List ℕ) (p a c : ℕ) (h : Held) (long : length held ≡ n) (pn : p < n)
    (none : get_or held p None ≡ None) (nexts : AreNext n held next) (prevs : ArePrev n held prev)
    (last : IsLast (stands_in held (list_of h.id.key)) n (n + list_of h.id.key) p a) (is_c : c ≡ get_or next a 0) where
  out_before : (b : ℕ) → stands_in held b p ≡ false
  out_before b = ap (is_in b) none

  a_inside : a < n + 65536
  a_inside = elim (last_of n held (list_of h.id.key) p a last) [ inl head ↦ omega arith | inr place ↦ omega arith ]

  cp : IsNext (stands_in held (list_of h.id.key)) n (n + list_of h.id.key) (p + 1) c
  cp =
      let b = list_of h.id.key in
      let y = before_from n held b a (last_of n held b p a last) in
      next_past (stands_in held b) n (n + b) p a c y.0 pn (omega arith) last (out_before b) y.1 (subst (λ (r : ℕ). IsNext (stands_in held b) n (n + b) y.0 r) (sym is_c) (nexts.leads b a y.0 (omega arith) y.1))

  c_inside : c < n + 65536
  c_inside = elim (next_of n held (list_of h.id.key) (p + 1) c cp) [ inl head ↦ omega arith | inr place ↦ omega arith ]

  value_next : (x : ℕ) → get_or (set (set next a p) p c) x 0 ≡ cond (eqb x p) c (cond (eqb x a) p (get_or next x 0))
  value_next x =
      get_or-set (set next a p) p c 0 (omega (arith, length-set next a p, nexts.next_long)) x
      ∙ ap (λ (v : ℕ). cond (eqb x p) c v) (get_or-set next a p 0 (omega (arith, a_inside, nexts.next_long)) x)

  value_prev : (x : ℕ) → get_or (set (set prev p a) c p) x 0 ≡ cond (eqb x c) p (cond (eqb x p) a (get_or prev x 0))
  value_prev x =
      get_or-set (set prev p a) c p 0 (omega (arith, length-set prev p a, prevs.prev_long, c_inside)) x
      ∙ ap (λ (v : ℕ). cond (eqb x c) p v) (get_or-set prev p a 0 (omega (arith, prevs.prev_long)) x)

  in_now : (b : ℕ) → b ≡ list_of h.id.key → stands_in (set held p (Some h)) b p ≡ true
  in_now b e = test_here n held p (Some h) long pn b ∙ eq-eqb (list_of h.id.key) b (sym e)

  out_now : (b : ℕ) → b ≢ list_of h.id.key → is_in b (Some h) ≡ stands_in held b p
  out_now b e = ne_eqb (list_of h.id.key) b (λ f. e (sym f)) ∙ sym (out_before b)

  next_own : (x y : ℕ) → let b = list_of h.id.key in IsBefore (stands_in (set held p (Some h)) b) n (n + b) x y
      → IsNext (stands_in (set held p (Some h)) b) n (n + b) y (get_or (set (set next a p) p c) x 0)
  next_own x y node =
      let b = list_of h.id.key in
      let t = stands_in held b in
      let u = stands_in (set held p (Some h)) b in
      let same = test_other n held p (Some h) long pn b in
      elim (cases_eq x p) [
        | inl is ↦
            (let v : get_or (set (set next a p) p c) x 0 ≡ c = value_next x ∙ ap (λ (k : Bool). cond k c (cond (eqb x a) p (get_or next x 0))) (eq-eqb x p is) in
            let d : y ≡ p + 1 = elim node [ inl head ↦ absurd (omega arith) | inr place ↦ omega arith ] in
            subst (λ (r : ℕ). IsNext u n (n + b) y r) (sym v) (subst (λ (k : ℕ). IsNext u n (n + b) k c) (sym d) (came_next t u n (n + b) p a c pn (omega arith) last cp same (in_now b refl))))
        | inr other ↦
            (let old = before_same t u n (n + b) x y (same x other) node in
            elim (cases_eq x a) [
              | inl is ↦
                  (let v : get_or (set (set next a p) p c) x 0 ≡ p = value_next x ∙ ap (λ (k : Bool). cond k c (cond (eqb x a) p (get_or next x 0))) (ne_eqb x p other) ∙ ap (λ (k : Bool). cond k p (get_or next x 0)) (eq-eqb x a is) in
                  subst (λ (r : ℕ). IsNext u n (n + b) y r) (sym v) (came_before t u n (n + b) p a c pn (omega arith) last cp same (in_now b refl) y (subst (λ (k : ℕ). IsBefore t n (n + b) k y) is old)))
              | inr apart ↦
                  (let v : get_or (set (set next a p) p c) x 0 ≡ get_or next x 0 = value_next x ∙ ap (λ (k : Bool). cond k c (cond (eqb x a) p (get_or next x 0))) (ne_eqb x p other) ∙ ap (λ (k : Bool). cond k p (get_or next x 0)) (ne_eqb x a apart) in
                  subst (λ (r : ℕ). IsNext u n (n + b) y r) (sym v) (came_else t u n (n + b) p a c pn (omega arith) last cp same (in_now b refl) x y (get_or next x 0) apart old (nexts.leads b x y (omega arith) old)))
            ])
      ]

  next_else : (b x y : ℕ) → b < 65536 → b ≢ list_of h.id.key → IsBefore (stands_in (set held p (Some h)) b) n (n + b) x y
      → IsNext (stands_in (set held p (Some h)) b) n (n + b) y (get_or (set (set next a p) p c) x 0)
  next_else b x y m e node =
      let t = stands_in held b in
      let u = stands_in (set held p (Some h)) b in
      let same = test_same n held p (Some h) long pn b (out_now b e) in
      let old = before_same t u n (n + b) x y (same x) node in
      let not_p : x ≢ p = λ f. elim old [ inl head ↦ omega arith | inr place ↦ both_ways (t x) (subst (λ (k : ℕ). t k ≡ false) (sym f) (out_before b)) place.1 ] in
      let not_a : x ≢ a = lists_apart n held b (list_of h.id.key) x a e (before_of n held b x y old) (last_of n held (list_of h.id.key) p a last) in
      let v : get_or (set (set next a p) p c) x 0 ≡ get_or next x 0 = value_next x ∙ ap (λ (k : Bool). cond k c (cond (eqb x a) p (get_or next x 0))) (ne_eqb x p not_p) ∙ ap (λ (k : Bool). cond k p (get_or next x 0)) (ne_eqb x a not_a) in
      subst (λ (r : ℕ). IsNext u n (n + b) y r) (sym v) (IsNext-same t u n (n + b) y (get_or next x 0) same (nexts.leads b x y m old))

  pub AreNext-came : AreNext n (set held p (Some h)) (set (set next a p) p c)
  AreNext-came = record {
    next_long = length-set (set next a p) p c ∙ length-set next a p ∙ nexts.next_long;
    leads = λ b x y m node. elim (cases_eq b (list_of h.id.key)) [
      | inl own ↦ subst (λ (k : ℕ). IsBefore (stands_in (set held p (Some h)) k) n (n + k) x y → IsNext (stands_in (set held p (Some h)) k) n (n + k) y (get_or (set (set next a p) p c) x 0)) (sym own) (next_own x y) node
      | inr other ↦ next_else b x y m other node
    ];
  }

  prev_own : (x y : ℕ) → let b = list_of h.id.key in IsBehind (stands_in (set held p (Some h)) b) n (n + b) x y
      → IsLast (stands_in (set held p (Some h)) b) n (n + b) y (get_or (set (set prev p a) c p) x 0)
  prev_own x y node =
      let b = list_of h.id.key in
      let t = stands_in held b in
      let u = stands_in (set held p (Some h)) b in
      let same = test_other n held p (Some h) long pn b in
      let far : c ≢ p = λ f. elim (cases_lt c n) [ inl within ↦ omega (arith, (cp.here within).0) | inr past ↦ omega arith ] in
      elim (cases_eq x p) [
        | inl is ↦
            (let not_c : x ≢ c = λ f. far (sym f ∙ is) in
            let v : get_or (set (set prev p a) c p) x 0 ≡ a = value_prev x ∙ ap (λ (k : Bool). cond k p (cond (eqb x p) a (get_or prev x 0))) (ne_eqb x c not_c) ∙ ap (λ (k : Bool). cond k a (get_or prev x 0)) (eq-eqb x p is) in
            let d : y ≡ p = elim node [ inl head ↦ absurd (omega arith) | inr place ↦ omega arith ] in
            subst (λ (r : ℕ). IsLast u n (n + b) y r) (sym v) (subst (λ (k : ℕ). IsLast u n (n + b) k a) (sym d) (came_last t u n (n + b) p a c pn (omega arith) last cp same (in_now b refl))))
        | inr other ↦
            (let old = behind_same t u n (n + b) x y (same x other) node in
            elim (cases_eq x c) [
              | inl is ↦
                  (let v : get_or (set (set prev p a) c p) x 0 ≡ p = value_prev x ∙ ap (λ (k : Bool). cond k p (cond (eqb x p) a (get_or prev x 0))) (eq-eqb x c is) in
                  subst (λ (r : ℕ). IsLast u n (n + b) y r) (sym v) (came_behind t u n (n + b) p a c pn (omega arith) last cp same (in_now b refl) y (subst (λ (k : ℕ). IsBehind t n (n + b) k y) is old)))
              | inr apart ↦
                  (let v : get_or (set (set prev p a) c p) x 0 ≡ get_or prev x 0 = value_prev x ∙ ap (λ (k : Bool). cond k p (cond (eqb x p) a (get_or prev x 0))) (ne_eqb x c apart) ∙ ap (λ (k : Bool). cond k a (get_or prev x 0)) (ne_eqb x p other) in
                  subst (λ (r : ℕ). IsLast u n (n + b) y r) (sym v) (came_back t u n (n + b) p a c pn (omega arith) last cp same (in_now b refl) x y (get_or prev x 0) apart old (prevs.leads b x y (omega arith) old)))
            ])
      ]

  prev_else : (b x y : ℕ) → b < 65536 → b ≢ list_of h.id.key → IsBehind (stands_in (set held p (Some h)) b) n (n + b) x y
      → IsLast (stands_in (set held p (Some h)) b) n (n + b) y (get_or (set (set prev p a) c p) x 0)
  prev_else b x y m e node =
      let t = stands_in held b in
      let u = stands_in (set held p (Some h)) b in
      let same = test_same n held p (Some h) long pn b (out_now b e) in
      let old = behind_same t u n (n + b) x y (same x) node in
      let not_p : x ≢ p = λ f. elim old [ inl head ↦ omega arith | inr place ↦ both_ways (t x) (subst (λ (k : ℕ). t k ≡ false) (sym f) (out_before b)) place.1 ] in
      let not_c : x ≢ c = lists_apart n held b (list_of h.id.key) x c e (behind_of n held b x y old) (next_of n held (list_of h.id.key) (p + 1) c cp) in
      let v : get_or (set (set prev p a) c p) x 0 ≡ get_or prev x 0 = value_prev x ∙ ap (λ (k : Bool). cond k p (cond (eqb x p) a (get_or prev x 0))) (ne_eqb x c not_c) ∙ ap (λ (k : Bool). cond k a (get_or prev x 0)) (ne_eqb x p not_p) in
      subst (λ (r : ℕ). IsLast u n (n + b) y r) (sym v) (IsLast-same t u n (n + b) y (get_or prev x 0) same (prevs.leads b x y m old))

  pub ArePrev-came : ArePrev n (set held p (Some h)) (set (set prev p a) c p)
  ArePrev-came = record {
    prev_long = length-set (set prev p a) c p ∙ length-set prev p a ∙ prevs.prev_long;
    leads = λ b x y m node. elim (cases_eq b (list_of h.id.key)) [
      | inl own ↦ subst (λ (k : ℕ). IsBehind (stands_in (set held p (Some h)) k) n (n + k) x y → IsLast (stands_in (set held p (Some h)) k) n (n + k) y (get_or (set (set prev p a) c p) x 0)) (sym own) (prev_own x y) node
      | inr other ↦ prev_else b x y m other node
    ];
  }

-- a place that holds something comes to hold nothing
module _ (n : ℕ) (held : List (Option Held)) (next prev : List ℕ) (p : ℕ) (h : Held) (long : length held ≡ n) (pn : p < n)
    (some : get_or held p None ≡ Some h) (nexts : AreNext n held next) (prevs : ArePrev n held prev) (a c : ℕ)
    (is_a : a ≡ get_or prev p 0) (is_c : c ≡ get_or next p 0) where
  was_in : stands_in held (list_of h.id.key) p ≡ true
  was_in = ap (is_in (list_of h.id.key)) some ∙ eq-eqb (list_of h.id.key) (list_of h.id.key) refl

  last_one : IsLast (stands_in held (list_of h.id.key)) n (n + list_of h.id.key) p a
  last_one =
      let b = list_of h.id.key in
      subst (λ (r : ℕ). IsLast (stands_in held b) n (n + b) p r) (sym is_a) (prevs.leads b p p (omega arith) (inr (pn, was_in, refl)))

  next_one : IsNext (stands_in held (list_of h.id.key)) n (n + list_of h.id.key) (p + 1) c
  next_one =
      let b = list_of h.id.key in
      subst (λ (r : ℕ). IsNext (stands_in held b) n (n + b) (p + 1) r) (sym is_c) (nexts.leads b p (p + 1) (omega arith) (inr (pn, was_in, refl)))

  pub before_inside : a < n + 65536
  before_inside = elim (last_of n held (list_of h.id.key) p a last_one) [ inl head ↦ omega arith | inr place ↦ omega arith ]

  pub behind_inside : c < n + 65536
  behind_inside = elim (next_of n held (list_of h.id.key) (p + 1) c next_one) [ inl head ↦ omega arith | inr place ↦ omega arith ]

  left_next : (x : ℕ) → get_or (set next a c) x 0 ≡ cond (eqb x a) c (get_or next x 0)
  left_next x = get_or-set next a c 0 (omega (arith, nexts.next_long, before_inside)) x

  left_prev : (x : ℕ) → get_or (set prev c a) x 0 ≡ cond (eqb x c) a (get_or prev x 0)
  left_prev x = get_or-set prev c a 0 (omega (arith, prevs.prev_long, behind_inside)) x

  out_here : (b : ℕ) → stands_in (set held p None) b p ≡ false
  out_here b = test_here n held p None long pn b

  out_else : (b : ℕ) → b ≢ list_of h.id.key → is_in b None ≡ stands_in held b p
  out_else b e = sym (ap (is_in b) some ∙ ne_eqb (list_of h.id.key) b (λ f. e (sym f)))

  next_own_left : (x y : ℕ) → let b = list_of h.id.key in IsBefore (stands_in (set held p None) b) n (n + b) x y
      → IsNext (stands_in (set held p None) b) n (n + b) y (get_or (set next a c) x 0)
  next_own_left x y node =
      let b = list_of h.id.key in
      let t = stands_in held b in
      let u = stands_in (set held p None) b in
      let same = test_other n held p None long pn b in
      let other : x ≢ p = λ f. elim node [ inl head ↦ omega arith | inr place ↦ both_ways (u x) (subst (λ (k : ℕ). u k ≡ false) (sym f) (out_here b)) place.1 ] in
      let old = before_same t u n (n + b) x y (same x other) node in
      elim (cases_eq x a) [
        | inl is ↦
            (let v : get_or (set next a c) x 0 ≡ c = left_next x ∙ ap (λ (k : Bool). cond k c (get_or next x 0)) (eq-eqb x a is) in
            subst (λ (r : ℕ). IsNext u n (n + b) y r) (sym v) (went_before t u n (n + b) p a c pn (omega arith) last_one next_one same (out_here b) y (subst (λ (k : ℕ). IsBefore t n (n + b) k y) is old)))
        | inr apart ↦
            (let v : get_or (set next a c) x 0 ≡ get_or next x 0 = left_next x ∙ ap (λ (k : Bool). cond k c (get_or next x 0)) (ne_eqb x a apart) in
            subst (λ (r : ℕ). IsNext u n (n + b) y r) (sym v) (went_else t u n (n + b) p a c pn (omega arith) last_one next_one same (out_here b) x y (get_or next x 0) apart old (nexts.leads b x y (omega arith) old)))
      ]

  next_else_left : (b x y : ℕ) → b < 65536 → b ≢ list_of h.id.key → IsBefore (stands_in (set held p None) b) n (n + b) x y
      → IsNext (stands_in (set held p None) b) n (n + b) y (get_or (set next a c) x 0)
  next_else_left b x y m e node =
      let t = stands_in held b in
      let u = stands_in (set held p None) b in
      let same = test_same n held p None long pn b (out_else b e) in
      let old = before_same t u n (n + b) x y (same x) node in
      let not_a : x ≢ a = lists_apart n held b (list_of h.id.key) x a e (before_of n held b x y old) (last_of n held (list_of h.id.key) p a last_one) in
      let v : get_or (set next a c) x 0 ≡ get_or next x 0 = left_next x ∙ ap (λ (k : Bool). cond k c (get_or next x 0)) (ne_eqb x a not_a) in
      subst (λ (r : ℕ). IsNext u n (n + b) y r) (sym v) (IsNext-same t u n (n + b) y (get_or next x 0) same (nexts.leads b x y m old))

  pub AreNext-went : AreNext n (set held p None) (set next a c)
  AreNext-went = record {
    next_long = length-set next a c ∙ nexts.next_long;
    leads = λ b x y m node. elim (cases_eq b (list_of h.id.key)) [
      | inl own ↦ subst (λ (k : ℕ). IsBefore (stands_in (set held p None) k) n (n + k) x y → IsNext (stands_in (set held p None) k) n (n + k) y (get_or (set next a c) x 0)) (sym own) (next_own_left x y) node
      | inr other ↦ next_else_left b x y m other node
    ];
  }

  prev_own_left : (x y : ℕ) → let b = list_of h.id.key in IsBehind (stands_in (set held p None) b) n (n + b) x y
      → IsLast (stands_in (set held p None) b) n (n + b) y (get_or (set prev c a) x 0)
  prev_own_left x y node =
      let b = list_of h.id.key in
      let t = stands_in held b in
      let u = stands_in (set held p None) b in
      let same = test_other n held p None long pn b in
      let other : x ≢ p = λ f. elim node [ inl head ↦ omega arith | inr place ↦ both_ways (u x) (subst (λ (k : ℕ). u k ≡ false) (sym f) (out_here b)) place.1 ] in
      let old = behind_same t u n (n + b) x y (same x other) node in
      elim (cases_eq x c) [
        | inl is ↦
            (let v : get_or (set prev c a) x 0 ≡ a = left_prev x ∙ ap (λ (k : Bool). cond k a (get_or prev x 0)) (eq-eqb x c is) in
            subst (λ (r : ℕ). IsLast u n (n + b) y r) (sym v) (went_behind t u n (n + b) p a c pn (omega arith) last_one next_one same (out_here b) y (subst (λ (k : ℕ). IsBehind t n (n + b) k y) is old)))
        | inr apart ↦
            (let v : get_or (set prev c a) x 0 ≡ get_or prev x 0 = left_prev x ∙ ap (λ (k : Bool). cond k a (get_or prev x 0)) (ne_eqb x c apart) in
            subst (λ (r : ℕ). IsLast u n (n + b) y r) (sym v) (went_back t u n (n + b) p a c pn (omega arith) last_one next_one same (out_here b) x y (get_or prev x 0) apart old (prevs.leads b x y (omega arith) old)))
      ]

  prev_else_left : (b x y : ℕ) → b < 65536 → b ≢ list_of h.id.key → IsBehind (stands_in (set held p None) b) n (n + b) x y
      → IsLast (stands_in (set held p None) b) n (n + b) y (get_or (set prev c a) x 0)
  prev_else_left b x y m e node =
      let t = stands_in held b in
      let u = stands_in (set held p None) b in
      let same = test_same n held p None long pn b (out_else b e) in
      let old = behind_same t u n (n + b) x y (same x) node in
      let not_c : x ≢ c = lists_apart n held b (list_of h.id.key) x c e (behind_of n held b x y old) (next_of n held (list_of h.id.key) (p + 1) c next_one) in
      let v : get_or (set prev c a) x 0 ≡ get_or prev x 0 = left_prev x ∙ ap (λ (k : Bool). cond k a (get_or prev x 0)) (ne_eqb x c not_c) in
      subst (λ (r : ℕ). IsLast u n (n + b) y r) (sym v) (IsLast-same t u n (n + b) y (get_or prev x 0) same (prevs.leads b x y m old))

  pub ArePrev-went : ArePrev n (set held p None) (set prev c a)
  ArePrev-went = record {
    prev_long = length-set prev c a ∙ prevs.prev_long;
    leads = λ b x y m node. elim (cases_eq b (list_of h.id.key)) [
      | inl own ↦ subst (λ (k : ℕ). IsBehind (stands_in (set held p None) k) n (n + k) x y → IsLast (stands_in (set held p None) k) n (n + k) y (get_or (set prev c a) x 0)) (sym own) (prev_own_left x y) node
      | inr other ↦ prev_else_left b x y m other node
    ];
  }

-- what is held at a place changes, and the segment doesn't
module _ (n : ℕ) (held : List (Option Held)) (next prev : List ℕ) (p : ℕ) (was now : Held) (long : length held ≡ n) (pn : p < n)
    (some : get_or held p None ≡ Some was) (same_key : now.id.key ≡ was.id.key) where
  tests_stay : (b z : ℕ) → stands_in (set held p (Some now)) b z ≡ stands_in held b z
  tests_stay b z = test_same n held p (Some now) long pn b (ap (λ (k : ℕ). eqb (list_of k) b) same_key ∙ sym (ap (is_in b) some)) z

  pub AreNext-stay : AreNext n held next → AreNext n (set held p (Some now)) next
  AreNext-stay h = record {
    next_long = h.next_long;
    leads = λ b x y m node. IsNext-same (stands_in held b) (stands_in (set held p (Some now)) b) n (n + b) y (get_or next x 0) (tests_stay b)
        (h.leads b x y m (before_same (stands_in held b) (stands_in (set held p (Some now)) b) n (n + b) x y (tests_stay b x) node));
  }

  pub ArePrev-stay : ArePrev n held prev → ArePrev n (set held p (Some now)) prev
  ArePrev-stay h = record {
    prev_long = h.prev_long;
    leads = λ b x y m node. IsLast-same (stands_in held b) (stands_in (set held p (Some now)) b) n (n + b) y (get_or prev x 0) (tests_stay b)
        (h.leads b x y m (behind_same (stands_in held b) (stands_in (set held p (Some now)) b) n (n + b) x y (tests_stay b x) node));
  }

pub held_some : (o : Option Held) → o ≢ None → (h : Held) × (o ≡ Some h)
held_some None e = absurd (e refl)
held_some (Some h) e = (h, refl)

-- what a list's links lead to lies among the places and heads
pub leads_inside : (n : ℕ) (held : List (Option Held)) (next : List ℕ) (b p a c : ℕ) → AreNext n held next → b < 65536 → p < n → IsLast (stands_in held b) n (n + b) p a → c ≡ get_or next a 0 → c < n + 65536
leads_inside n held next b p a c h m pn last e =
    let y = before_from n held b a (last_of n held b p a last) in
    let l = h.leads b a y.0 m y.1 in
    elim (next_of n held b y.0 (get_or next a 0) l) [ inl head ↦ omega arith | inr place ↦ omega arith ]

pub last_inside : (n : ℕ) (held : List (Option Held)) (b p a : ℕ) → b < 65536 → IsLast (stands_in held b) n (n + b) p a → a < n + 65536
last_inside n held b p a m last = elim (last_of n held b p a last) [ inl head ↦ omega arith | inr place ↦ omega arith ]
