-- A write of one element of a list.
use Rattle.std.proofs.Common.{◌≡◌, ℕ, ◌+◌, ◌-◌, ◌++◌, take, drop, ◌<◌, ◌≤◌, inl, inr, List, length, cond, eqb, sym, ap, ◌∙◌, arith, true, false, Bool, get_or, subst, set, nat_le, nat_lt, ◌&&◌, replicate}
use Rattle.std.proofs.lemmas.Bool.{cases_eq, cases_lt, eq-eqb, ne_eqb}
use Rattle.std.proofs.lemmas.Bool.Decides.{nat_tests}
use Rattle.std.proofs.lemmas.List.{get_or-set_same, get_or-set_other, get_or-replicate, get_or_past, length-replicate, length-set, length-append, length-take-le, length-drop, get_or_append_left, get_or-append_right, get_or-take, get_or-drop, take-append-drop, ext_get_or}
use Rattle.o2_regions.specs.Maps.{fill}

pub get_or-set : {X : Type 0} (xs : List X) (i : ℕ) (y d : X) → i < length xs → (n : ℕ) → get_or (set xs i y) n d ≡ cond (eqb n i) y (get_or xs n d)
get_or-set xs i y d l n = elim (cases_eq n i) [
  | inl same ↦ rw (eq-eqb n i same) (subst (λ (k : ℕ). get_or (set xs i y) k d ≡ y) (sym same) (get_or-set_same xs i y d l))
  | inr other ↦ rw (ne_eqb n i other) (get_or-set_other xs i n y d other)
]

-- a list of one mark alone
pub get_or-same : {X : Type 0} (m n : ℕ) (d : X) → get_or (replicate m d) n d ≡ d
get_or-same m n d = elim (cases_lt n m) [
  | inl within ↦ get_or-replicate m n d d within
  | inr past ↦ get_or_past (replicate m d) n d (rw (length-replicate m d) past)
]

live_none : (n : ℕ) → false ≡ (nat_le 1 n && nat_lt n 1)
live_none n = grind (arith, nat_tests)

live_more : (b : Bool) (n p : ℕ) → 1 ≤ p → b ≡ (nat_le 1 n && nat_lt n p) → cond (eqb n p) true b ≡ (nat_le 1 n && nat_lt n (p + 1))
live_more b n p h e = grind (arith, nat_tests)

-- the numbers below the first one are live: none
pub started_none : (live : List Bool) → live ≡ replicate 65 false → (length live ≡ 65) × ((n : ℕ) → get_or live n false ≡ (nat_le 1 n && nat_lt n 1))
started_none live e = (ap length e ∙ length-replicate 65 false, λ n. ap (λ (l : List Bool). get_or l n false) e ∙ get_or-same 65 n false ∙ live_none n)

-- one more number is live
pub started_more : (live : List Bool) (p : ℕ) → 1 ≤ p → p < 65 → (length live ≡ 65) × ((n : ℕ) → get_or live n false ≡ (nat_le 1 n && nat_lt n p))
    → (length (set live p true) ≡ 65) × ((n : ℕ) → get_or (set live p true) n false ≡ (nat_le 1 n && nat_lt n (p + 1)))
started_more live p h l s = (
  length-set live p true ∙ s.0,
  λ n. get_or-set live p true false (omega (arith, s.0)) n ∙ live_more (get_or live n false) n p h (s.1 n),
)

-- so many elements from a place on, all the same
pub length-fill : {X : Type 0} (xs : List X) (at n : ℕ) (x : X) → at + n ≤ length xs → length (fill xs at n x) ≡ length xs
unfolding fill
length-fill xs at n x h =
    omega (arith, length-append (take at xs) (replicate n x ++ drop (at + n) xs), length-append (replicate n x) (drop (at + n) xs), length-take-le at xs (omega arith), length-replicate n x, length-drop (at + n) xs)

pub get_or-fill : {X : Type 0} (xs : List X) (at n : ℕ) (x d : X) → at + n ≤ length xs → (k : ℕ) → get_or (fill xs at n x) k d ≡ cond (nat_le at k && nat_lt k (at + n)) x (get_or xs k d)
unfolding fill
get_or-fill xs at n x d h k =
    let rest = replicate n x ++ drop (at + n) xs in
    let front : length (take at xs) ≡ at = length-take-le at xs (omega arith) in
    let mid : length (replicate n x) ≡ n = length-replicate n x in
    elim (cases_lt k at) [
      | inl below ↦
          (let t : (nat_le at k && nat_lt k (at + n)) ≡ false = grind (arith, nat_tests) in
          rw t (get_or_append_left (take at xs) rest d k (omega arith) ∙ get_or-take at xs k d below))
      | inr above ↦ get_or-append_right (take at xs) rest at k d front above ∙ elim (cases_lt k (at + n)) [
        | inl inside ↦
            (let t : (nat_le at k && nat_lt k (at + n)) ≡ true = grind (arith, nat_tests) in
            rw t (get_or_append_left (replicate n x) (drop (at + n) xs) d (k - at) (omega arith) ∙ get_or-replicate n (k - at) x d (omega arith)))
        | inr past ↦
            (let t : (nat_le at k && nat_lt k (at + n)) ≡ false = grind (arith, nat_tests) in
            let e : at + n + (k - at - n) ≡ k = omega arith in
            rw t (get_or-append_right (replicate n x) (drop (at + n) xs) n (k - at) d mid (omega arith) ∙ get_or-drop (at + n) xs (k - at - n) d ∙ ap (λ (i : ℕ). get_or xs i d) e))
      ]
    ]

pub fill-none : {X : Type 0} (xs : List X) (at : ℕ) (x : X) → xs ≡ fill xs at 0 x
unfolding fill
fill-none xs at x =
    let e : at + 0 ≡ at = omega arith in
    rw e (sym (take-append-drop at xs))

one_more : {X : Type 0} (at n k : ℕ) (x y : X) → cond (eqb k (at + n)) x (cond (nat_le at k && nat_lt k (at + n)) x y) ≡ cond (nat_le at k && nat_lt k (at + (n + 1))) x y
one_more at n k x y = grind (arith, nat_tests)

pub fill-more : (xs : List Bool) (at n : ℕ) (x : Bool) → at + n < length xs → set (fill xs at n x) (at + n) x ≡ fill xs at (n + 1) x
fill-more xs at n x h =
    let now = length-fill xs at n x (omega arith) in
    let then = length-fill xs at (n + 1) x (omega arith) in
    ext_get_or false (set (fill xs at n x) (at + n) x) (fill xs at (n + 1) x)
    (omega (arith, now, then, length-set (fill xs at n x) (at + n) x))
    (λ k w. get_or-set (fill xs at n x) (at + n) x false (omega (arith, now)) k
    ∙ ap (λ (b : Bool). cond (eqb k (at + n)) x b) (get_or-fill xs at n x false (omega arith) k)
    ∙ one_more at n k x (get_or xs k false)
    ∙ sym (get_or-fill xs at (n + 1) x false (omega arith) k))

pub fill_step : (xs now next : List Bool) (at i : ℕ) (x : Bool) → at ≤ i → i < length xs → ((n : ℕ) → at + n ≡ i → now ≡ fill xs at n x) → next ≡ set now i x
    → (n : ℕ) → at + n ≡ i + 1 → next ≡ fill xs at n x
fill_step xs now next at i x a l h e n f =
    let m = i - at in
    let g : at + m ≡ i = omega arith in
    let k : n ≡ m + 1 = omega arith in
    e ∙ ap (λ (v : List Bool). set v i x) (h m g) ∙ subst (λ (p : ℕ). set (fill xs at m x) p x ≡ fill xs at (m + 1) x) g (fill-more xs at m x (omega arith)) ∙ ap (λ (p : ℕ). fill xs at p x) (sym k)
