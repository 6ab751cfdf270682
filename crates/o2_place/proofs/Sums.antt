-- Sums over the ids.
use Rattle.std.proofs.Common.{◌≡◌, ◌≢◌, ℕ, zero, suc, ◌+◌, ◌<◌, ◌≤◌, List, length, [], ◌∷◌, Option, Some, None, cond, eqb, true, false, refl, sym, ap, ◌∙◌, arith, sum_by, subst, inl, inr}
use Rattle.std.proofs.lemmas.Bool.{cases_eq}
use Rattle.std.proofs.lemmas.Bool.Decides.{nat_tests}
use Rattle.std.proofs.lemmas.List.Sums.{sum_by-cons}
use Rattle.o2_place.specs.declared.ranges.Range.{Range}
use Rattle.o2_place.specs.Layout.{find_in, AreApart, over}

pub over-same : (f h : ℕ → ℕ) (n : ℕ) → ((k : ℕ) → k < n → f k ≡ h k) → over f n ≡ over h n
over-same f h zero e = refl
over-same f h (suc n) e = let a = over-same f h n (λ k l. e k (omega arith)) in let b = e n (omega arith) in omega (arith, a, b)

pub over-le : (f h : ℕ → ℕ) (n : ℕ) → ((k : ℕ) → k < n → f k ≤ h k) → over f n ≤ over h n
over-le f h zero e = omega arith
over-le f h (suc n) e = let a = over-le f h n (λ k l. e k (omega arith)) in let b = e n (omega arith) in omega (arith, a, b)

pub over-add : (f h : ℕ → ℕ) (n : ℕ) → over (λ k. f k + h k) n ≡ over f n + over h n
over-add f h zero = omega arith
over-add f h (suc n) = let a = over-add f h n in omega (arith, a)

-- only one number counts
abbrev pub only : ℕ → ℕ → ℕ → ℕ
only x c k = cond (eqb k x) c 0

pub over-none : (x c n : ℕ) → n ≤ x → over (only x c) n ≡ 0
over-none x c zero l = refl
over-none x c (suc n) l =
    let a = over-none x c n (omega arith) in
    let e : eqb n x ≡ false = grind (arith, nat_tests) in
    rw e (omega (arith, a))

pub over-only : (x c n : ℕ) → x < n → over (only x c) n ≡ c
over-only x c zero l = absurd (omega arith)
over-only x c (suc n) l = elim (cases_eq n x) [
  | inl same ↦ (let e : eqb n x ≡ true = grind (arith, nat_tests) in let a = over-none x c n (omega arith) in rw e (omega (arith, a)))
  | inr other ↦ (let e : eqb n x ≡ false = grind (arith, nat_tests) in let a = over-only x c n (omega arith) in rw e (omega (arith, a)))
]

pub over-zero : (n : ℕ) → over (λ k. 0) n ≡ 0
over-zero zero = refl
over-zero (suc n) = let a = over-zero n in omega (arith, a)

later : (r : Range) (rs : List Range) (k at len : ℕ) → find_in rs r.id ≡ None → find_in rs k ≡ Some (at, len) → find_in (r ∷ rs) k ≡ Some (at, len)
later r rs k at len none q =
    let ne : k ≢ r.id = λ e. (let f : find_in rs r.id ≡ Some (at, len) = subst (λ (x : ℕ). find_in rs x ≡ Some (at, len)) e q in cc (f, none)) in
    let e : eqb k r.id ≡ false = grind (arith, nat_tests) in
    rw e q

step : (g : Option (ℕ × ℕ) → ℕ) → g None ≡ 0 → (r : Range) (rs : List Range) (k : ℕ) → find_in rs r.id ≡ None → g (find_in (r ∷ rs) k) ≡ g (find_in rs k) + only r.id (g (Some (r.at, r.len))) k
step g z r rs k none = elim (cases_eq k r.id) [
  | inl same ↦ (let e : eqb k r.id ≡ true = grind (arith, nat_tests) in let f : find_in rs k ≡ None = subst (λ (x : ℕ). find_in rs x ≡ None) (sym same) none in rw (e, f, z) (omega arith))
  | inr other ↦ (let e : eqb k r.id ≡ false = grind (arith, nat_tests) in rw e (omega arith))
]

-- a sum over the ids is one over the ranges
pub over-ranges : (g : Option (ℕ × ℕ) → ℕ) → g None ≡ 0 → (rs : List Range) (n : ℕ) → AreApart rs → ((k at len : ℕ) → find_in rs k ≡ Some (at, len) → k < n) → over (λ k. g (find_in rs k)) n ≡ sum_by (λ (r : Range). g (Some (r.at, r.len))) rs
over-ranges g z [] n a h = over-same (λ k. g None) (λ k. 0) n (λ k l. z) ∙ over-zero n
over-ranges g z (r ∷ rs) n a h =
    let below : r.id < n = h r.id r.at r.len (let e : eqb r.id r.id ≡ true = grind (arith, nat_tests) in rw e refl) in
    let rest = over-ranges g z rs n a.1 (λ k at len q. h k at len (later r rs k at len a.0 q)) in
    let split = over-same (λ k. g (find_in (r ∷ rs) k)) (λ k. g (find_in rs k) + only r.id (g (Some (r.at, r.len))) k) n (λ k l. step g z r rs k a.0) in
    let add = over-add (λ k. g (find_in rs k)) (only r.id (g (Some (r.at, r.len)))) n in
    let one = over-only r.id (g (Some (r.at, r.len))) n below in
    let c = sum_by-cons (λ (q : Range). g (Some (q.at, q.len))) r rs in
    split ∙ add ∙ ap (λ x. x + over (only r.id (g (Some (r.at, r.len)))) n) rest ∙ ap (λ x. sum_by (λ (q : Range). g (Some (q.at, q.len))) rs + x) one ∙ omega (arith, c)

pub sum-ones : (rs : List Range) → sum_by (λ (r : Range). 1) rs ≡ length rs
sum-ones [] = refl
sum-ones (r ∷ rs) = let a = sum-ones rs in let c = sum_by-cons (λ (q : Range). 1) r rs in omega (arith, a, c)

pub over-few : (f : ℕ → ℕ) (n : ℕ) → ((k : ℕ) → f k ≤ 1) → over f n ≤ n
over-few f zero small = omega arith
over-few f (suc n) small = let a = over-few f n small in let b = small n in omega (arith, a, b)

-- where one number is left out, fewer are counted
pub over-fewer : (f : ℕ → ℕ) (n x : ℕ) → ((k : ℕ) → f k ≤ 1) → x < n → f x ≡ 0 → over f n + 1 ≤ n
over-fewer f zero x small l e = absurd (omega arith)
over-fewer f (suc n) x small l e = elim (cases_eq x n) [
  | inl same ↦ (let a = over-few f n small in let z : f n ≡ 0 = subst (λ (y : ℕ). f y ≡ 0) same e in omega (arith, a, z))
  | inr other ↦ (let a = over-fewer f n x small (omega arith) e in let b = small n in omega (arith, a, b))
]
