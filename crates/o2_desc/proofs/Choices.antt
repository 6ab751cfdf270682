-- The law of the choice of an index.
use Rattle.std.proofs.Common.{◌≡◌, inl, inr, ℕ, zero, suc, ◌+◌, ◌-◌, ◌<◌, ◌≤◌, Bool, true, false, not, ◌&&◌, Option, Some, None, arith, refl, sym, ap, subst}
use Rattle.std.specs.Prelude.{if◌then◌else◌}
use Rattle.std.proofs.lemmas.Bool.{cases_lt, cases_eq}
use Rattle.o2_desc.specs.Choice.{IsRun, IsChosen, is_open, first_open, chosen}

both : (a b : Bool) → (a && b) ≡ true → (a ≡ true) × (b ≡ true)
both a b h = grind arith

isnt : (a : Bool) → not a ≡ true → a ≡ false
isnt a h = grind arith

joined : (a b : Bool) → a ≡ false → b ≡ true → (not a && b) ≡ true
joined a b h g = grind arith

pub open_none : (taken : ℕ → Bool) (n i : ℕ) → is_open taken i n ≡ true → (k : ℕ) → i ≤ k → k < i + n → taken k ≡ false
unfolding is_open
open_none taken zero i h k l m = absurd (omega arith)
open_none taken (suc n) i h k l m =
    let p = both (not (taken i)) (is_open taken (i + 1) n) h in
    elim (cases_eq k i) [
      | inl same ↦ subst (λ (x : ℕ). taken x ≡ false) (sym same) (isnt (taken i) p.0)
      | inr other ↦ open_none taken n (i + 1) p.1 k (omega arith) (omega arith)
    ]

pub none_open : (taken : ℕ → Bool) (n i : ℕ) → ((k : ℕ) → i ≤ k → k < i + n → taken k ≡ false) → is_open taken i n ≡ true
unfolding is_open
none_open taken zero i h = refl
none_open taken (suc n) i h = joined (taken i) (is_open taken (i + 1) n) (h i (omega arith) (omega arith)) (none_open taken n (i + 1) (λ k l m. h k (omega arith) (omega arith)))

first_step : (taken : ℕ → Bool) (low end n i : ℕ) (later : Option ℕ) → low ≤ i → i + n ≤ end → ((j : ℕ) → j < i → IsRun taken low end n j → ⊥)
    → (b : Bool) → is_open taken i n ≡ b → (b ≡ false → IsChosen taken low end n later) → IsChosen taken low end n (if b then Some i else later)
first_step taken low end n i later l w before true e rest = ((l, w, open_none taken n i e), before)
first_step taken low end n i later l w before false e rest = rest refl

closed : (taken : ℕ → Bool) (low end n i : ℕ) → is_open taken i n ≡ false → ((j : ℕ) → j < i → IsRun taken low end n j → ⊥) → (j : ℕ) → j < i + 1 → IsRun taken low end n j → ⊥
closed taken low end n i e before j l r = elim (cases_eq j i) [
  | inl same ↦ (let o : is_open taken i n ≡ true = none_open taken n i (λ k a b. r.2 k (omega arith) (omega arith)) in cc (e, o))
  | inr other ↦ before j (omega arith) r
]

first_law : (taken : ℕ → Bool) (low end n more i : ℕ) → low ≤ i → end + 1 ≤ i + more + n → (0 < more → i + more + n ≤ end + 1)
    → ((j : ℕ) → j < i → IsRun taken low end n j → ⊥) → IsChosen taken low end n (first_open taken n i more)
unfolding first_open
first_law taken low end n zero i l far near before = λ j r. elim (cases_lt j i) [ inl less ↦ before j less r | inr more ↦ omega (arith, r.1) ]
first_law taken low end n (suc more) i l far near before =
    let w : i + suc more + n ≤ end + 1 = near (omega arith) in
    first_step taken low end n i (first_open taken n (i + 1) more) l (omega arith) before (is_open taken i n) refl
    (λ e. first_law taken low end n more (i + 1) (omega arith) (omega arith) (λ p. omega arith) (closed taken low end n i e before))

pub chosen_law : (taken : ℕ → Bool) (low end n : ℕ) → IsChosen taken low end n (chosen taken low end n)
chosen_law taken low end n = first_law taken low end n ((end + 1) - (low + n)) low (omega arith) (omega arith) (λ p. omega arith) (λ j l r. omega (arith, r.0))

pub one_choice : (taken : ℕ → Bool) (low end n : ℕ) (r s : Option ℕ) → IsChosen taken low end n r → IsChosen taken low end n s → r ≡ s
one_choice taken low end n None None a b = refl
one_choice taken low end n None (Some j) a b = absurd (a j b.0)
one_choice taken low end n (Some i) None a b = absurd (b i a.0)
one_choice taken low end n (Some i) (Some j) a b = elim (cases_lt i j) [
  | inl less ↦ absurd (b.1 i less a.0)
  | inr more ↦ elim (cases_eq i j) [
    | inl same ↦ ap (λ (x : ℕ). Some x) same
    | inr other ↦ absurd (a.1 j (omega arith) b.0)
  ]
]
