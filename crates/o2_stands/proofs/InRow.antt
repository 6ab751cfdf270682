-- Indexes in a row, and the first ones of them that pass a test.
use Rattle.std.proofs.Common.{◌≡◌, inl, inr, ℕ, zero, suc, ◌+◌, ◌-◌, ◌<◌, ◌≤◌, not, Bool, true, false, cond, List, [], ◌∷◌, filter, length, refl, sym, ap, ◌∙◌, arith}
use Rattle.std.specs.Prelude.{drop}
use Rattle.std.proofs.lemmas.Bool.{cases_eq, false≢true}
use Rattle.o2_world.specs.Rulings.{indexes}

pub row_length : (c f : ℕ) → length (indexes f c) ≡ c
row_length zero f = refl
row_length (suc c) f = ap suc (row_length c (f + 1))

pub row_dropped : (m c f : ℕ) → drop m (indexes f c) ≡ indexes (f + m) (c - m)
row_dropped zero c f =
    let e : f ≡ f + 0 = omega arith in
    let g : c ≡ c - 0 = omega arith in
    ap (λ (x : ℕ). indexes x c) e ∙ ap (indexes (f + 0)) g
row_dropped (suc m) zero f = ap (indexes (f + suc m)) (let e : 0 ≡ 0 - suc m = omega arith in e)
row_dropped (suc m) (suc c) f =
    let e : f + 1 + m ≡ f + suc m = omega arith in
    let g : c - m ≡ suc c - suc m = omega arith in
    row_dropped m c (f + 1) ∙ (ap (λ (x : ℕ). indexes x (c - m)) e ∙ ap (indexes (f + suc m)) g)

none_kept : (f : ℕ → Bool) (c lo : ℕ) → ((j : ℕ) → lo ≤ j → j < lo + c → f j ≡ false) → filter f (indexes lo c) ≡ []
none_kept f zero lo none = refl
none_kept f (suc c) lo none =
    ap (λ (b : Bool). cond b (lo ∷ filter f (indexes (lo + 1) c)) (filter f (indexes (lo + 1) c))) (none lo (omega arith) (omega arith))
    ∙ none_kept f c (lo + 1) (λ j low high. none j (omega (arith, low)) (omega (arith, high)))

all_kept : (f : ℕ → Bool) (c lo : ℕ) → ((j : ℕ) → lo ≤ j → j < lo + c → f j ≡ true) → filter f (indexes lo c) ≡ indexes lo c
all_kept f zero lo all = refl
all_kept f (suc c) lo all =
    ap (λ (b : Bool). cond b (lo ∷ filter f (indexes (lo + 1) c)) (filter f (indexes (lo + 1) c))) (all lo (omega arith) (omega arith))
    ∙ ap (λ (is : List ℕ). lo ∷ is) (all_kept f c (lo + 1) (λ j low high. all j (omega (arith, low)) (omega (arith, high))))

-- two tests that agree keep the same
pub same_kept : (f g : ℕ → Bool) (c lo : ℕ) → ((j : ℕ) → lo ≤ j → j < lo + c → f j ≡ g j) → filter f (indexes lo c) ≡ filter g (indexes lo c)
same_kept f g zero lo same = refl
same_kept f g (suc c) lo same =
    ap (λ (b : Bool). cond b (lo ∷ filter f (indexes (lo + 1) c)) (filter f (indexes (lo + 1) c))) (same lo (omega arith) (omega arith))
    ∙ ap (λ (is : List ℕ). cond (g lo) (lo ∷ is) is) (same_kept f g c (lo + 1) (λ j low high. same j (omega (arith, low)) (omega (arith, high))))

-- the first ones pass, and no other
pub record IsSplit (f : ℕ → Bool) (lo c a : ℕ) : Type 0 where
  pub most : a ≤ c
  pub passes : (j : ℕ) → lo ≤ j → j < lo + a → f j ≡ true
  pub fails : (j : ℕ) → lo + a ≤ j → j < lo + c → f j ≡ false
  pub kept : filter f (indexes lo c) ≡ indexes lo a
  pub rest : filter (λ (j : ℕ). not (f j)) (indexes lo c) ≡ indexes (lo + a) (c - a)

pub split_of : (f : ℕ → Bool) (c lo : ℕ) → ((i j : ℕ) → lo ≤ j → j ≤ i → i < lo + c → f i ≡ true → f j ≡ true) → (a : ℕ) × IsSplit f lo c a
split_of f zero lo down = (
  0,
  record {
    most = omega arith;
    passes = λ j low high. absurd (omega (arith, low, high));
    fails = λ j low high. absurd (omega (arith, low, high));
    kept = refl;
    rest = refl;
  },
)
split_of f (suc c) lo down = go (f lo) refl (split_of f c (lo + 1) (λ i j low le high e. down i j (omega (arith, low)) le (omega (arith, high)) e))
  where
    go : (b : Bool) → f lo ≡ b → (a : ℕ) × IsSplit f (lo + 1) c a → (a : ℕ) × IsSplit f lo (suc c) a
    go true e z = (
      suc z.0,
      record {
        most = (let m = z.1.most in omega (arith, m));
        passes = passes;
        fails = λ j low high. z.1.fails j (omega (arith, low)) (omega (arith, high));
        kept = ap (λ (b : Bool). cond b (lo ∷ filter f (indexes (lo + 1) c)) (filter f (indexes (lo + 1) c))) e ∙ ap (λ (is : List ℕ). lo ∷ is) z.1.kept;
        rest = ap (λ (b : Bool). cond (not b) (lo ∷ filter (λ (j : ℕ). not (f j)) (indexes (lo + 1) c)) (filter (λ (j : ℕ). not (f j)) (indexes (lo + 1) c))) e
            ∙ (z.1.rest ∙ (ap (λ (x : ℕ). indexes x (c - z.0)) (let g : lo + 1 + z.0 ≡ lo + suc z.0 = omega arith in g) ∙ ap (indexes (lo + suc z.0)) (let g : c - z.0 ≡ suc c - suc z.0 = omega arith in g)));
      },
    )
      where
        passes : (j : ℕ) → lo ≤ j → j < lo + suc z.0 → f j ≡ true
        passes j low high = elim (cases_eq j lo) [
          | inl same ↦ ap f same ∙ e
          | inr other ↦ z.1.passes j (omega (arith, low, other)) (omega (arith, high))
        ]
    go false e rest = (
      0,
      record {
        most = omega arith;
        passes = λ j low high. absurd (omega (arith, low, high));
        fails = λ j low high. none j (omega (arith, low)) high;
        kept = none_kept f (suc c) lo (λ j low high. none j low high);
        rest = all_kept (λ (j : ℕ). not (f j)) (suc c) lo (λ j low high. ap not (none j low high)) ∙ (ap (λ (x : ℕ). indexes x (suc c)) (let g : lo ≡ lo + 0 = omega arith in g) ∙ ap (indexes (lo + 0)) (let g : suc c ≡ suc c - 0 = omega arith in g));
      },
    )
      where
        none : (j : ℕ) → lo ≤ j → j < lo + suc c → f j ≡ false
        none j low high = by (f j) refl
          where
            by : (b : Bool) → f j ≡ b → f j ≡ false
            by false g = g
            by true g = absurd (false≢true (sym e ∙ down j lo (omega arith) low high g))
