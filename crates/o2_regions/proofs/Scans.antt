-- A scan for numbers in a row that aren't taken.
use Rattle.std.proofs.Common.{◌≡◌, ℕ, ◌+◌, ◌-◌, ◌<◌, ◌≤◌, inl, inr, Bool, true, false, Option, Some, None, arith, sym, ◌∙◌, subst}
use Rattle.std.proofs.lemmas.Bool.{cases_lt, cases_eq, both_ways}
use Rattle.std.specs.Option.{IfSome}
use Rattle.o2_desc.specs.Choice.{IsRun, IsChosen, chosen}
use Rattle.o2_desc.proofs.Choices.{chosen_law, one_choice}
use Rattle.o2_regions.specs.Words.{IsScanned}

module _ (taken : ℕ → Bool) (low end n i run : ℕ) where
  pub scan_start : 0 < n → i ≡ low → run ≡ 0 → IsScanned taken low end n i run
  scan_start h e f = record {
    inside = omega arith;
    short = omega arith;
    clear = λ k a b. absurd (omega arith);
    before = λ j a r. omega (arith, r.0);
  }

  pub scan_clear : IsScanned taken low end n i run → taken i ≡ false → run + 1 < n → IsScanned taken low end n (i + 1) (run + 1)
  scan_clear s t h = record {
    inside = omega (arith, s.inside);
    short = h;
    clear = λ k a b. elim (cases_eq k i) [
      | inl same ↦ subst (λ (x : ℕ). taken x ≡ false) (sym same) t
      | inr other ↦ s.clear k (omega arith) (omega arith)
    ];
    before = λ j a r. s.before j (omega arith) r;
  }

  pub scan_found : IsScanned taken low end n i run → taken i ≡ false → run + 1 ≡ n → i < end → IsChosen taken low end n (Some (i + 1 - n))
  scan_found s t h w = (
    (
      omega (arith, s.inside),
      omega (arith, s.inside),
      λ k a b. elim (cases_eq k i) [
        | inl same ↦ subst (λ (x : ℕ). taken x ≡ false) (sym same) t
        | inr other ↦ s.clear k (omega (arith, s.inside)) (omega (arith, s.inside))
      ],
    ),
    λ j a r. s.before j (omega arith) r,
  )

  pub scan_taken : IsScanned taken low end n i run → (to : ℕ) → i < to → i < end → ((k : ℕ) → i ≤ k → k < to → k < end → taken k ≡ true) → IsScanned taken low end n to 0
  scan_taken s to h w all = record {
    inside = omega (arith, s.inside);
    short = omega (arith, s.short);
    clear = λ k a b. absurd (omega arith);
    before = λ j a r. elim (cases_lt (j + run) i) [
      | inl early ↦ s.before j early r
      | inr late ↦ elim (cases_lt i j) [
        | inl behind ↦ both_ways (taken j) (r.2 j (omega arith) (omega (arith, s.short))) (all j (omega arith) (omega arith) (omega (arith, r.1, s.short)))
        | inr front ↦ both_ways (taken i) (r.2 i front (omega (arith, s.short))) (all i (omega arith) h w)
      ]
    ];
  }

  pub scan_end : IsScanned taken low end n i run → end ≤ i → IsChosen taken low end n None
  scan_end s h = λ j r. s.before j (omega (arith, r.1, s.short)) r

-- a scan for one number goes on behind those that are taken
pub scan_skip : (taken : ℕ → Bool) (low end i to : ℕ) → IsScanned taken low end 1 i 0 → i ≤ to → ((k : ℕ) → i ≤ k → k < to → taken k ≡ true) → IsScanned taken low end 1 to 0
scan_skip taken low end i to s h all = record {
  inside = omega (arith, s.inside);
  short = omega arith;
  clear = λ k a b. absurd (omega arith);
  before = λ j a r. elim (cases_lt j i) [
    | inl early ↦ s.before j (omega arith) r
    | inr late ↦ both_ways (taken j) (r.2 j (omega arith) (omega arith)) (all j late (omega arith))
  ];
}

-- what the scan answers is what is chosen
pub scanned : (taken : ℕ → Bool) (low end n : ℕ) (r : Option ℕ) → IsChosen taken low end n r → r ≡ chosen taken low end n
scanned taken low end n r h = one_choice taken low end n r (chosen taken low end n) h (chosen_law taken low end n)

moved : (f g : ℕ → Bool) (low end n : ℕ) → ((k : ℕ) → low ≤ k → k < end → f k ≡ g k) → (i : ℕ) → IsRun f low end n i → IsRun g low end n i
moved f g low end n same i r = (r.0, r.1, λ k a b. sym (same k (omega (arith, r.0)) (omega (arith, r.1))) ∙ r.2 k a b)

moved_choice : (f g : ℕ → Bool) (low end n : ℕ) → ((k : ℕ) → low ≤ k → k < end → f k ≡ g k) → (r : Option ℕ) → IsChosen f low end n r → IsChosen g low end n r
moved_choice f g low end n same None h = λ j r. h j (moved g f low end n (λ k a b. sym (same k a b)) j r)
moved_choice f g low end n same (Some i) h = (moved f g low end n same i h.0, λ j l r. h.1 j l (moved g f low end n (λ k a b. sym (same k a b)) j r))

-- what is taken in the region alone decides
pub chosen-same : (f g : ℕ → Bool) (low end n : ℕ) → ((k : ℕ) → low ≤ k → k < end → f k ≡ g k) → chosen f low end n ≡ chosen g low end n
chosen-same f g low end n same = scanned g low end n (chosen f low end n) (moved_choice f g low end n same (chosen f low end n) (chosen_law f low end n))

some_run : (taken : ℕ → Bool) (low end n : ℕ) (r : Option ℕ) → IsChosen taken low end n r → IfSome r (λ i. IsRun taken low end n i)
some_run taken low end n None h = tt
some_run taken low end n (Some i) h = h.0

-- what is chosen is a run
pub run_of : (taken : ℕ → Bool) (low end n : ℕ) (r : Option ℕ) → r ≡ chosen taken low end n → IfSome r (λ i. IsRun taken low end n i)
run_of taken low end n r e = some_run taken low end n r (subst (λ (o : Option ℕ). IsChosen taken low end n o) (sym e) (chosen_law taken low end n))
