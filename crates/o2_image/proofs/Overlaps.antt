-- Records that two segments share, since the file has the last ones of the one where the other has its first ones.
use Rattle.std.proofs.Common.{◌≡◌, ℕ, zero, suc, ◌+◌, ◌*◌, ◌-◌, ◌≤◌, List, ◌∷◌, drop, take, refl, sym, ap, ◌∙◌, arith}
use Rattle.o2_ne.specs.Steps.{tabulate}
use Rattle.o2_ne.proofs.Tabulated.{length-tabulate}
use Rattle.o2_ne_segs.specs.declared.segment.Segment.{Segment}
use Rattle.o2_ne_segs.specs.Records.{end_of, reloc_at, reloc_count, relocs_at, relocs_in}
use Rattle.o2_image.specs.Alike.{HasPart, Precedes}

module _ {X : Type 0} where
  drop-tabulate : (f : ℕ → X) (i s n : ℕ) → i ≤ n → drop i (tabulate f s n) ≡ tabulate f (s + i) (n - i)
  unfolding tabulate
  drop-tabulate f zero s n le = let a : s + 0 ≡ s = omega arith in let b : n - 0 ≡ n = omega arith in rw (a, b) refl
  drop-tabulate f (suc i) s zero le = absurd (omega (arith, le))
  drop-tabulate f (suc i) s (suc n) le =
      let a : s + suc i ≡ s + 1 + i = omega arith in
      let b : suc n - suc i ≡ n - i = omega arith in
      rw (a, b) (drop-tabulate f i (s + 1) n (omega (arith, le)))

  take-tabulate : (f : ℕ → X) (j s n : ℕ) → j ≤ n → take j (tabulate f s n) ≡ tabulate f s j
  unfolding tabulate
  take-tabulate f zero s n le = refl
  take-tabulate f (suc j) s zero le = absurd (omega (arith, le))
  take-tabulate f (suc j) s (suc n) le = ap (λ (xs : List X). f s ∷ xs) (take-tabulate f j (s + 1) n (omega (arith, le)))

  shifted : (f g : ℕ → X) (s t n : ℕ) → ((k : ℕ) → f (s + k) ≡ g (t + k)) → tabulate f s n ≡ tabulate g t n
  unfolding tabulate
  shifted f g s t zero h = refl
  shifted f g s t (suc n) h =
      let a : s ≡ s + 0 = omega arith in
      let b : t + 0 ≡ t = omega arith in
      let here : f s ≡ g t = ap f a ∙ h 0 ∙ ap g b in
      let rest : tabulate f (s + 1) n ≡ tabulate g (t + 1) n =
      shifted f g (s + 1) (t + 1) n (λ k. let c : s + 1 + k ≡ s + suc k = omega arith in let d : t + suc k ≡ t + 1 + k = omega arith in ap f c ∙ h (suc k) ∙ ap g d) in
      ap (λ (x : X). x ∷ tabulate f (s + 1) n) here ∙ ap (λ (xs : List X). g t ∷ xs) rest

records_meet : (file : List ℕ) (p q n m i : ℕ) → q ≡ p + 8 * i → i ≤ n → n ≤ i + m → drop i (relocs_at file p n) ≡ take (n - i) (relocs_at file q m)
records_meet file p q n m i at le within =
    drop-tabulate (λ k. reloc_at file (p + 8 * k)) i 0 n le
    ∙ shifted (λ k. reloc_at file (p + 8 * k)) (λ k. reloc_at file (q + 8 * k)) (0 + i) 0 (n - i) (λ k. ap (reloc_at file) (omega (arith, at)))
    ∙ sym (take-tabulate (λ k. reloc_at file (q + 8 * k)) (n - i) 0 m (omega (arith, within, le)))

pub precede : (file : List ℕ) (a b : Segment) (i : ℕ) → end_of b ≡ end_of a + 8 * i → i ≤ reloc_count file a → reloc_count file a ≤ i + reloc_count file b → Precedes i (relocs_in file a) (relocs_in file b)
precede file a b i at le within =
    let first = length-tabulate (λ k. reloc_at file (end_of a + 2 + 8 * k)) 0 (reloc_count file a) in
    let second = length-tabulate (λ k. reloc_at file (end_of b + 2 + 8 * k)) 0 (reloc_count file b) in
    record {
      some = omega (arith, first, le);
      within = omega (arith, first, second, within);
      same = rw first (records_meet file (end_of a + 2) (end_of b + 2) (reloc_count file a) (reloc_count file b) i (omega (arith, at)) le within);
    }

records_inside : (file : List ℕ) (p q n m i : ℕ) → q ≡ p + 8 * i → i + m ≤ n → relocs_at file q m ≡ take m (drop i (relocs_at file p n))
records_inside file p q n m i at within =
    let le : i ≤ n = omega (arith, within) in
    sym
    (ap (take m) (drop-tabulate (λ k. reloc_at file (p + 8 * k)) i 0 n le)
    ∙ take-tabulate (λ k. reloc_at file (p + 8 * k)) m (0 + i) (n - i) (omega (arith, within))
    ∙ shifted (λ k. reloc_at file (p + 8 * k)) (λ k. reloc_at file (q + 8 * k)) (0 + i) 0 m (λ k. ap (reloc_at file) (omega (arith, at))))

pub has_part : (file : List ℕ) (a b : Segment) (i : ℕ) → end_of b ≡ end_of a + 8 * i → i + reloc_count file b ≤ reloc_count file a → HasPart i (relocs_in file a) (relocs_in file b)
has_part file a b i at within =
    let first = length-tabulate (λ k. reloc_at file (end_of a + 2 + 8 * k)) 0 (reloc_count file a) in
    let second = length-tabulate (λ k. reloc_at file (end_of b + 2 + 8 * k)) 0 (reloc_count file b) in
    record {
      within = omega (arith, first, second, within);
      same = rw second (records_inside file (end_of a + 2) (end_of b + 2) (reloc_count file a) (reloc_count file b) i (omega (arith, at)) within);
    }
