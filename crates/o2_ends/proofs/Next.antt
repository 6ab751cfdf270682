-- The next index at which a process holds something.
use Rattle.std.proofs.Common.{◌≡◌, ℕ, ◌<◌, ◌≤◌, inl, inr, Bool, true, false, not, Option, Some, None, is_some, IsSome, refl, sym, ap, ◌∙◌, subst, arith}
use Rattle.std.proofs.lemmas.Bool.{cases_lt, false≢true}
use Rattle.o2_desc.specs.Choice.{IsChosen, IsRun, chosen}
use Rattle.o2_desc.proofs.Choices.{chosen_law}
use Rattle.o2_regions.specs.declared.held.Held.{Held}
use Rattle.o2_regions.specs.Maps.{Maps, held_at}
use Rattle.o2_regions.proofs.Keeps.{held_out}

abbrev lacks : Maps → ℕ → ℕ → Bool
lacks m pid i = not (is_some (held_at m pid i))

not_false : (b : Bool) → not b ≡ false → b ≡ true
not_false true e = refl
not_false false e = absurd (false≢true (sym e))

none_of : (o : Option Held) → (is_some o ≡ true → ⊥) → o ≡ None
none_of None f = refl
none_of (Some h) f = absurd (f refl)

pub record IsNextHeld (m : Maps) (pid from index : ℕ) : Type 0 where
  pub low : from ≤ index
  pub high : index < 8192
  pub some : IsSome (held_at m pid index)
  pub clear : (i : ℕ) → from ≤ i → i < index → held_at m pid i ≡ None

run_at : (m : Maps) (pid from i : ℕ) → from ≤ i → i < 8192 → is_some (held_at m pid i) ≡ true → IsRun (lacks m pid) from 8192 1 i
run_at m pid from i low high e =
    (low, (omega (arith, high)), λ k a b. (let same : k ≡ i = omega (arith, a, b) in ap not (ap (λ (j : ℕ). is_some (held_at m pid j)) same ∙ e)))

pub next_is : (m : Maps) (pid from index : ℕ) → Some index ≡ chosen (λ i. not (is_some (held_at m pid i))) from 8192 1 → IsNextHeld m pid from index
next_is m pid from index e =
    let x : IsChosen (lacks m pid) from 8192 1 (Some index) = subst (λ (o : Option ℕ). IsChosen (lacks m pid) from 8192 1 o) (sym e) (chosen_law (lacks m pid) from 8192 1) in
    let high = x.0.1 in
    let less : index < 8192 = omega (arith, high) in
    record {
      low = x.0.0;
      high = less;
      some = not_false (is_some (held_at m pid index)) (x.0.2 index (omega arith) (omega arith));
      clear = λ i a b. none_of (held_at m pid i) (λ f. x.1 i b (run_at m pid from i a (omega (arith, b, less)) f));
    }

pub next_none : (m : Maps) (pid from : ℕ) → None ≡ chosen (λ i. not (is_some (held_at m pid i))) from 8192 1 → (i : ℕ) → from ≤ i → held_at m pid i ≡ None
next_none m pid from e i low = elim (cases_lt i 8192) [
  | inl high ↦
      (let x : IsChosen (lacks m pid) from 8192 1 None = subst (λ (o : Option ℕ). IsChosen (lacks m pid) from 8192 1 o) (sym e) (chosen_law (lacks m pid) from 8192 1) in
      none_of (held_at m pid i) (λ f. x i (run_at m pid from i low high f)))
  | inr past ↦ held_out m pid i past
]
