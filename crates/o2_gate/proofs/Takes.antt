-- What a take leaves at the front of a buffer.
use Rattle.std.proofs.Common.{◌≡◌, ℕ, ◌≤◌, false, List, ◌++◌, length, take, drop, Option, Some, ap, ◌∙◌, arith, ◌==◌}
use Rattle.std.specs.Prelude.{min}
use Rattle.std.proofs.lemmas.Grind.{common_steps}
use Rattle.o2_outer.specs.declared.source.Took.{Took}
use Rattle.o2_outer.specs.declared.source.Took.TheVariants as took
use Rattle.o2_outer.specs.Answers.{Gives}
use Rattle.o2_gate.specs.Called.{Fills, AskedFor}

take_less : (count n : ℕ) (t : List ℕ) → n ≡ min count (length t) → take n t ≡ take count t
take_less count n t e = grind (arith, common_steps)

drop_less : (count n : ℕ) (t : List ℕ) → n ≡ min count (length t) → drop n t ≡ drop count t
drop_less count n t e = grind (arith, common_steps)

front_of : (n : ℕ) (into rest : List ℕ) → n ≤ length into → take n (into ++ rest) ≡ take n into
front_of n into rest le = grind (arith, common_steps)

least : (a b n : ℕ) → n ≡ min a b → n ≤ a
least a b n e = grind arith

pub fills_by : (count : ℕ) (i j : Option (List ℕ)) (into rest : List ℕ) (r : Took) → length into ≡ count → Gives i j into r → Fills count i j (into ++ rest) r
fills_by count i j into rest (took.Done n) len gives = λ t e.
    let x = gives t e in
    let n_is : n ≡ min count (length t) = x.0 ∙ ap (λ (k : ℕ). min k (length t)) len in
    (front_of n into rest (least (length into) (length t) n x.0) ∙ x.1 ∙ take_less count n t n_is, x.2 ∙ ap Some (drop_less count n t n_is))
fills_by count i j into rest took.Failed len gives = gives

pub asked_by : (count : ℕ) (r : Took) → (count == 0) ≡ false → AskedFor count r
asked_by count (took.Done n) some = tt
asked_by count took.Failed some = some
