-- The service with an ordinal, sought row by row.
use Rattle.std.proofs.Common.{◌≡◌, ℕ, ◌+◌, ◌-◌, List, ◌∷◌, Bool, true, false, Option, Some, drop, refl, rules, sym, arith, add-one}
use Rattle.std.specs.Prelude.{nat_le}
use Rattle.std.specs.List.{position_from, slice_get}
use Rattle.std.proofs.Math.Seq.{drop-cons}
use Rattle.std.proofs.lemmas.Option.{get_or_from_slice_get, slice_get_within}
use Rattle.o2_base.specs.Services.{ServiceRow, row_at, services}

-- the row of a number from 1
pub row_of : (k : ℕ) (r : ServiceRow) → row_at (k + 1) ≡ Some r → slice_get services k ≡ Some r
row_of k r h =
    let some : nat_le 1 (k + 1) ≡ true = search rules in
    let one : k + 1 - 1 ≡ k = omega arith in
    rw (some, one) at h

module _ {X : Type 0} where
  from_here : (xs : List X) (k : ℕ) (r : X) → slice_get xs k ≡ Some r → drop k xs ≡ r ∷ drop (k + 1) xs
  from_here xs k r is =
      rw (drop-cons xs k r (slice_get_within xs k r is), get_or_from_slice_get xs k r r is, add-one) refl

  pub goes_on : (p : X → Bool) (xs : List X) (k : ℕ) (r : X) (total : Option ℕ) → slice_get xs k ≡ Some r → p r ≡ false
      → position_from p k (drop k xs) ≡ total → position_from p (k + 1) (drop (k + 1) xs) ≡ total
  goes_on p xs k r total is fails h = rw (from_here xs k r is, fails) at h

  pub found : (p : X → Bool) (xs : List X) (k : ℕ) (r : X) (total : Option ℕ) → slice_get xs k ≡ Some r → p r ≡ true
      → position_from p k (drop k xs) ≡ total → total ≡ Some k
  found p xs k r total is passes h = sym (rw (from_here xs k r is, passes) at h)
