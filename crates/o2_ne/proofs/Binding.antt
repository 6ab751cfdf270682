-- Readings in order, and checks that hold.
use Rattle.std.proofs.Common.{◌≡◌, ℕ, ◌+◌, ◌<◌, ◌≤◌, ◌==◌, List, [], ◌∷◌, Bool, true, false, Result, Ok, Err, length, refl, arith}
use Rattle.std.proofs.lemmas.Bool.{leb-true, ne_eqb}
use Rattle.o2_ne.specs.Checks.{all_hold, in_file, ◌>>=◌}
use Rattle.o2_ne.specs.Words.{lies_in}

pub bind_ok : {A B F : Type 0} (r : Result A F) (f : A → Result B F) (y : B) → (r >>= f) ≡ Ok y → (x : A) × (r ≡ Ok x) × (f x ≡ Ok y)
bind_ok (Ok x) f y e = (x, refl, e)
bind_ok (Err d) f y e = absurd cc

-- a check that held
pub in_file_holds : (file : List ℕ) (p n : ℕ) (u : Unit {0}) → all_hold (in_file file p n ∷ []) ≡ Ok u → lies_in file p n ≡ true
in_file_holds file p n u h = go (lies_in file p n) refl
  where
    go : (b : Bool) → lies_in file p n ≡ b → lies_in file p n ≡ true
    go true e = e
    go false e = let bad = rw e at h in absurd cc

-- bytes that lie in the file
pub lies_inside : (file : List ℕ) (p n : ℕ) → 0 < n → lies_in file p n ≡ true → p + n ≤ length file
lies_inside file p n some h =
    let e : (n == 0) ≡ false = ne_eqb n 0 (omega arith) in
    leb-true _ _ (rw e at h)
