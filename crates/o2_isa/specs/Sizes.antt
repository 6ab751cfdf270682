-- How many bytes each name has.
use Rattle.std.specs.Prelude.{◌≡◌, ◌≤◌, ℕ, true, List, length, Some}
use Rattle.o2_isa.specs.View.{View, Hold}

-- each present name has as many bytes as its size says, 65,536 at most, and one that the process holds has at least one
pub record IsSized (v : View) : Type 0 where
  pub bytes : (n : ℕ) → v.present n ≡ true → length (v.bytes n) ≡ v.size n
  pub most : (n : ℕ) → v.present n ≡ true → v.size n ≤ 65536
  pub least : (i : ℕ) (h : Hold) → v.held i ≡ Some h → v.present h.name ≡ true → 1 ≤ v.size h.name

-- each name has as many bytes as before
pub record KeepsLengths (old new : ℕ → List ℕ) : Type 0 where
  pub same : (n : ℕ) → length (new n) ≡ length (old n)
