-- What becomes of a device that isn't touched, and behind one call and another.
use Rattle.std.proofs.Common.{◌≡◌, ℕ, ◌≤◌, ◌∙◌, Bool, IsTrue, arith, refl}
use Rattle.o2_outer.specs.Texts.{Rose}
use Rattle.o2_store.specs.Frames.{KeepsDevice}

-- a count that rose since a later time rose since an earlier one
pub rose_since : (before mid now : ℕ) → before ≤ mid → Rose mid now → Rose before now
rose_since before mid now later rose = grind arith

-- a device that isn't touched, and doesn't fail
pub device_refl : {D : Type 0} (count : D → ℕ) (tells : D → Bool) (failures : D → ℕ) (x : D) (failed : Type 0) → (failed → ⊥) → KeepsDevice count tells failures x x failed
device_refl count tells failures x failed never = record {
  blocks = refl;
  told = λ was. was;
  faults = omega arith;
  cause = λ f. absurd (never f);
}

-- one answer stands for another
pub device_for : {D : Type 0} (count : D → ℕ) (tells : D → Bool) (failures : D → ℕ) (x y : D) (P Q : Type 0) → (Q → P) → KeepsDevice count tells failures x y P → KeepsDevice count tells failures x y Q
device_for count tells failures x y P Q by k = record {
  blocks = k.blocks;
  told = k.told;
  faults = k.faults;
  cause = λ q. k.cause (by q);
}

-- behind what kept it
pub device_behind : {D : Type 0} (count : D → ℕ) (tells : D → Bool) (failures : D → ℕ) (x y z : D) (P : Type 0) → count y ≡ count x → (IsTrue (tells y) → IsTrue (tells x)) → failures x ≤ failures y
    → KeepsDevice count tells failures y z P → KeepsDevice count tells failures x z P
device_behind count tells failures x y z P same earlier rises k = record {
  blocks = k.blocks ∙ same;
  told = λ w. earlier (k.told w);
  faults = (let more = k.faults in omega (arith, rises, more));
  cause = λ p. rose_since (failures x) (failures y) (failures z) rises (k.cause p);
}
