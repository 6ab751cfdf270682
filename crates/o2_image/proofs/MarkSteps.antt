-- Looking at bytes, or marking them, one after the other.
use Rattle.std.proofs.Common.{◌≡◌, ℕ, suc, ◌+◌, ◌-◌, ◌<◌, ◌≤◌, ◌||◌, true, false, get_or, set, refl, ap, arith}
use Rattle.o2_image.specs.Chains.{Marks, any_patched, patched}

pub any_first : (marks : Marks) (p k n : ℕ) → k < n → any_patched marks (p + k) (n - k) ≡ get_or marks (p + k) false || any_patched marks (p + (k + 1)) (n - (k + 1))
any_first marks p k n lt =
    let e : n - k ≡ suc (n - (k + 1)) = omega arith in
    let a : p + k + 1 ≡ p + (k + 1) = omega arith in
    rw e (rw a refl)

pub any_none : (marks : Marks) (p k n : ℕ) → n ≤ k → any_patched marks (p + k) (n - k) ≡ false
any_none marks p k n le = let e : n - k ≡ 0 = omega arith in rw e refl

pub any_start : (marks : Marks) (p n : ℕ) → any_patched marks (p + 0) (n - 0) ≡ any_patched marks p n
any_start marks p n = let e : n - 0 ≡ n = omega arith in let a : p + 0 ≡ p = omega arith in rw (e, a) refl

pub patched_first : (marks : Marks) (p k n : ℕ) → k < n → patched marks (p + k) (n - k) ≡ patched (set marks (p + k) true) (p + (k + 1)) (n - (k + 1))
patched_first marks p k n lt =
    let e : n - k ≡ suc (n - (k + 1)) = omega arith in
    let a : p + k + 1 ≡ p + (k + 1) = omega arith in
    rw e (ap (λ (q : ℕ). patched (set marks (p + k) true) q (n - (k + 1))) a)

pub patched_none : (marks : Marks) (p k n : ℕ) → n ≤ k → patched marks (p + k) (n - k) ≡ marks
patched_none marks p k n le = let e : n - k ≡ 0 = omega arith in rw e refl

pub patched_start : (marks : Marks) (p n : ℕ) → patched marks (p + 0) (n - 0) ≡ patched marks p n
patched_start marks p n = let e : n - 0 ≡ n = omega arith in let a : p + 0 ≡ p = omega arith in rw (e, a) refl
