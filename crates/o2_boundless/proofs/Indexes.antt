-- The choice of an index, one index further.
use Rattle.std.proofs.Common.{◌≡◌, ℕ, zero, suc, ◌+◌, ◌-◌, ◌<◌, Bool, true, Some, None, refl, arith}
use Rattle.std.specs.Prelude.{not, ◌&&◌, if◌then◌else◌}
use Rattle.o2_desc.specs.Choice.{is_open, first_open}

pub is_open-none : (taken : ℕ → Bool) (i : ℕ) → is_open taken i 0 ≡ true
unfolding is_open
is_open-none taken i = refl

pub is_open-more : (taken : ℕ → Bool) (i n : ℕ) → 0 < n → is_open taken i n ≡ (not (taken i) && is_open taken (i + 1) (n - 1))
unfolding is_open
is_open-more taken i zero h = absurd (omega (arith, h))
is_open-more taken i (suc n) h = let e : suc n - 1 ≡ n = omega arith in rw e refl

pub first_open-none : (taken : ℕ → Bool) (n i : ℕ) → first_open taken n i 0 ≡ None
unfolding first_open
first_open-none taken n i = refl

pub first_open-more : (taken : ℕ → Bool) (n i more : ℕ) → 0 < more → first_open taken n i more ≡ (if is_open taken i n then Some i else first_open taken n (i + 1) (more - 1))
unfolding first_open
first_open-more taken n i zero h = absurd (omega (arith, h))
first_open-more taken n i (suc more) h = let e : suc more - 1 ≡ more = omega arith in rw e refl

pub ruleset choosing = (is_open-none, is_open-more, first_open-none, first_open-more)
