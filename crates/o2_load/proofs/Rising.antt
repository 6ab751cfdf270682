-- Numbers that rise are distinct.
use Rattle.std.proofs.Common.{◌≡◌, ℕ, zero, suc, ◌+◌, ◌≤◌, ◌<◌, ◌==◌, false, List, [], ◌∷◌, ◌++◌, arith}
use Rattle.std.specs.List.{IsDistinct, AllByRecursion}
use Rattle.std.proofs.lemmas.Map.Keys.{IsDistinct-cons}
use Rattle.o2_load.specs.Rises.{Rises}

-- so many numbers from this one on
abbrev pub numbers : ℕ → ℕ → List ℕ
numbers first zero = []
numbers first (suc k) = first ∷ numbers (first + 1) k

pub rises_from : (low bound : ℕ) (ns : List ℕ) → low ≤ bound → Rises bound ns → Rises low ns
rises_from low bound [] h r = tt
rises_from low bound (n ∷ ns) h r = (omega (arith, h, r.0), r.1)

-- numbers in a row, and what rises from there
pub rises_behind : (low first k : ℕ) (ns : List ℕ) → low ≤ first → Rises (first + k) ns → Rises low (numbers first k ++ ns)
rises_behind low first zero ns h r = rises_from low (first + 0) ns (omega (arith, h)) r
rises_behind low first (suc k) ns h r =
    (h, rises_behind (first + 1) (first + 1) k ns (omega arith) (rises_from (first + 1 + k) (first + suc k) ns (omega arith) r))

differs : (m n : ℕ) → m < n → (m == n) ≡ false
differs m n h = grind arith

apart : (m low : ℕ) (ns : List ℕ) → m < low → Rises low ns → AllByRecursion (λ n. (m == n) ≡ false) ns
apart m low [] h r = tt
apart m low (n ∷ ns) h r = (differs m n (omega (arith, h, r.0)), apart m (n + 1) ns (omega (arith, h, r.0)) r.1)

pub rising_distinct : (low : ℕ) (ns : List ℕ) → Rises low ns → IsDistinct (λ i j. i == j) ns
unfolding IsDistinct
rising_distinct low [] r = tt
rising_distinct low (n ∷ ns) r = IsDistinct-cons (λ i j. i == j) n ns (apart n (n + 1) ns (omega arith) r.1) (rising_distinct (n + 1) ns r.1)
