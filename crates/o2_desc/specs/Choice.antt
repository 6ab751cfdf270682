-- Which index is chosen for new selectors: the lowest of a region from which so many in a row are neither held nor
-- reserved.
use Rattle.std.specs.Prelude.{◌≡◌, ℕ, zero, suc, ◌+◌, ◌-◌, ◌<◌, ◌≤◌, ◌&&◌, Bool, true, false, not, Option, Some, None, if◌then◌else◌}

-- the n indexes from i on lie in the region from low to below end, and none of them is taken
abbrev pub IsRun : (ℕ → Bool) → ℕ → ℕ → ℕ → ℕ → Type 0
IsRun taken low end n i = (low ≤ i) × (i + n ≤ end) × ((k : ℕ) → i ≤ k → k < i + n → taken k ≡ false)

-- the index is that of a run, and no lower one is; or there is no run
abbrev pub IsChosen : (ℕ → Bool) → ℕ → ℕ → ℕ → Option ℕ → Type 0
IsChosen taken low end n None = (j : ℕ) → IsRun taken low end n j → ⊥
IsChosen taken low end n (Some i) = IsRun taken low end n i × ((j : ℕ) → j < i → IsRun taken low end n j → ⊥)

-- none of the n indexes from i on is taken
unfoldable pub is_open : (ℕ → Bool) → ℕ → ℕ → Bool
is_open taken i zero = true
is_open taken i (suc n) = not (taken i) && is_open taken (i + 1) n

-- the first of so many indexes from i on, from which n aren't taken
unfoldable pub first_open : (ℕ → Bool) → ℕ → ℕ → ℕ → Option ℕ
first_open taken n i zero = None
first_open taken n i (suc more) = if is_open taken i n then Some i else first_open taken n (i + 1) more

-- the index that is chosen for n selectors of the region from low to below end
abbrev pub chosen : (ℕ → Bool) → ℕ → ℕ → ℕ → Option ℕ
chosen taken low end n = first_open taken n low ((end + 1) - (low + n))
