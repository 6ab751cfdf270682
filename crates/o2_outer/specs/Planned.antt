-- Which calls are to fail, by their numbers from 1.
use Rattle.std.specs.Prelude.{ℕ, ◌+◌, ◌-◌, ◌^◌, min, List, Bool, Option, option_map, find, nat_eq}
use Rattle.std.specs.List.{list_any}

-- the number of the call behind so many calls; the count stops at the greatest number
abbrev pub next_call : ℕ → ℕ
next_call calls = min (calls + 1) (2 ^ 64 - 1)

-- the next call is one of those that are to fail
abbrev pub fails_next : ℕ → List ℕ → Bool
fails_next calls fails = list_any (λ y. nat_eq y (next_call calls)) fails

-- how many bytes a put takes before it fails, where it is to fail; of two entries of one call the first counts
abbrev pub planned_bytes : List (ℕ × ℕ) → ℕ → Option ℕ
planned_bytes fails call = option_map (λ f. f.1) (find (λ f. nat_eq f.0 call) fails)
