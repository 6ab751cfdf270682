-- Pairs of a key.
use Rattle.std.specs.Prelude.{ℕ, Bool, ◌==◌}

abbrev pub has_key : {X : Type 0} → ℕ → ℕ × X → Bool
has_key {X} k e = e.0 == k
