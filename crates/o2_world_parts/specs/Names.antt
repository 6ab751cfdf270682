-- The texts of shared segments.
use Rattle.std.specs.Prelude.{ℕ, Bool, List}
use Rattle.o2_world.specs.Known.{same_text}

-- a text is that of a pair
abbrev pub has_text : List ℕ → List ℕ × ℕ → Bool
has_text text t = same_text t.0 text
