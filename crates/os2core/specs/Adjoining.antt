-- Parts of a memory, one behind the other.
use Rattle.std.specs.Prelude.{◌≡◌, ℕ, ◌≤◌, List, [], ◌∷◌}
use Rattle.os2core.specs.declared.spans.Span.{Span}

-- parts from one place up to another, each from where the one before it ends
abbrev pub Adjoin : ℕ → List Span → ℕ → Type 0
Adjoin from [] to = from ≡ to
Adjoin from (s ∷ ss) to = (s.from ≡ from) × (s.from ≤ s.to) × Adjoin s.to ss to
