-- Parts of a memory, one behind the other.
use Rattle.std.proofs.Common.{◌≡◌, ℕ, ◌≤◌, List, [], ◌∷◌, ◌++◌, Option, None, refl, sym, ◌∙◌}
use Rattle.os2core.specs.declared.spans.Span.{Span}
use Rattle.os2core.specs.Adjoining.{Adjoin}

-- one more
pub more : (ss : List Span) (from mid : ℕ) (s : Span) → Adjoin from ss mid → s.from ≡ mid → s.from ≤ s.to → Adjoin from (ss ++ s ∷ []) s.to
more [] from mid s begins at le = (at ∙ sym begins, le, refl)
more (x ∷ xs) from mid s adjoin at le = (adjoin.0, adjoin.1, more xs x.to mid s adjoin.2 at le)

-- two more, of which the first is a gap
pub two_more : (ss : List Span) (from at mid to : ℕ) (segment : Option ℕ) → at ≤ mid → mid ≤ to → Adjoin from ss at
    → Adjoin from ((ss ++ record { from = at; to = mid; segment = None } ∷ []) ++ record { from = mid; to = to; segment = segment } ∷ []) to
two_more ss from at mid to segment first second adjoin =
    more _ from mid (record { from = mid; to = to; segment = segment }) (more ss from at (record { from = at; to = mid; segment = None }) adjoin refl first) refl second
