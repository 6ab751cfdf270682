-- Entries by rising ordinal.
use Rattle.std.specs.Prelude.{ℕ, ◌<◌, List, get_or, length}
use Rattle.std.specs.List.Sorted.{IsNonDecreasingBy}
use Rattle.o2_ne.specs.declared.entries.Entry.{Entry}

-- their ordinals rise, and are below the next one, of which there are so many that each entry has its own
pub record IsRising (es : List Entry) (next : ℕ) : Type 0 where
  pub rising : IsNonDecreasingBy (λ e. e.ordinal) es
  pub below : (k : ℕ) (d : Entry) → k < length es → (get_or es k d).ordinal < next
  pub few : length es < next

-- the entries of a file, whose table has at most 65,535 bundles
abbrev pub most_ordinals : ℕ
most_ordinals = 16777216

abbrev pub AreEntries : List Entry → Type 0
AreEntries es = IsRising es most_ordinals
