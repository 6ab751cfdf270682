-- The module references: words, each the offset of a name among the imported names.
use Rattle.std.specs.Prelude.{ℕ, ◌+◌, ◌*◌, ◌&&◌, Bool, List, [], ◌∷◌, Result, Ok}
use Rattle.o2_base.specs.declared.faults.ModuleFault.{ModuleFault}
use Rattle.o2_base.specs.declared.faults.ModuleFault.TheVariants.{Truncated}
use Rattle.o2_ne.specs.declared.head.Head.{Head}
use Rattle.o2_ne.specs.Words.{byte_at, lies_in, string_at, word_at}
use Rattle.o2_ne.specs.Checks.{Check, all_hold, bytes_in, ◌>>=◌}
use Rattle.o2_ne.specs.Steps.{steps, tabulate}

-- the place of the imported name at an offset
abbrev pub imported_place : Head → ℕ → ℕ
imported_place h offset = h.at + h.imported_at + offset

-- the string at place p, behind its length byte
abbrev pub counted_string : List ℕ → ℕ → List ℕ
counted_string file p = string_at file (p + 1) (byte_at file p)

abbrev pub has_string : List ℕ → ℕ → Bool
has_string file p = lies_in file p 1 && lies_in file (p + 1) (byte_at file p)

-- the place of the word of reference k, from 0
abbrev pub reference_word : Head → ℕ → ℕ
reference_word h k = h.at + h.references_at + 2 * k

-- the place of its name
abbrev pub reference_place : List ℕ → Head → ℕ → ℕ
reference_place file h k = imported_place h (word_at file (reference_word h k))

-- its name
abbrev pub reference_at : List ℕ → Head → ℕ → List ℕ
reference_at file h k = counted_string file (reference_place file h k)

-- the word and the name lie in the file
abbrev pub string_checks : List ℕ → ℕ → List (Check ModuleFault)
string_checks file p = bytes_in Truncated file p 1 ∷ bytes_in Truncated file (p + 1) (byte_at file p) ∷ []

abbrev pub reference_step : List ℕ → Head → ℕ → Result ℕ ModuleFault
reference_step file h k = do
  _ ← all_hold (bytes_in Truncated file (reference_word h k) 2 ∷ [])
  _ ← all_hold (string_checks file (reference_place file h k))
  Ok (k + 1)

-- each reference in turn
abbrev pub all_references : List ℕ → Head → Result ℕ ModuleFault
all_references file h = steps (reference_step file h) h.references 0

-- the names of the references
abbrev pub references_in : List ℕ → Head → List (List ℕ)
references_in file h = tabulate (reference_at file h) 0 h.references
