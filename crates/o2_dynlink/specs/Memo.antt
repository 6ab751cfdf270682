-- What is known of a module while its imports are looked up.
use Rattle.std.specs.Prelude.{◌≡◌, ℕ, ◌+◌, ◌*◌, ◌<◌, List, [], Option, Some, None, get_or, length, Result, Ok}
use Rattle.o2_image.specs.Getters.{imported_name}
use Rattle.o2_image.specs.Images.{Target}
use Rattle.o2_image.specs.Parts.{Parts}
use Rattle.o2_dynlink.specs.declared.gathering.Last.{Last}
use Rattle.o2_dynlink.specs.declared.leads.Lead.{Lead}
use Rattle.o2_dynlink.specs.declared.leads.Lead.TheVariants.{Services, Library, Nowhere}
use Rattle.o2_dynlink.specs.Imports.{import_text}
use Rattle.o2_dynlink.specs.Leads.{lead_of}

-- the block of the memo that has the names of the services, the first, or those of a library, by its place
abbrev pub block_of : Lead → Option ℕ
block_of Services = Some 0
block_of (Library place) = Some place
block_of Nowhere = None

-- the place in a block of the memo of the name at an offset
abbrev pub memo_at : ℕ → ℕ → ℕ
memo_at block at = block * 65536 + at

-- what the memo has of a name is where each import of it leads
abbrev pub IsMemo : List Parts → List ℕ → Option ℕ → Parts → List (Option Target) → Type 0
IsMemo ms bases shim m memo =
    (block at : ℕ) (t : Target) (name : List ℕ) → at < 65536 → get_or memo (memo_at block at) None ≡ Some t
    → block_of (lead_of ms name) ≡ Some block → import_text ms bases shim name (imported_name m at) ≡ Ok t

-- the list at an index is what g gives of a number
pub record IsKnown {F : Type 0} (g : ℕ → Result (List Target) F) (found : List (List Target)) (last : Last) : Type 0 where
  pub low : last.index < length found
  pub are : g last.seg ≡ Ok (get_or found last.index [])

-- at each place stands the number behind its index
abbrev pub AreAt : List ℕ → List ℕ → Type 0
AreAt order places = (k : ℕ) → k < length places → get_or order (get_or places k 0) 0 ≡ k + 1
