-- Names by their places in a file, and the places in the order of the folded names.
use Rattle.std.specs.Prelude.{◌≡◌, ℕ, zero, suc, ◌+◌, ◌%◌, Bool, List, [], ◌∷◌, length, map, get_or}
use Rattle.std.specs.Char.{to_ascii_lowercase}
use Rattle.std.specs.Cmp.Lexicographic.{slice_cmp}
use Rattle.std.specs.List.{list_any}
use Rattle.std.specs.List.Sorted.{IsSortedBy}
use Rattle.std.specs.declared.cmp.Ordering.{Ordering}
use Rattle.std.specs.Ordering.{is_lt, nat_cmp, ordering_then}
use Rattle.o2_ne.specs.declared.names.Name.{Name}
use Rattle.o2_ne.specs.declared.table.Table.{Table}
use Rattle.o2_ne.specs.Words.{byte_at, string_at, word_at}

-- with ASCII letters folded
abbrev pub folded : List ℕ → List ℕ
folded text = map to_ascii_lowercase text

-- the text at a place, behind its length byte, the ordinal behind it, and the name that both are
abbrev pub text_of : List ℕ → ℕ → List ℕ
text_of file p = string_at file (p + 1) (byte_at file p)

abbrev pub ordinal_at : List ℕ → ℕ → ℕ
ordinal_at file p = word_at file (p + 1 + byte_at file p)

abbrev pub name_in : List ℕ → ℕ → Name
name_in file p = record { text = text_of file p; ordinal = ordinal_at file p }

abbrev pub names_in : List ℕ → List ℕ → List Name
names_in file places = map (name_in file) places

-- so many places from place p on, each behind the name at the one before it
unfoldable pub places_from : List ℕ → ℕ → ℕ → List ℕ
places_from file p zero = []
places_from file p (suc n) = p ∷ places_from file (p + 1 + byte_at file p + 2) n

abbrev pub folded_at : List ℕ → ℕ → List ℕ
folded_at file p = folded (text_of file p)

-- by the folded texts, and where these are the same by the places
abbrev pub by_name : List ℕ → ℕ → ℕ → Ordering
by_name file a b = ordering_then (slice_cmp nat_cmp (folded_at file a) (folded_at file b)) (nat_cmp a b)

abbrev pub is_before : List ℕ → List ℕ → ℕ → Bool
is_before file name p = is_lt (slice_cmp nat_cmp (folded_at file p) (folded name))

-- the same places in another order
abbrev pub AreThose : List ℕ → List ℕ → Type 0
AreThose places order = (passes : ℕ → Bool) → list_any passes order ≡ list_any passes places

-- the place whose index stands in the low 29 bits of a key, and those of several keys
abbrev pub place_by : List ℕ → ℕ → ℕ
place_by places key = get_or places (key % 536870912) 0

abbrev pub places_by : List ℕ → List ℕ → List ℕ
places_by places keys = map (place_by places) keys

-- the places in the order of their folded texts
pub record IsIndex (file : List ℕ) (places : List ℕ) (order : List ℕ) : Type 0 where
  pub each : AreThose places order
  pub sorted : IsSortedBy (λ a b. is_lt (by_name file a b)) order

-- the places of a table's names, one behind the other
abbrev pub places_in : List ℕ → Table → List ℕ
places_in file t = places_from file t.at (length t.order.items)

-- its names in their order
abbrev pub names_of : List ℕ → Table → List Name
names_of file t = names_in file (places_in file t)

abbrev pub IsTable : List ℕ → Table → Type 0
IsTable file t = IsIndex file (places_in file t) t.order.items
