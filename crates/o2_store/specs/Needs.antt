-- What must be in memory together.
use Rattle.std.specs.Prelude.{◌≡◌, ℕ, ◌<◌, List, [], ◌∷◌, length, Option, Some, None, Bool, true, false, ◌&&◌, ◌||◌, ◌==◌, nat_eq, if◌then◌else◌, nat_lt}
use Rattle.std.specs.List.{list_any, IsDistinct}
use Rattle.o2_entries.specs.declared.Entry.{Entry}
use Rattle.o2_entries.specs.Tables.{slot_at}
use Rattle.o2_place.specs.declared.seg_id.SegId.{SegId}
use Rattle.o2_place.specs.Layout.{over}
use Rattle.o2_store.specs.Shelf.{Shelf, entry_or, rounded}

-- the number stands in the list
abbrev pub has : List ℕ → ℕ → Bool
has keys k = list_any (λ x. x == k) keys

-- numbers below n, each once
pub record AreKeys (n : ℕ) (keys : List ℕ) : Type 0 where
  pub once : IsDistinct nat_eq keys
  pub below : (k : ℕ) → list_any (nat_eq k) keys ≡ true → k < n

-- what a segment takes that is locked or among the numbers
abbrev pub need_in : List (Option Entry) → List ℕ → ℕ → ℕ
need_in es keys k = if nat_lt 0 (entry_or (slot_at es k)).attr.lock || has keys k then rounded (entry_or (slot_at es k)).size else 0

-- what all these take together
abbrev pub all_need : List (Option Entry) → List ℕ → ℕ
all_need es keys = over (need_in es keys) (length es)

-- whether the name is that of a number's segment
abbrev pub has_age : Option Entry → ℕ → Bool
has_age None age = false
has_age (Some e) age = e.age == age

abbrev pub is_named : List (Option Entry) → SegId → Bool
is_named es id = has_age (slot_at es id.key) id.age

-- whether a number's segment is named in a list
abbrev pub named_in : List (Option Entry) → List SegId → ℕ → Bool
named_in es [] k = false
named_in es (id ∷ ids) k = (is_named es id && k == id.key) || named_in es ids k

-- what a segment takes that is locked, or that is id, or that is named in keep
abbrev pub wanted : Shelf → ℕ → List SegId → ℕ → ℕ
wanted s key keep k = if nat_lt 0 (entry_or (slot_at s.entries k)).attr.lock || (k == key || named_in s.entries keep k) then rounded (entry_or (slot_at s.entries k)).size else 0

-- the rounded sizes of keep, of the locked ones and of id together, each once
abbrev pub all_wanted : Shelf → ℕ → List SegId → ℕ
all_wanted s key keep = over (wanted s key keep) (length s.entries)
