-- The names of shared segments as they are kept: a place for each shared index has the name of the segment that was last named
-- under it, or nothing. A name counts as long as its segment lives.
use Rattle.std.specs.Prelude.{◌≡◌, ℕ, ◌+◌, ◌<◌, ◌&&◌, Bool, false, List, [], ◌∷◌, map, Option, Some, None, IsSome, is_some, if◌then◌else◌, slice_index_or}
use Rattle.o2_place.specs.declared.seg_id.SegId.{SegId}
use Rattle.o2_regions.specs.Maps.{Maps}
use Rattle.o2_store.specs.Shelf.{Shelf, entry_of}
use Rattle.o2_world.specs.Known.{same_text, text_name}
use Rattle.o2_shared.specs.declared.names.Name.{Name}
pub use Rattle.o2_segs.specs.Sharing.{IsHeldOnly}

-- the segment of a name, where it lives
abbrev pub live_of : Shelf → Option Name → Option SegId
live_of s None = None
live_of s (Some k) = if is_some (entry_of s k.id) then Some k.id else None

-- the segment of a name, where it has the text and the segment lives
abbrev pub live_in : Shelf → List ℕ → Option Name → Option SegId
live_in s text None = None
live_in s text (Some k) = if same_text k.text text && is_some (entry_of s k.id) then Some k.id else None

abbrev pub found_or : (index : ℕ) → Option SegId → Option (ℕ × SegId) → Option (ℕ × SegId)
found_or index None rest = rest
found_or index (Some id) rest = Some (index, id)

-- the first index whose name has the text and lives, and its segment; the names are those of the indexes from one on
abbrev pub found_from : Shelf → List ℕ → List (Option Name) → (index : ℕ) → Option (ℕ × SegId)
found_from s text [] index = None
found_from s text (k ∷ ks) index = found_or index (live_in s text k) (found_from s text ks (index + 1))

-- the name of a segment is its age
abbrev pub age_of : Option (ℕ × SegId) → Option ℕ
age_of None = None
age_of (Some f) = Some f.1.age

-- the name that a text has
abbrev pub name_in : Shelf → List (Option Name) → List ℕ → Option ℕ
name_in s names text = age_of (found_from s text names 4096)

-- a look-up of texts gives these names
pub record AreTexts (s : Shelf) (names : List (Option Name)) (text : List ℕ → Option ℕ) : Type 0 where
  pub each : (t : List ℕ) → text t ≡ name_in s names t

-- a place has this name, and its segment lives
pub record IsNamed (s : Shelf) (names : List (Option Name)) (place : ℕ) (k : Name) : Type 0 where
  pub there : slice_index_or names place None ≡ Some k
  pub lives : IsSome (entry_of s k.id)

-- no two names have one text
pub record AreDistinct (names : List (Option Name)) : Type 0 where
  pub once : (place other : ℕ) (k l : Name) → slice_index_or names place None ≡ Some k → slice_index_or names other None ≡ Some l → k.text ≡ l.text → place ≡ other

-- whether a place has a name of this text
abbrev pub has_text : List ℕ → Option Name → Bool
has_text text None = false
has_text text (Some k) = same_text k.text text

-- a place's name, unless it has this text
abbrev pub other_than : List ℕ → Option Name → Option Name
other_than text name = if has_text text name then None else name

-- the names but that of this text
abbrev pub without : List ℕ → List (Option Name) → List (Option Name)
without text names = map (other_than text) names

-- A named segment that lives is held under the shared index of its name alone, and no two of them have one text. What was named
-- is older than what is made next.
pub record AreInPlace (s : Shelf) (m : Maps) (names : List (Option Name)) : Type 0 where
  pub held : (place : ℕ) (k : Name) → IsNamed s names place k → IsHeldOnly m (4096 + place) k.id
  pub once : (place other : ℕ) (k l : Name) → IsNamed s names place k → IsNamed s names other l → k.text ≡ l.text → place ≡ other
  pub older : (place : ℕ) (k : Name) → slice_index_or names place None ≡ Some k → k.id.age < s.made

-- no text stands twice
abbrev pub AreOnce : List (List ℕ × ℕ) → Type 0
AreOnce [] = Unit {0}
AreOnce (t ∷ ts) = (text_name ts t.0 ≡ None) × AreOnce ts

-- what was made in a store lives in a later one only if it lived there
pub record IsBehind (old new : Shelf) : Type 0 where
  pub lived : (id : SegId) → id.age < old.made → IsSome (entry_of new id) → IsSome (entry_of old id)
