-- Segments over the same bytes of the file, which have the same records, and lists that stand for several segments.
use Rattle.std.specs.Prelude.{◌≡◌, ℕ, ◌+◌, ◌-◌, ◌<◌, ◌≤◌, ◌==◌, ◌&&◌, ◌++◌, Bool, List, drop, get_or, length, map, take, Ok}
use Rattle.o2_ne.specs.declared.head.Head.{Head}
use Rattle.o2_ne.specs.declared.entries.Entry.{Entry}
use Rattle.o2_ne_segs.specs.declared.segment.Segment.{Segment}
use Rattle.o2_image.specs.declared.images.Kept.{Kept}
use Rattle.o2_image.specs.declared.images.Kept.TheVariants.{Lists, Parts as Parted}
use Rattle.o2_image.specs.declared.images.Row.{Row}
use Rattle.o2_image.specs.declared.images.Row.TheVariants.{One, Piece}
use Rattle.o2_image.specs.declared.sharing.Part.{Part}
use Rattle.o2_image.specs.Marked.{unpacked}
use Rattle.o2_image.specs.Records.{segment_step}

-- both have records, and the same bytes before them
abbrev pub is_alike : Segment → Segment → Bool
is_alike a b = a.relocs && b.relocs && a.file_at == b.file_at && a.file_len == b.file_len

-- the records of a segment pass, whatever its number
abbrev pub Passes : List ℕ → Head → List Entry → Segment → Type 0
Passes file h es s = (n : ℕ) → segment_step file h es s n ≡ Ok (n + 1)

-- but for its first n items the one list is the front of the other
pub record Precedes {X : Type 0} (n : ℕ) (xs ys : List X) : Type 0 where
  pub some : n ≤ length xs
  pub within : length xs ≤ n + length ys
  pub same : drop n xs ≡ take (length xs - n) ys

-- the one list is a part of the other, from its item n on
pub record HasPart {X : Type 0} (n : ℕ) (xs ys : List X) : Type 0 where
  pub within : n + length ys ≤ length xs
  pub same : ys ≡ take (length ys) (drop n xs)

-- one list behind another, but for its first items
abbrev pub behind : {X : Type 0} → List X → ℕ → List X → List X
behind xs n ys = drop n xs ++ ys

-- a part of a list, and several
abbrev pub part_of : {X : Type 0} → List X → Part → List X
part_of xs p = take p.count (drop p.from xs)

abbrev pub parts_of : {X : Type 0} → List X → List Part → List (List X)
parts_of xs ps = map (part_of xs) ps

-- no item
abbrev pub no_part : Part
no_part = record { from = 0; count = 0 }

-- the parts at these places
abbrev pub chosen : List Part → List ℕ → List Part
chosen ps places = map (λ p. get_or ps p no_part) places

-- each part lies in a list of this length
abbrev pub AreWithin : ℕ → List Part → Type 0
AreWithin n ps = (k : ℕ) (d : Part) → k < length ps → (get_or ps k d).from + (get_or ps k d).count ≤ n

-- the lists that are kept one by one, or as parts
abbrev pub lists_of : Kept → List (List (ℕ × ℕ))
lists_of (Lists lists) = map (λ v. v.items) lists.items
lists_of (Parted targets parts) = parts_of (unpacked targets) parts.items

-- the targets of one segment
abbrev pub row_of : Row → List (ℕ × ℕ)
row_of (One targets) = targets.now
row_of (Piece targets part) = part_of (unpacked targets.now) part
