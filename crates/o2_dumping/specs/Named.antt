-- Segments whose bytes stay with an image: which images those are that a core image names.
use Rattle.std.specs.Prelude.{ℕ, List, [], ◌∷◌}
use Rattle.o2_dump.specs.declared.parts.Place.{Place}
use Rattle.o2_dump.specs.declared.parts.Place.TheVariants.{Zeros, Image, Memory, Swap}
use Rattle.o2_dump.specs.declared.parts.SegmentEntry.{SegmentEntry}

-- an image that is named is one of these, by the place of its module and the segment there
abbrev pub IsPlaceNamed : (has : ℕ → ℕ → Type 0) → Place → Type 0
IsPlaceNamed has Zeros = Unit {0}
IsPlaceNamed has (Image m k) = has m k
IsPlaceNamed has (Memory base) = Unit {0}
IsPlaceNamed has (Swap bs) = Unit {0}

-- of each segment
abbrev pub AreNamed : (has : ℕ → ℕ → Type 0) → List SegmentEntry → Type 0
AreNamed has [] = Unit {0}
AreNamed has (e ∷ es) = IsPlaceNamed has e.place × AreNamed has es
