-- Where a search among free blocks ends.
use Rattle.std.specs.Prelude.{◌≡◌, ◌≢◌, ℕ, ◌+◌, ◌-◌, ◌%◌, ◌<◌, ◌≤◌, Bool, false, ◌||◌, ◌==◌, nat_le, nat_lt, List, [], ◌∷◌, Option, Some, None, is_some, if◌then◌else◌}
use Rattle.o2_subseg.specs.declared.block.Block.{Block}
use Rattle.o2_subseg.specs.declared.scan.Seek.{Seek}
use Rattle.o2_subseg.specs.declared.scan.Seek.TheVariants.{Length, Offset}
use Rattle.o2_subseg.specs.declared.scan.Spot.{Spot}
use Rattle.o2_subseg.specs.declared.scan.Link.{Link}
use Rattle.o2_subseg.specs.declared.scan.Link.TheVariants.{End, Bad, To}
use Rattle.o2_world.specs.Heaps.{Heap, word, is_block}

-- the block ends a search
abbrev pub passes : Seek → Block → Bool
passes (Length n) b = nat_le n b.length
passes (Offset n) b = nat_le n b.offset

-- where a search is behind a block
abbrev pub behind : Seek → Spot → Block → Spot
behind seek s b =
    if is_some s.found then s
    else if passes seek b then record s { found = Some b }
    else record s { before = Some b }

-- where a search among blocks ends
abbrev pub spot_in : Seek → Spot → List (ℕ × ℕ) → Spot
spot_in seek s [] = s
spot_in seek s ((at, len) ∷ bs) = spot_in seek (behind seek s (record { offset = at; length = len })) bs

-- a search that has passed no block
abbrev pub at_first : ℕ → Spot
at_first size = record { size = size; before = None; found = None }

-- where a search of a heap ends
abbrev pub spot_of : Seek → Heap → Spot
spot_of seek h = spot_in seek (at_first h.size) h.blocks

-- what the word at a link says
abbrev pub link_at : List ℕ → ℕ → ℕ → ℕ → Link
link_at bytes size low link =
    let at = word bytes link in
    let len = word bytes (at + 2) in
    if at == 0 then End
    else if is_block size low at len then To (record { offset = at; length = len })
    else Bad

-- a block lies within a heap
pub record IsWithin (size : ℕ) (b : Block) : Type 0 where
  pub whole : b.offset % 4 ≡ 0
  pub whole_length : b.length % 4 ≡ 0
  pub low : 8 ≤ b.offset
  pub long : 4 ≤ b.length
  pub high : b.offset + b.length ≤ size

abbrev pub IsWithinOrNone : ℕ → Option Block → Type 0
IsWithinOrNone size None = Unit {0}
IsWithinOrNone size (Some b) = IsWithin size b

-- a block ends before another begins
abbrev pub AreApart : Option Block → Option Block → Type 0
AreApart (Some b) (Some f) = b.offset + b.length < f.offset
AreApart _ _ = Unit {0}

-- the blocks of a search lie within the heap, apart from one another
pub record IsSpot (s : Spot) : Type 0 where
  pub size_whole : s.size % 4 ≡ 0
  pub size_low : 12 ≤ s.size
  pub size_word : s.size < 65536
  pub before_within : IsWithinOrNone s.size s.before
  pub found_within : IsWithinOrNone s.size s.found
  pub apart : AreApart s.before s.found

-- where the offset of the block stands that ended a search, behind this block
abbrev pub link_of : Option Block → ℕ
link_of None = 4
link_of (Some b) = b.offset

-- a block's end lies behind a place
abbrev pub ends_behind : ℕ → Option Block → Bool
ends_behind from None = false
ends_behind from (Some b) = nat_lt from (b.offset + b.length)

-- a block begins before a place
abbrev pub begins_before : ℕ → Option Block → Bool
begins_before end None = false
begins_before end (Some b) = nat_lt b.offset end

-- a range has a byte of the blocks beside it
abbrev pub is_met_by : Spot → ℕ → ℕ → Bool
is_met_by s from end = ends_behind from s.before || begins_before end s.found

-- how many bytes of a block begin at a place
abbrev pub more_at : Option Block → ℕ → ℕ
more_at None end = 0
more_at (Some f) end = if end == f.offset then f.length else 0

-- the offset of the block behind a range that ends at a place, or 0
abbrev pub next_at : List ℕ → Option Block → ℕ → ℕ
next_at bytes None end = 0
next_at bytes (Some f) end = if end == f.offset then word bytes f.offset else f.offset

-- the words of a range that is freed between two blocks
abbrev pub freed_words : List ℕ → Option Block → Option Block → ℕ → ℕ → List (ℕ × ℕ)
freed_words bytes None found at len =
    (4, at) ∷ (at + 2, len + more_at found (at + len)) ∷ (at, next_at bytes found (at + len)) ∷ []
freed_words bytes (Some b) found at len =
    if b.offset + b.length == at
    then (b.offset + 2, (b.length + len) + more_at found (at + len)) ∷ (b.offset, next_at bytes found (at + len)) ∷ []
    else (b.offset, at) ∷ (at + 2, len + more_at found (at + len)) ∷ (at, next_at bytes found (at + len)) ∷ []

-- the words of a block whose front is taken
abbrev pub taken_words : List ℕ → Option Block → Block → ℕ → List (ℕ × ℕ)
taken_words bytes before f size =
    if size == f.length then (link_of before, word bytes f.offset) ∷ []
    else (link_of before, f.offset + size) ∷ ((f.offset + size) + 2, f.length - size) ∷ (f.offset + size, word bytes f.offset) ∷ []

-- an offset and a size are those of a range of a heap; the count is the rounded size
pub record IsRange (size offset count heap : ℕ) : Type 0 where
  pub some : size ≢ 0
  pub whole : offset % 4 ≡ 0
  pub low : 8 ≤ offset
  pub high : offset + count ≤ heap

-- a block is that of a range
pub record IsRangeOf (b : Block) (size offset count heap : ℕ) : Type 0 where
  pub range : IsRange size offset count heap
  pub at : b.offset ≡ offset
  pub long : b.length ≡ count
