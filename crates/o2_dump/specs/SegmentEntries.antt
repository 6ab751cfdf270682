-- The entries of the segments in a core image: size, kept bytes, flags, lock, whether it is clean, its place, and whether it was
-- discarded, which an image of the first form doesn't tell. What the place needs follows.
use Rattle.std.specs.Prelude.{ℕ, ◌+◌, ◌*◌, ◌/◌, ◌%◌, ◌==◌, ◌&&◌, ◌||◌, not, Bool, false, List, [], ◌∷◌, ◌++◌, length, nat_le, nat_lt, Result, Ok, if◌then◌else◌}
use Rattle.std.specs.List.{list_any}
use Rattle.o2_ne.specs.Words.{byte_at, word_at, long_at, string_at}
use Rattle.o2_ne.specs.Checks.{Check, all_hold, ◌>>=◌}
use Rattle.o2_ne.specs.Steps.{steps}
use Rattle.o2_dump.specs.declared.fault.CoreFault.{CoreFault}
use Rattle.o2_dump.specs.declared.parts.Block.{Block}
use Rattle.o2_dump.specs.declared.parts.Place.{Place}
use Rattle.o2_dump.specs.declared.parts.Place.TheVariants.{Zeros, Image, Memory, Swap}
use Rattle.o2_dump.specs.declared.parts.SegmentEntry.{SegmentEntry}
use Rattle.o2_dump.specs.FileFields.{whole, right}

-- how much memory a segment takes: its size rounded up to 16
abbrev pub rounded : ℕ → ℕ
rounded size = (size + 15) / 16 * 16

-- how many blocks of 512 bytes hold the kept bytes
abbrev pub blocks_for : ℕ → ℕ
blocks_for kept = (kept + 511) / 512

-- Kept bytes are none where there are only zeros, and all where the segment is in memory.
abbrev pub is_place : ℕ → ℕ → ℕ → Bool
is_place number kept size =
    if number == 0 then kept == 0 else (if number == 2 then kept == size else nat_le number 3)

-- A discarded segment has no bytes anywhere, its flags say that it may be discarded, and it isn't locked.
abbrev pub is_gone_right : (gone number flags lock : ℕ) → Bool
is_gone_right gone number flags lock = (gone == 0) || ((gone == 1) && ((number == 0) && ((flags / 4 % 2 == 1) && (lock == 0))))

-- the mark of the entry at place p, whose fields are 13 bytes where it is told, and 12 where it isn't
abbrev pub gone_at : List ℕ → ℕ → ℕ → ℕ
gone_at file fields p = if nat_lt 12 fields then byte_at file (p + 12) else 0

-- the fields of an entry at place p
abbrev pub entry_checks : List ℕ → ℕ → ℕ → List (Check CoreFault)
entry_checks file fields p =
    whole file p 4
    ∷ right p (nat_le 1 (long_at file p) && nat_le (long_at file p) 65536)
    ∷ whole file (p + 4) 4
    ∷ right p (nat_le (long_at file (p + 4)) (long_at file p))
    ∷ whole file (p + 8) 3
    ∷ right p (nat_le (byte_at file (p + 10)) 1)
    ∷ whole file (p + 11) 1
    ∷ right p (is_place (byte_at file (p + 11)) (long_at file (p + 4)) (long_at file p))
    ∷ whole file p fields
    ∷ right p (is_gone_right (gone_at file fields p) (byte_at file (p + 11)) (byte_at file (p + 8)) (byte_at file (p + 9)))
    ∷ []

-- a segment in memory shares a byte with the range of this size from a base on
abbrev pub is_met_by : ℕ → ℕ → Place → ℕ → Bool
is_met_by base size (Memory other) n = nat_lt base (other + rounded n) && nat_lt other (base + rounded size)
is_met_by base size Zeros n = false
is_met_by base size (Image m k) n = false
is_met_by base size (Swap bs) n = false

-- no segment has its bytes in this range yet
abbrev pub is_free : List SegmentEntry → ℕ → ℕ → Bool
is_free found base size = not (list_any (λ e. is_met_by base size e.place e.size) found)

-- one of these blocks has this number
abbrev pub is_among : ℕ → List Block → Bool
is_among n bs = list_any (λ b. b.number == n) bs

-- a segment has its bytes in the block of this number
abbrev pub has_block : ℕ → Place → Bool
has_block n (Swap bs) = is_among n bs
has_block n Zeros = false
has_block n (Image m k) = false
has_block n (Memory base) = false

-- no segment has its bytes in the block of this number yet
abbrev pub is_unused : List SegmentEntry → ℕ → Bool
is_unused found n = not (list_any (λ e. has_block n e.place) found)

-- the place of the next block, where their number stands at place q: four bytes of its own number, then its 512 bytes
abbrev pub next_block : ℕ → List Block → ℕ
next_block q bs = q + 4 + 516 * length bs

-- a block is on the device, and holds nothing yet
abbrev pub is_block : ℕ → List SegmentEntry → List Block → ℕ → Bool
is_block blocks found bs n = nat_lt n blocks && is_unused found n && not (is_among n bs)

-- the block at place q, of the entry at place p
abbrev pub block_checks : List ℕ → ℕ → List SegmentEntry → ℕ → List Block → ℕ → List (Check CoreFault)
block_checks file blocks found p bs q =
    whole file q 4
    ∷ right p (is_block blocks found bs (long_at file q))
    ∷ whole file (q + 4) 512
    ∷ []

abbrev pub block_at : List ℕ → ℕ → Block
block_at file q = record { number = long_at file q; bytes = string_at file (q + 4) 512 }

-- the next block of the entry at place p
unfoldable pub block_step : List ℕ → ℕ → List SegmentEntry → ℕ → ℕ → List Block → Result (List Block) CoreFault
block_step file blocks found p q bs = do
  _ ← all_hold (block_checks file blocks found p bs (next_block q bs))
  Ok (bs ++ block_at file (next_block q bs) ∷ [])

-- What follows the fields of the entry at place p stands at place q.

-- in an image: the numbers of its module and of its segment there
unfoldable pub image_at : List ℕ → ℕ → Result Place CoreFault
image_at file q = do
  _ ← all_hold (whole file q 4 ∷ [])
  Ok (Image (word_at file q) (word_at file (q + 2)))

-- its range lies in memory and is free
abbrev pub is_range : ℕ → List SegmentEntry → ℕ → ℕ → Bool
is_range memory found base size = nat_le (base + rounded size) memory && is_free found base size

abbrev pub memory_checks : List ℕ → ℕ → List SegmentEntry → ℕ → ℕ → List (Check CoreFault)
memory_checks file memory found p q =
    whole file q 4 ∷ right p (is_range memory found (long_at file q) (long_at file p)) ∷ []

-- in memory: its base
unfoldable pub memory_at : List ℕ → ℕ → List SegmentEntry → ℕ → ℕ → Result Place CoreFault
memory_at file memory found p q = do
  _ ← all_hold (memory_checks file memory found p q)
  Ok (Memory (long_at file q))

abbrev pub count_checks : List ℕ → ℕ → ℕ → List (Check CoreFault)
count_checks file p q =
    whole file q 4 ∷ right p (long_at file q == blocks_for (long_at file (p + 4))) ∷ []

-- how many blocks the entry at place p has
abbrev pub count_at : List ℕ → ℕ → ℕ → Result ℕ CoreFault
count_at file p q = do
  _ ← all_hold (count_checks file p q)
  Ok (long_at file q)

-- swapped out: how many blocks it has, and the blocks
unfoldable pub swap_at : List ℕ → ℕ → List SegmentEntry → ℕ → ℕ → Result Place CoreFault
swap_at file blocks found p q = do
  n ← count_at file p q
  bs ← steps (block_step file blocks found p q) n []
  Ok (Swap bs)

-- the place of the entry at place p
unfoldable pub place_at : List ℕ → ℕ → ℕ → List SegmentEntry → ℕ → ℕ → Result Place CoreFault
place_at file memory blocks found p q =
    if byte_at file (p + 11) == 0 then Ok Zeros
    else (if byte_at file (p + 11) == 1 then image_at file q
    else (if byte_at file (p + 11) == 2 then memory_at file memory found p q
    else swap_at file blocks found p q))

-- how many bytes are told of a place
abbrev pub place_len : Place → ℕ
place_len Zeros = 0
place_len (Image m k) = 4
place_len (Memory base) = 4
place_len (Swap bs) = 4 + 516 * length bs

-- the entry at place p, with its place
abbrev pub entry_at : List ℕ → ℕ → ℕ → Place → SegmentEntry
entry_at file fields p place = record {
  size = long_at file p;
  kept = long_at file (p + 4);
  flags = byte_at file (p + 8);
  lock = byte_at file (p + 9);
  clean = byte_at file (p + 10) == 1;
  gone = gone_at file fields p == 1;
  place = place;
}

-- the entry at place p, behind those found
unfoldable pub entry_of : List ℕ → ℕ → ℕ → ℕ → List SegmentEntry → ℕ → Result SegmentEntry CoreFault
entry_of file fields memory blocks found p = do
  _ ← all_hold (entry_checks file fields p)
  place ← place_at file memory blocks found p (p + fields)
  Ok (entry_at file fields p place)

-- the segments so far, and the place behind their entries
pub record SegmentsSoFar : Type 0 where
  pub found : List SegmentEntry
  pub place : ℕ

-- the next segment
unfoldable pub segment_step : List ℕ → ℕ → ℕ → ℕ → SegmentsSoFar → Result SegmentsSoFar CoreFault
segment_step file fields memory blocks s = do
  e ← entry_of file fields memory blocks s.found s.place
  Ok (record { found = s.found ++ e ∷ []; place = s.place + fields + place_len e.place })
