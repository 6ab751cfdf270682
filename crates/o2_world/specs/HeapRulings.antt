-- What the three calls on a heap inside a segment do, over the segment's bytes.
use Rattle.std.specs.Prelude.{ℕ, ◌+◌, ◌-◌, ◌*◌, ◌/◌, ◌%◌, min, Bool, false, not, ◌&&◌, ◌||◌, ◌==◌, nat_le, nat_lt, List, [], ◌∷◌, length, Option, Some, None, option_map, if◌then◌else◌}
use Rattle.o2_world.specs.Heaps.{Heap, heap_of, with_controls}

-- the error, 0 where the call is done; the value that it answers, and the bytes behind it
pub record HeapRuling : Type 0 where
  pub error : ℕ
  pub value : ℕ
  pub bytes : List ℕ

abbrev pub refuses : ℕ → List ℕ → HeapRuling
refuses error bytes = record { error = error; value = 0; bytes = bytes }

-- the call is done, and the bytes have this heap
abbrev pub leaves : ℕ → Heap → List ℕ → HeapRuling
leaves value h bytes = record { error = 0; value = value; bytes = with_controls h bytes }

-- a size, rounded up to a multiple of 4
unfoldable pub rounded : ℕ → ℕ
rounded size = (size + 3) / 4 * 4

-- the area of a size, where 0 is 65,536, rounded down to a multiple of 4 that is a word
unfoldable pub area_of : ℕ → ℕ
area_of size = min 65532 ((if size == 0 then 65536 else size) / 4 * 4)

-- the offset of the lowest block that is long enough, and the blocks without its front of this size
abbrev pub take_from : ℕ → List (ℕ × ℕ) → Option (ℕ × List (ℕ × ℕ))
take_from size [] = None
take_from size ((at, len) ∷ bs) =
    if nat_le size len
    then Some (at, (if size == len then bs else (at + size, len - size) ∷ bs))
    else option_map (λ t. (t.0, (at, len) ∷ t.1)) (take_from size bs)

-- a block before others, one with the first of them where it touches that
abbrev pub join : ℕ × ℕ → List (ℕ × ℕ) → List (ℕ × ℕ)
join b [] = b ∷ []
join (at, len) ((p, l) ∷ bs) = if at + len == p then (at, len + l) ∷ bs else (at, len) ∷ (p, l) ∷ bs

-- the blocks with one more, which is one with those that it touches
abbrev pub insert : ℕ × ℕ → List (ℕ × ℕ) → List (ℕ × ℕ)
insert b [] = b ∷ []
insert (at, len) ((p, l) ∷ bs) =
    if p + l == at then join (p, l + len) bs
    else if nat_lt p at then (p, l) ∷ insert (at, len) bs
    else join (at, len) ((p, l) ∷ bs)

-- a range has a byte of a block
abbrev pub meets : ℕ → ℕ → List (ℕ × ℕ) → Bool
meets from end [] = false
meets from end ((at, len) ∷ bs) = (nat_lt at end && nat_lt from (at + len)) || meets from end bs

-- a heap with nothing taken
abbrev pub fresh : ℕ → Heap
fresh size = record { size = size; blocks = (8, size - 8) ∷ [] }

-- a heap that reaches further, whose new bytes are free
abbrev pub grown : Heap → ℕ → Heap
grown h size = if size == h.size then h else record { size = size; blocks = insert (h.size, size - h.size) h.blocks }

-- DosSubSet with flags 0, for an area within the segment
unfoldable pub growing : Option Heap → ℕ → List ℕ → HeapRuling
growing None size bytes = refuses 87 bytes
growing (Some h) size bytes = if nat_lt size h.size then refuses 310 bytes else leaves 0 (grown h size) bytes

-- DosSubSet
unfoldable pub setting_up : ℕ → ℕ → List ℕ → HeapRuling
setting_up flags size bytes =
    if nat_lt 1 flags then refuses 314 bytes
    else if nat_lt (area_of size) 12 || nat_lt (length bytes) (area_of size) then refuses 313 bytes
    else if flags == 1 then leaves 0 (fresh (area_of size)) bytes
    else growing (heap_of bytes) (area_of size) bytes

-- what a block taken of a heap leaves
unfoldable pub taken : Option (ℕ × List (ℕ × ℕ)) → ℕ → List ℕ → HeapRuling
taken None size bytes = refuses 311 bytes
taken (Some t) size bytes = leaves t.0 (record { size = size; blocks = t.1 }) bytes

-- DosSubAlloc, of a heap or none
unfoldable pub taking_of : Option Heap → ℕ → List ℕ → HeapRuling
taking_of None size bytes = refuses 87 bytes
taking_of (Some h) size bytes =
    if (size == 0) || nat_lt (h.size - 8) size then refuses 313 bytes
    else taken (take_from (rounded size) h.blocks) h.size bytes

unfoldable pub taking : ℕ → List ℕ → HeapRuling
taking size bytes = taking_of (heap_of bytes) size bytes

-- an offset and a rounded size that aren't those of a range of a heap
abbrev pub is_outside : ℕ → ℕ → ℕ → ℕ → Bool
is_outside size offset count heap = ((size == 0) || not (offset % 4 == 0)) || (nat_lt offset 8 || nat_lt heap (offset + count))

-- DosSubFree, of a heap or none
unfoldable pub giving_back_to : Option Heap → ℕ → ℕ → List ℕ → HeapRuling
giving_back_to None offset size bytes = refuses 87 bytes
giving_back_to (Some h) offset size bytes =
    let count = rounded size in
    if is_outside size offset count h.size then refuses 313 bytes
    else if meets offset (offset + count) h.blocks then refuses 312 bytes
    else leaves 0 (record { size = h.size; blocks = insert (offset, count) h.blocks }) bytes

unfoldable pub giving_back : ℕ → ℕ → List ℕ → HeapRuling
giving_back offset size bytes = giving_back_to (heap_of bytes) offset size bytes
