-- Segments are read back.
use Rattle.std.proofs.Common.{◌≡◌, ℕ, suc, ◌+◌, ◌*◌, ◌<◌, ◌≤◌, ◌^◌, Bool, true, false, List, [], ◌∷◌, ◌++◌, length, Result, Ok, refl, sym, ap, ◌∙◌, append_assoc, append-nil, length-append, eq-eqb, arith}
use Rattle.std.specs.Prelude.{flat_map, nat_le, ◌==◌, ◌&&◌}
use Rattle.o2_ne.specs.Words.{byte_at, long_at, string_at, word_at}
use Rattle.o2_ne.specs.Checks.{all_hold, ◌>>=◌}
use Rattle.o2_ne.specs.Steps.{steps}
use Rattle.o2_dump.specs.declared.fault.CoreFault.{CoreFault}
use Rattle.o2_dump.specs.declared.parts.Block.{Block}
use Rattle.o2_dump.specs.declared.parts.Place.{Place}
use Rattle.o2_dump.specs.declared.parts.Place.TheVariants.{Zeros, Image, Memory, Swap}
use Rattle.o2_dump.specs.declared.parts.SegmentEntry.{SegmentEntry}
use Rattle.o2_dump.specs.CoreBytes.{bit, block_bytes, long, place_bytes, place_number, segment_bytes}
use Rattle.o2_dump.specs.SegmentEntries.{SegmentsSoFar, block_at, block_checks, block_step, blocks_for, count_at, entry_checks, entry_of, image_at, is_block, is_gone_right, is_place, is_range, memory_at, next_block, place_at, place_len, segment_step, swap_at}
use Rattle.o2_dump_laws.specs.Whole.{AreBlocksWhole, AreSegmentsWhole, IsBlockWhole, IsPlaceWhole, IsSegmentWhole}
use Rattle.o2_dump_laws.proofs.Fields.{StandsAt, at_most, byte_at_is, ten_hold, file_length, both_true, fits_in, goes_on, long_is, one_holds, passes, stands_next, string_is, three_hold, two_hold, word_is}

-- ---- blocks

as_block : (n : ℕ) (bytes : List ℕ) (b : Block) → n ≡ b.number → bytes ≡ b.bytes → record { number = n; bytes = bytes } ≡ b
as_block n bytes b e f =
    ap (λ (z : ℕ). let x : Block = record { number = z; bytes = bytes } in x) e
    ∙ ap (λ (z : List ℕ). let x : Block = record { number = b.number; bytes = z } in x) f

module _ (file : List ℕ) (p to q : ℕ) (b : Block) (rest : List ℕ) (blocks : ℕ) (found : List SegmentEntry) (own : List Block) (whole_b : IsBlockWhole blocks found own b)
    (at : StandsAt file q (block_bytes b ++ rest)) (next : next_block to own ≡ q) where
  number_is : long_at file q ≡ b.number
  number_is = long_is file q q 0 b.number (block_bytes b ++ rest) at (omega arith) refl refl refl refl whole_b.number

  bytes_are : string_at file (q + 4) 512 ≡ b.bytes
  bytes_are =
      let here : StandsAt file (q + 4) (b.bytes ++ rest) = stands_next file q (q + 4) _ (long b.number) _ at refl refl in
      string_is file (q + 4) 512 b.bytes rest here (sym whole_b.size)

  room : q + 516 ≤ length file
  room =
      let e : length file ≡ q + length (block_bytes b ++ rest) = file_length file q _ at in
      let f : length (block_bytes b ++ rest) ≡ length (block_bytes b) + length rest = length-append (block_bytes b) rest in
      let g : length (block_bytes b) ≡ 4 + length b.bytes = length-append (long b.number) b.bytes in
      omega (arith, e, f, g, whole_b.size)

  checks : all_hold (block_checks file blocks found p own q) ≡ Ok tt
  checks =
      let free : is_block blocks found own (long_at file q) ≡ true = ap (is_block blocks found own) number_is ∙ whole_b.free in
      three_hold _ _ _ (fits_in file q 4 (omega (arith, room))) free (fits_in file (q + 4) 512 (omega (arith, room)))

  pub block_step_is : block_step file blocks found p to own ≡ Ok (own ++ b ∷ [])
  unfolding block_step
  block_step_is =
      ap (λ (z : ℕ). all_hold (block_checks file blocks found p own z) >>= (λ _. let r : Result (List Block) CoreFault = Ok (own ++ block_at file z ∷ []) in r)) next
      ∙ passes _ _ _ checks (ap (λ (z : Block). own ++ z ∷ []) (as_block _ _ b number_is bytes_are))

one_block : (f : List Block → Result (List Block) CoreFault) (n : ℕ) (a b : List Block) (c : Result (List Block) CoreFault) → f a ≡ Ok b → steps f n b ≡ c → steps f (suc n) a ≡ c
unfolding steps
one_block f n a b c e g = rw e g

no_block : (f : List Block → Result (List Block) CoreFault) (a : List Block) → steps f 0 a ≡ Ok a
unfolding steps
no_block f a = refl

pub blocks_run : (bs : List Block) (file : List ℕ) (p to q : ℕ) (rest : List ℕ) (blocks : ℕ) (found : List SegmentEntry) (own : List Block) → AreBlocksWhole blocks found own bs
    → StandsAt file q (flat_map block_bytes bs ++ rest) → next_block to own ≡ q → steps (block_step file blocks found p to) (length bs) own ≡ Ok (own ++ bs)
blocks_run [] file p to q rest blocks found own whole at next = no_block _ own ∙ ap (λ (z : List Block). let r : Result (List Block) CoreFault = Ok z in r) (sym (append-nil own))
blocks_run (b ∷ bs) file p to q rest blocks found own whole at next =
    let tail = flat_map block_bytes bs ++ rest in
    let regroup : (block_bytes b ++ flat_map block_bytes bs) ++ rest ≡ block_bytes b ++ tail = append_assoc (block_bytes b) (flat_map block_bytes bs) rest in
    let here : StandsAt file q (block_bytes b ++ tail) = record { front = at.front; splits = at.splits ∙ ap (λ (z : List ℕ). at.front ++ z) regroup; place = at.place } in
    let size : length (block_bytes b) ≡ 516 = (let g : length (block_bytes b) ≡ 4 + length b.bytes = length-append (long b.number) b.bytes in omega (arith, g, whole.0.size)) in
    let there : StandsAt file (q + 516) tail = stands_next file q (q + 516) _ (block_bytes b) _ here refl (omega (arith, size)) in
    let more : length (own ++ b ∷ []) ≡ length own + 1 = length-append own (b ∷ []) in
    let behind : next_block to (own ++ b ∷ []) ≡ q + 516 = omega (arith, next, more) in
    one_block _ _ _ _ _ (block_step_is file p to q b tail blocks found own whole.0 here next)
    (blocks_run bs file p to (q + 516) rest blocks found (own ++ b ∷ []) whole.1 there behind
    ∙ ap (λ (z : List Block). let r : Result (List Block) CoreFault = Ok z in r) (append_assoc own (b ∷ []) bs))

blocks_length : (bs : List Block) (blocks : ℕ) (found : List SegmentEntry) (own : List Block) → AreBlocksWhole blocks found own bs → length (flat_map block_bytes bs) ≡ 516 * length bs
blocks_length [] blocks found own whole = refl
blocks_length (b ∷ bs) blocks found own whole =
    let more : length (block_bytes b ++ flat_map block_bytes bs) ≡ length (block_bytes b) + length (flat_map block_bytes bs) = length-append (block_bytes b) (flat_map block_bytes bs) in
    let g : length (block_bytes b) ≡ 4 + length b.bytes = length-append (long b.number) b.bytes in
    let rest : length (flat_map block_bytes bs) ≡ 516 * length bs = blocks_length bs blocks found (own ++ b ∷ []) whole.1 in
    omega (arith, more, g, whole.0.size, rest)

pub place_length : (pl : Place) (memory blocks : ℕ) (found : List SegmentEntry) (size kept : ℕ) → IsPlaceWhole memory blocks found size kept pl → length (place_bytes pl) ≡ place_len pl
place_length Zeros memory blocks found size kept whole = refl
place_length (Image m k) memory blocks found size kept whole = refl
place_length (Memory base) memory blocks found size kept whole = refl
place_length (Swap bs) memory blocks found size kept whole =
    let e : length (place_bytes (Swap bs)) ≡ 4 + length (flat_map block_bytes bs) = length-append (long (length bs)) (flat_map block_bytes bs) in
    omega (arith, e, blocks_length bs blocks found [] whole.1)

-- ---- one segment

bit_back : (c : Bool) → (bit c == 1) ≡ c
bit_back true = refl
bit_back false = refl

small_bit : (c : Bool) → bit c ≤ 1
small_bit true = omega arith
small_bit false = omega arith

as_entry : (size kept flags lock : ℕ) (clean gone : Bool) (pl : Place) (e : SegmentEntry) → size ≡ e.size → kept ≡ e.kept → flags ≡ e.flags → lock ≡ e.lock → clean ≡ e.clean → gone ≡ e.gone → pl ≡ e.place
    → record { size = size; kept = kept; flags = flags; lock = lock; clean = clean; gone = gone; place = pl } ≡ e
as_entry size kept flags lock clean gone pl e a b c d f h g =
    ap (λ (z : ℕ). let x : SegmentEntry = record { size = z; kept = kept; flags = flags; lock = lock; clean = clean; gone = gone; place = pl } in x) a
    ∙ (ap (λ (z : ℕ). let x : SegmentEntry = record { size = e.size; kept = z; flags = flags; lock = lock; clean = clean; gone = gone; place = pl } in x) b
    ∙ (ap (λ (z : ℕ). let x : SegmentEntry = record { size = e.size; kept = e.kept; flags = z; lock = lock; clean = clean; gone = gone; place = pl } in x) c
    ∙ (ap (λ (z : ℕ). let x : SegmentEntry = record { size = e.size; kept = e.kept; flags = e.flags; lock = z; clean = clean; gone = gone; place = pl } in x) d
    ∙ (ap (λ (z : Bool). let x : SegmentEntry = record { size = e.size; kept = e.kept; flags = e.flags; lock = e.lock; clean = z; gone = gone; place = pl } in x) f
    ∙ (ap (λ (z : Bool). let x : SegmentEntry = record { size = e.size; kept = e.kept; flags = e.flags; lock = e.lock; clean = e.clean; gone = z; place = pl } in x) h
    ∙ ap (λ (z : Place). let x : SegmentEntry = record { size = e.size; kept = e.kept; flags = e.flags; lock = e.lock; clean = e.clean; gone = e.gone; place = z } in x) g)))))

-- what stands of a segment in front of its place
abbrev front_of : SegmentEntry → List ℕ
front_of e = long e.size ++ long e.kept ++ (e.flags ∷ e.lock ∷ bit e.clean ∷ place_number e.place ∷ bit e.gone ∷ [])

-- a place, by what stands behind the front
module _ (file : List ℕ) (p : ℕ) (rest : List ℕ) (memory blocks : ℕ) (found : List SegmentEntry) (size kept : ℕ) (size_there : long_at file p ≡ size) (kept_there : long_at file (p + 4) ≡ kept)
    (small : blocks_for kept < 2 ^ 32) where
  image_is : (m k : ℕ) → m < 2 ^ 16 → k < 2 ^ 16 → StandsAt file (p + 13) (place_bytes (Image m k) ++ rest) → image_at file (p + 13) ≡ Ok (Image m k)
  unfolding image_at
  image_is m k a b at =
      let first : word_at file (p + 13) ≡ m = word_is file (p + 13) (p + 13) 0 m _ at (omega arith) refl refl a in
      let second : word_at file (p + 13 + 2) ≡ k = word_is file (p + 13) (p + 13 + 2) 2 k _ at (omega arith) refl refl b in
      let room : p + 13 + 4 ≤ length file = (let e : length file ≡ p + 13 + length (place_bytes (Image m k) ++ rest) = file_length file (p + 13) _ at in omega (arith, e)) in
      passes _ _ _ (one_holds _ (fits_in file (p + 13) 4 room)) (ap (λ (z : ℕ). Image z (word_at file (p + 13 + 2))) first ∙ ap (Image m) second)

  memory_is : (base : ℕ) → base < 2 ^ 32 → is_range memory found base size ≡ true → StandsAt file (p + 13) (place_bytes (Memory base) ++ rest) → memory_at file memory found p (p + 13) ≡ Ok (Memory base)
  unfolding memory_at
  memory_is base a free at =
      let base_is : long_at file (p + 13) ≡ base = long_is file (p + 13) (p + 13) 0 base _ at (omega arith) refl refl refl refl a in
      let room : p + 13 + 4 ≤ length file = (let e : length file ≡ p + 13 + length (place_bytes (Memory base) ++ rest) = file_length file (p + 13) _ at in omega (arith, e)) in
      let right_is : is_range memory found (long_at file (p + 13)) (long_at file p) ≡ true =
      ap (λ (z : ℕ). is_range memory found z (long_at file p)) base_is ∙ (ap (is_range memory found base) size_there ∙ free) in
      passes _ _ _ (two_hold _ _ (fits_in file (p + 13) 4 room) right_is) (ap Memory base_is)

  swap_is : (bs : List Block) → length bs ≡ blocks_for kept → AreBlocksWhole blocks found [] bs → StandsAt file (p + 13) (place_bytes (Swap bs) ++ rest) → swap_at file blocks found p (p + 13) ≡ Ok (Swap bs)
  unfolding swap_at
  swap_is bs many ok at =
      let few : length bs < 2 ^ 32 = omega (arith, many, small) in
      let count_is : long_at file (p + 13) ≡ length bs = long_is file (p + 13) (p + 13) 0 (length bs) _ at (omega arith) refl refl refl refl few in
      let room : p + 13 + 4 ≤ length file = (let e : length file ≡ p + 13 + length (place_bytes (Swap bs) ++ rest) = file_length file (p + 13) _ at in omega (arith, e)) in
      let told : (long_at file (p + 13) == blocks_for (long_at file (p + 4))) ≡ true =
      ap (λ (z : ℕ). z == blocks_for (long_at file (p + 4))) count_is ∙ (ap (λ (z : ℕ). length bs == blocks_for z) kept_there ∙ eq-eqb (length bs) (blocks_for kept) many) in
      let counted : count_at file p (p + 13) ≡ Ok (length bs) = passes _ _ _ (two_hold _ _ (fits_in file (p + 13) 4 room) told) count_is in
      let behind : StandsAt file (p + 17) (flat_map block_bytes bs ++ rest) =
      stands_next file (p + 13) (p + 17) _ (long (length bs)) _ at (append_assoc (long (length bs)) (flat_map block_bytes bs) rest) (omega arith) in
      let all : steps (block_step file blocks found p (p + 13)) (length bs) [] ≡ Ok bs = blocks_run bs file p (p + 13) (p + 17) rest blocks found [] ok behind (omega arith) in
      goes_on _ _ _ _ counted (goes_on _ _ _ _ all refl)

  pub place_is : (pl : Place) → byte_at file (p + 11) ≡ place_number pl → IsPlaceWhole memory blocks found size kept pl → StandsAt file (p + 13) (place_bytes pl ++ rest)
      → place_at file memory blocks found p (p + 13) ≡ Ok pl
  unfolding place_at
  place_is Zeros number ok at = rw number refl
  place_is (Image m k) number ok at = rw number (image_is m k ok.0 ok.1 at)
  place_is (Memory base) number ok at = rw number (memory_is base ok.0 ok.1 at)
  place_is (Swap bs) number ok at = rw number (swap_is bs ok.0 ok.1 at)

module _ (file : List ℕ) (p : ℕ) (e : SegmentEntry) (rest : List ℕ) (memory blocks : ℕ) (found : List SegmentEntry) (ok : IsSegmentWhole memory blocks found e)
    (at : StandsAt file p (segment_bytes e ++ rest)) where
  size_is : long_at file p ≡ e.size
  size_is = long_is file p p 0 e.size (segment_bytes e ++ rest) at (omega arith) refl refl refl refl (omega (arith, ok.most))

  kept_is : long_at file (p + 4) ≡ e.kept
  kept_is = long_is file p (p + 4) 4 e.kept (segment_bytes e ++ rest) at refl refl refl refl refl (omega (arith, ok.most, ok.kept))

  flags_are : byte_at file (p + 8) ≡ e.flags
  flags_are = byte_at_is file p (p + 8) 8 e.flags (segment_bytes e ++ rest) at refl refl

  lock_is : byte_at file (p + 9) ≡ e.lock
  lock_is = byte_at_is file p (p + 9) 9 e.lock (segment_bytes e ++ rest) at refl refl

  clean_is : byte_at file (p + 10) ≡ bit e.clean
  clean_is = byte_at_is file p (p + 10) 10 (bit e.clean) (segment_bytes e ++ rest) at refl refl

  place_number_is : byte_at file (p + 11) ≡ place_number e.place
  place_number_is = byte_at_is file p (p + 11) 11 (place_number e.place) (segment_bytes e ++ rest) at refl refl

  gone_is : byte_at file (p + 12) ≡ bit e.gone
  gone_is = byte_at_is file p (p + 12) 12 (bit e.gone) (segment_bytes e ++ rest) at refl refl

  behind_front : StandsAt file (p + 13) (place_bytes e.place ++ rest)
  behind_front = stands_next file p (p + 13) _ (front_of e) _ at (append_assoc (front_of e) (place_bytes e.place) rest) refl

  entry_room : p + 13 ≤ length file
  entry_room = let x : length file ≡ p + 13 + length (place_bytes e.place ++ rest) = file_length file (p + 13) _ behind_front in omega (arith, x)

  entry_holds : all_hold (entry_checks file 13 p) ≡ Ok tt
  entry_holds =
      let sized : (nat_le 1 (long_at file p) && nat_le (long_at file p) 65536) ≡ true = rw size_is (both_true _ _ (at_most 1 e.size ok.some) (at_most e.size 65536 ok.most)) in
      let within : nat_le (long_at file (p + 4)) (long_at file p) ≡ true = rw (kept_is, size_is) (at_most e.kept e.size ok.kept) in
      let small : nat_le (byte_at file (p + 10)) 1 ≡ true = rw clean_is (at_most (bit e.clean) 1 (small_bit e.clean)) in
      let fits : is_place (byte_at file (p + 11)) (long_at file (p + 4)) (long_at file p) ≡ true =
      ap (λ (z : ℕ). is_place z (long_at file (p + 4)) (long_at file p)) place_number_is
      ∙ (ap (λ (z : ℕ). is_place (place_number e.place) z (long_at file p)) kept_is
      ∙ (ap (λ (z : ℕ). is_place (place_number e.place) e.kept z) size_is ∙ ok.fits)) in
      let mark : is_gone_right (byte_at file (p + 12)) (byte_at file (p + 11)) (byte_at file (p + 8)) (byte_at file (p + 9)) ≡ true =
      ap (λ (z : ℕ). is_gone_right z (byte_at file (p + 11)) (byte_at file (p + 8)) (byte_at file (p + 9))) gone_is
      ∙ (ap (λ (z : ℕ). is_gone_right (bit e.gone) z (byte_at file (p + 8)) (byte_at file (p + 9))) place_number_is
      ∙ (ap (λ (z : ℕ). is_gone_right (bit e.gone) (place_number e.place) z (byte_at file (p + 9))) flags_are
      ∙ (ap (λ (z : ℕ). is_gone_right (bit e.gone) (place_number e.place) e.flags z) lock_is ∙ ok.gone))) in
      ten_hold _ _ _ _ _ _ _ _ _ _ (fits_in file p 4 (omega (arith, entry_room))) sized (fits_in file (p + 4) 4 (omega (arith, entry_room))) within
      (fits_in file (p + 8) 3 (omega (arith, entry_room))) small (fits_in file (p + 11) 1 (omega (arith, entry_room))) fits (fits_in file p 13 entry_room) mark

  entry_is : entry_of file 13 memory blocks found p ≡ Ok e
  unfolding entry_of
  entry_is =
      let few : blocks_for e.kept < 2 ^ 32 = omega (arith, ok.kept, ok.most) in
      goes_on _ tt _ _ entry_holds
      (goes_on _ _ _ _ (place_is file p rest memory blocks found e.size e.kept size_is kept_is few e.place place_number_is ok.place behind_front)
      (ap Ok (as_entry _ _ _ _ _ _ _ e size_is kept_is flags_are lock_is (ap (λ (z : ℕ). z == 1) clean_is ∙ bit_back e.clean) (ap (λ (z : ℕ). z == 1) gone_is ∙ bit_back e.gone) refl)))

  pub segment_step_is : (q : ℕ) → q ≡ p + length (segment_bytes e) → segment_step file 13 memory blocks (record { found = found; place = p }) ≡ Ok (record { found = found ++ e ∷ []; place = q })
  unfolding segment_step
  segment_step_is q reaches =
      let long_place : length (place_bytes e.place) ≡ place_len e.place = place_length e.place memory blocks found e.size e.kept ok.place in
      let whole_length : length (segment_bytes e) ≡ 13 + length (place_bytes e.place) = length-append (front_of e) (place_bytes e.place) in
      let ends : p + 13 + place_len e.place ≡ q = omega (arith, reaches, long_place, whole_length) in
      goes_on _ _ _ _ entry_is (ap (λ (z : ℕ). let r : SegmentsSoFar = record { found = found ++ e ∷ []; place = z } in Ok r) ends)

-- ---- all

one_more : (f : SegmentsSoFar → Result SegmentsSoFar CoreFault) (n : ℕ) (a b : SegmentsSoFar) (c : Result SegmentsSoFar CoreFault) → f a ≡ Ok b → steps f n b ≡ c → steps f (suc n) a ≡ c
unfolding steps
one_more f n a b c e g = rw e g

no_more : (f : SegmentsSoFar → Result SegmentsSoFar CoreFault) (a : SegmentsSoFar) → steps f 0 a ≡ Ok a
unfolding steps
no_more f a = refl

pub segments_run : (es : List SegmentEntry) (file : List ℕ) (a b : ℕ) (rest : List ℕ) (memory blocks : ℕ) (found : List SegmentEntry) → AreSegmentsWhole memory blocks found es
    → StandsAt file a (flat_map segment_bytes es ++ rest) → b ≡ a + length (flat_map segment_bytes es)
    → steps (segment_step file 13 memory blocks) (length es) (record { found = found; place = a }) ≡ Ok (record { found = found ++ es; place = b })
segments_run [] file a b rest memory blocks found ok at e =
    no_more _ _
    ∙ (ap (λ (z : List SegmentEntry). let r : SegmentsSoFar = record { found = z; place = a } in Ok r) (sym (append-nil found))
    ∙ ap (λ (z : ℕ). let r : SegmentsSoFar = record { found = found ++ []; place = z } in Ok r) (let f : a ≡ b = omega arith in f))
segments_run (x ∷ es) file a b rest memory blocks found ok at e =
    let tail = flat_map segment_bytes es ++ rest in
    let regroup : (segment_bytes x ++ flat_map segment_bytes es) ++ rest ≡ segment_bytes x ++ tail = append_assoc (segment_bytes x) (flat_map segment_bytes es) rest in
    let here : StandsAt file a (segment_bytes x ++ tail) = record { front = at.front; splits = at.splits ∙ ap (λ (z : List ℕ). at.front ++ z) regroup; place = at.place } in
    let mid : ℕ = a + length (segment_bytes x) in
    let next : StandsAt file mid tail = stands_next file a mid _ (segment_bytes x) _ here refl refl in
    let behind : b ≡ mid + length (flat_map segment_bytes es) = omega (arith, e, length-append (segment_bytes x) (flat_map segment_bytes es)) in
    one_more _ _ _ _ _ (segment_step_is file a x tail memory blocks found ok.0 here mid refl)
    (segments_run es file mid b rest memory blocks (found ++ x ∷ []) ok.1 next behind
    ∙ ap (λ (z : List SegmentEntry). let r : SegmentsSoFar = record { found = z; place = b } in Ok r) (append_assoc found (x ∷ []) es))
