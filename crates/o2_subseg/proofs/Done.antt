-- What each call leaves when it is done, as units.
use Rattle.std.proofs.Common.{◌≡◌, ◌≢◌, ◌⊎◌, ℕ, ◌+◌, ◌-◌, ◌*◌, ◌/◌, ◌%◌, ◌<◌, ◌≤◌, Bool, true, false, not, ◌&&◌, ◌||◌, ◌==◌, nat_le, nat_lt, List, [], ◌∷◌, length, map, Option, Some, None, option_map, if◌then◌else◌, refl, sym, ap, subst, ◌∙◌, inl, inr, arith}
use Rattle.std.proofs.lemmas.Bool.{cases_lt}
use Rattle.std.proofs.lemmas.Bool.Decides.{nat_tests}
use Rattle.std.proofs.lemmas.List.FromFn.{get_or-map-range_with_len, length-map-range_with_len}
use Rattle.std.proofs.lemmas.List.{get_or_past}
use Rattle.std.specs.List.{range_with_len}
use Rattle.o2_world.specs.Heaps.{Heap, heap_of, units, is_free}
use Rattle.o2_world.specs.HeapRulings.{HeapRuling, refuses, leaves, rounded, take_from, insert, meets, taken, taking_of, taking, is_outside, giving_back_to, giving_back}
use Rattle.o2_subseg.specs.Laws.{unit_at, is_among, AreFree, HasHeap}
use Rattle.o2_subseg.proofs.Chains.{IsBlock, AreLaid, IsHeap}
use Rattle.o2_subseg.proofs.Units.{lies_in, taken_free, taken_laid, LeavesFree, AreLeft, inserted_free, inserted_laid, IsTakenBy, run_taken}
use Rattle.o2_subseg.proofs.Written.{IsFit, written_read, others_stay}

-- a unit is free where its first byte is
pub unit_is : (h : Heap) (k : ℕ) → k < h.size / 4 → unit_at h k ≡ is_free h.blocks (4 * k)
unfolding units
unit_is h k l = get_or-map-range_with_len (λ j. is_free h.blocks (4 * j)) 0 (h.size / 4) k k false l (omega arith)

-- no unit behind the heap is free
pub unit_past : (h : Heap) (k : ℕ) → h.size / 4 ≤ k → unit_at h k ≡ false
unfolding units
unit_past h k l = get_or_past (map (λ j. is_free h.blocks (4 * j)) (range_with_len 0 (h.size / 4))) k false
    (rw length-map-range_with_len l)

pub is_le : (a b : ℕ) → a ≤ b → nat_le a b ≡ true
is_le a b h = grind (arith, nat_tests)

pub not_le : (a b : ℕ) → b < a → nat_le a b ≡ false
not_le a b h = grind (arith, nat_tests)

pub is_lt : (a b : ℕ) → a < b → nat_lt a b ≡ true
is_lt a b h = grind (arith, nat_tests)

pub not_lt : (a b : ℕ) → b ≤ a → nat_lt a b ≡ false
not_lt a b h = grind (arith, nat_tests)

pub no_less : (a b : ℕ) → nat_lt a b ≡ false → b ≤ a
no_less a b h = grind (arith, nat_tests)

pub equal : (a b : ℕ) → (a == b) ≡ true → a ≡ b
equal a b h = grind (arith, nat_tests)

pub not_zero : (a : ℕ) → (a == 0) ≡ false → a ≢ 0
not_zero a h = grind (arith, nat_tests)

pub differ : true ≡ false → ⊥
differ e = cc

or_first : (a b : Bool) → (a || b) ≡ false → a ≡ false
or_first true b h = h
or_first false b h = refl

or_second : (a b : Bool) → (a || b) ≡ false → b ≡ false
or_second true b h = absurd (differ h)
or_second false b h = h

pub same_le : (a b c d : ℕ) → (a ≤ b) ⊎ (b < a) → (a ≤ b → c ≤ d) → (b < a → d < c) → nat_le a b ≡ nat_le c d
same_le a b c d (inl h) f g = rw (is_le a b h, is_le c d (f h)) refl
same_le a b c d (inr h) f g = rw (not_le a b h, not_le c d (g h)) refl

pub same_lt : (a b c d : ℕ) → (a < b) ⊎ (b ≤ a) → (a < b → c < d) → (b ≤ a → d ≤ c) → nat_lt a b ≡ nat_lt c d
same_lt a b c d (inl h) f g = rw (is_lt a b h, is_lt c d (f h)) refl
same_lt a b c d (inr h) f g = rw (not_lt a b h, not_lt c d (g h)) refl

turn : {P Q : Type 0} → P ⊎ Q → Q ⊎ P
turn (inl p) = inr p
turn (inr q) = inl q

pub le_or : (a b : ℕ) → (a ≤ b) ⊎ (b < a)
le_or a b = turn (cases_lt b a)

pub lt_or : (a b : ℕ) → (a < b) ⊎ (b ≤ a)
lt_or a b = cases_lt a b

-- of bytes in a range, those of whole units
pub among : (at len k : ℕ) → at % 4 ≡ 0 → len % 4 ≡ 0 → lies_in at len (4 * k) ≡ is_among (at / 4) (len / 4) k
among at len k a l =
    let low = same_le at (4 * k) (at / 4) k (le_or at (4 * k)) (λ h. omega (arith, a, h)) (λ h. omega (arith, a, h)) in
    let high = same_lt (4 * k) (at + len) k (at / 4 + len / 4) (lt_or (4 * k) (at + len)) (λ h. omega (arith, a, l, h)) (λ h. omega (arith, a, l, h)) in
    rw (low, high) refl

-- what DosSubAlloc took
pub record TakeDone (size : ℕ) (bytes : List ℕ) (h : Heap) : Type 0 where
  pub value : ℕ
  pub left : List (ℕ × ℕ)
  pub some : size ≢ 0
  pub fits : size ≤ h.size - 8
  pub taken : take_from (rounded size) h.blocks ≡ Some (value, left)
  pub ruling : taking size bytes ≡ leaves value (record { size = h.size; blocks = left }) bytes

in_units : (from count k : ℕ) → from ≤ k → k < from + count → is_among from count k ≡ true
in_units from count k h l = grind (arith, nat_tests)

unit_case : (h : Heap) (k : ℕ) → unit_at h k ≡ true → (k < h.size / 4) ⊎ (h.size / 4 ≤ k) → k < h.size / 4
unit_case h k u (inl l) = l
unit_case h k u (inr l) = absurd (differ (sym u ∙ unit_past h k l))

-- a unit that is free is one of the heap
pub unit_inside : (h : Heap) (k : ℕ) → unit_at h k ≡ true → k < h.size / 4
unit_inside h k u = unit_case h k u (lt_or k (h.size / 4))

take_done_of : (size : ℕ) (bytes : List ℕ) (h : Heap) (r : Option (ℕ × List (ℕ × ℕ))) → take_from (rounded size) h.blocks ≡ r → size ≢ 0 → size ≤ h.size - 8
    → taking size bytes ≡ taken r h.size bytes → (taken r h.size bytes).error ≡ 0 → TakeDone size bytes h
unfolding taken
take_done_of size bytes h None e n fits is z = absurd (omega (arith, z))
take_done_of size bytes h (Some (v, left)) e n fits is z = record { value = v; left = left; some = n; fits = fits; taken = e; ruling = is }

take_arms : (size : ℕ) (bytes : List ℕ) (h : Heap) (bad : Bool) → ((size == 0) || nat_lt (h.size - 8) size) ≡ bad
    → taking size bytes ≡ (if bad then refuses 313 bytes else taken (take_from (rounded size) h.blocks) h.size bytes)
    → (taking size bytes).error ≡ 0 → TakeDone size bytes h
take_arms size bytes h true e is z = absurd (omega (arith, sym (ap (λ (r : HeapRuling). r.error) is) ∙ z))
take_arms size bytes h false e is z =
    take_done_of size bytes h (take_from (rounded size) h.blocks) refl (not_zero size (or_first (size == 0) (nat_lt (h.size - 8) size) e))
    (no_less (h.size - 8) size (or_second (size == 0) (nat_lt (h.size - 8) size) e)) is (sym (ap (λ (r : HeapRuling). r.error) is) ∙ z)

pub taking_is : (size : ℕ) (bytes : List ℕ) (h : Heap) → heap_of bytes ≡ Some h
    → taking size bytes ≡ (if (size == 0) || nat_lt (h.size - 8) size then refuses 313 bytes else taken (take_from (rounded size) h.blocks) h.size bytes)
unfolding taking taking_of
taking_is size bytes h e = ap (λ o. taking_of o size bytes) e

-- what DosSubAlloc does where it answers 0
pub take_done : (size : ℕ) (bytes : List ℕ) (h : Heap) → heap_of bytes ≡ Some h → (taking size bytes).error ≡ 0 → TakeDone size bytes h
take_done size bytes h e z =
    take_arms size bytes h ((size == 0) || nat_lt (h.size - 8) size) refl (taking_is size bytes h e) z

fit_of : (bytes : List ℕ) (h : Heap) (blocks : List (ℕ × ℕ)) → IsHeap bytes h → AreLaid h.size 8 blocks → IsFit (length bytes) (record { size = h.size; blocks = blocks })
fit_of bytes h blocks i laid = record { whole = i.whole; low = i.low; within = i.within; laid = laid }

left_laid : (size count : ℕ) (bs : List (ℕ × ℕ)) (value : ℕ) (left : List (ℕ × ℕ)) → count % 4 ≡ 0 → AreLaid size 8 bs → take_from count bs ≡ Some (value, left)
    → AreLaid size 8 left
left_laid size count bs value left w l e =
    let P : Option (ℕ × List (ℕ × ℕ)) → Type 0 = λ r. AreLeft size 8 r in
    (subst P e (taken_laid size 8 count bs w l)).1

left_free : (size count x : ℕ) (bs : List (ℕ × ℕ)) (value : ℕ) (left : List (ℕ × ℕ)) → AreLaid size 8 bs → take_from count bs ≡ Some (value, left)
    → is_free left x ≡ (is_free bs x && not (lies_in value count x))
left_free size count x bs value left l e =
    let P : Option (ℕ × List (ℕ × ℕ)) → Type 0 = λ r. LeavesFree 8 bs count r x in
    (subst P e (taken_free size 8 count x bs l)).1

-- the offset of what is taken is a multiple of 4
abbrev WholeValue : Option (ℕ × List (ℕ × ℕ)) → Type 0
WholeValue None = Unit {0}
WholeValue (Some t) = t.0 % 4 ≡ 0

whole_later : (at len : ℕ) (r : Option (ℕ × List (ℕ × ℕ))) → WholeValue r → WholeValue (option_map (λ t. (t.0, (at, len) ∷ t.1)) r)
whole_later at len None w = tt
whole_later at len (Some (v, left)) w = w

whole_arms : (at len count : ℕ) (bs : List (ℕ × ℕ)) (fits : Bool) → at % 4 ≡ 0 → WholeValue (take_from count bs)
    → WholeValue (if fits then Some (at, (if count == len then bs else (at + count, len - count) ∷ bs)) else option_map (λ t. (t.0, (at, len) ∷ t.1)) (take_from count bs))
whole_arms at len count bs true w later = w
whole_arms at len count bs false w later = whole_later at len (take_from count bs) later

whole_value : (size low count : ℕ) (bs : List (ℕ × ℕ)) → AreLaid size low bs → WholeValue (take_from count bs)
whole_value size low count [] l = tt
whole_value size low count ((at, len) ∷ bs) l = whole_arms at len count bs (nat_le count len) l.0.whole (whole_value size (at + len + 1) count bs l.1)

pub value_whole : (size count : ℕ) (bs : List (ℕ × ℕ)) (value : ℕ) (left : List (ℕ × ℕ)) → AreLaid size 8 bs → take_from count bs ≡ Some (value, left) → value % 4 ≡ 0
value_whole size count bs value left l e =
    let P : Option (ℕ × List (ℕ × ℕ)) → Type 0 = λ r. WholeValue r in subst P e (whole_value size 8 count bs l)

pub rounded_whole : (size : ℕ) → rounded size % 4 ≡ 0
unfolding rounded
rounded_whole size = omega arith

pub rounded_long : (size : ℕ) → size ≢ 0 → 4 ≤ rounded size
unfolding rounded
rounded_long size h = omega arith

unit_parts : (a b c d : Bool) → a ≡ b → c ≡ d → (a && not c) ≡ (b && not d)
unit_parts a b c d e f = rw (e, f) refl

or_turned : (x y : Bool) → (x || y) ≡ (y || x)
or_turned true true = refl
or_turned true false = refl
or_turned false true = refl
or_turned false false = refl

pub turned : (a b c d : Bool) → a ≡ b → c ≡ d → (c || a) ≡ (b || d)
turned a b c d e f = rw (e, f) (or_turned d b)

-- the heap that DosSubAlloc leaves, and its units
pub take_leaves : (size : ℕ) (bytes : List ℕ) (h : Heap) → IsHeap bytes h → TakeDone size bytes h
    → HasHeap bytes (taking size bytes).bytes h.size (λ k. unit_at h k && not (is_among ((taking size bytes).value / 4) (rounded size / 4) k))
take_leaves size bytes h i d =
    let g : Heap = record { size = h.size; blocks = d.left } in
    let fit = fit_of bytes h d.left i (left_laid h.size (rounded size) h.blocks d.value d.left (rounded_whole size) i.chain.laid d.taken) in
    let v = value_whole h.size (rounded size) h.blocks d.value d.left i.chain.laid d.taken in
    let P : HeapRuling → Type 0 = λ r. HasHeap bytes r.bytes h.size (λ k. unit_at h k && not (is_among (r.value / 4) (rounded size / 4) k)) in
    subst P (sym d.ruling) (record {
      heap = g;
      is = written_read bytes g fit;
      sized = refl;
      others = λ i o. others_stay bytes g i o;
      each = λ k l. unit_is g k l
          ∙ left_free h.size (rounded size) (4 * k) h.blocks d.value d.left i.chain.laid d.taken
          ∙ unit_parts (is_free h.blocks (4 * k)) (unit_at h k) (lies_in d.value (rounded size) (4 * k)) (is_among (d.value / 4) (rounded size / 4) k)
          (sym (unit_is h k l)) (among d.value (rounded size) k v (rounded_whole size));
    })

-- what DosSubFree gave back
pub record FreeDone (offset size : ℕ) (bytes : List ℕ) (h : Heap) : Type 0 where
  pub some : size ≢ 0
  pub whole : offset % 4 ≡ 0
  pub low : 8 ≤ offset
  pub high : offset + rounded size ≤ h.size
  pub clear : meets offset (offset + rounded size) h.blocks ≡ false
  pub ruling : giving_back offset size bytes ≡ leaves 0 (record { size = h.size; blocks = insert (offset, rounded size) h.blocks }) bytes

range_parts : (a b c d : Bool) → ((a || not b) || (c || d)) ≡ false → (a ≡ false) × (b ≡ true) × (c ≡ false) × (d ≡ false)
range_parts true b c d h = absurd (differ h)
range_parts false false c d h = absurd (differ h)
range_parts false true true d h = absurd (differ h)
range_parts false true false true h = absurd (differ h)
range_parts false true false false h = (refl, refl, refl, refl)

free_arms : (offset size : ℕ) (bytes : List ℕ) (h : Heap) (bad met : Bool) → is_outside size offset (rounded size) h.size ≡ bad
    → meets offset (offset + rounded size) h.blocks ≡ met
    → giving_back offset size bytes ≡ (if bad then refuses 313 bytes else if met then refuses 312 bytes
    else leaves 0 (record { size = h.size; blocks = insert (offset, rounded size) h.blocks }) bytes)
    → (giving_back offset size bytes).error ≡ 0 → FreeDone offset size bytes h
free_arms offset size bytes h true met e m is z = absurd (omega (arith, sym (ap (λ (r : HeapRuling). r.error) is) ∙ z))
free_arms offset size bytes h false true e m is z = absurd (omega (arith, sym (ap (λ (r : HeapRuling). r.error) is) ∙ z))
free_arms offset size bytes h false false e m is z =
    let p = range_parts (size == 0) (offset % 4 == 0) (nat_lt offset 8) (nat_lt h.size (offset + rounded size)) e in
    record {
      some = not_zero size p.0;
      whole = equal (offset % 4) 0 p.1;
      low = no_less offset 8 p.2;
      high = no_less h.size (offset + rounded size) p.3;
      clear = m;
      ruling = is;
    }

giving_is : (offset size : ℕ) (bytes : List ℕ) (h : Heap) → heap_of bytes ≡ Some h
    → giving_back offset size bytes ≡ (if is_outside size offset (rounded size) h.size then refuses 313 bytes else if meets offset (offset + rounded size) h.blocks then refuses 312 bytes
    else leaves 0 (record { size = h.size; blocks = insert (offset, rounded size) h.blocks }) bytes)
unfolding giving_back giving_back_to
giving_is offset size bytes h e = ap (λ o. giving_back_to o offset size bytes) e

-- what DosSubFree does where it answers 0
pub free_done : (offset size : ℕ) (bytes : List ℕ) (h : Heap) → heap_of bytes ≡ Some h → (giving_back offset size bytes).error ≡ 0 → FreeDone offset size bytes h
free_done offset size bytes h e z =
    free_arms offset size bytes h (is_outside size offset (rounded size) h.size) (meets offset (offset + rounded size) h.blocks) refl refl (giving_is offset size bytes h e) z

range_block : (size offset count : ℕ) → offset % 4 ≡ 0 → 8 ≤ offset → count % 4 ≡ 0 → 4 ≤ count → offset + count ≤ size → IsBlock size 8 offset count
range_block size offset count a b c d e = record { whole = a; behind = b; whole_length = c; long = d; within = e }

-- the heap that DosSubFree leaves, and its units
pub free_leaves : (offset size : ℕ) (bytes : List ℕ) (h : Heap) → IsHeap bytes h → FreeDone offset size bytes h
    → HasHeap bytes (giving_back offset size bytes).bytes h.size (λ k. unit_at h k || is_among (offset / 4) (rounded size / 4) k)
free_leaves offset size bytes h i d =
    let count = rounded size in
    let g : Heap = record { size = h.size; blocks = insert (offset, count) h.blocks } in
    let block = range_block h.size offset count d.whole d.low (rounded_whole size) (rounded_long size d.some) d.high in
    let fit = fit_of bytes h (insert (offset, count) h.blocks) i (inserted_laid h.size 8 offset count h.blocks i.chain.laid block d.clear) in
    let P : HeapRuling → Type 0 = λ r. HasHeap bytes r.bytes h.size (λ k. unit_at h k || is_among (offset / 4) (rounded size / 4) k) in
    subst P (sym d.ruling) (record {
      heap = g;
      is = written_read bytes g fit;
      sized = refl;
      others = λ i o. others_stay bytes g i o;
      each = λ k l. unit_is g k l
          ∙ inserted_free offset count (4 * k) h.blocks
          ∙ turned (is_free h.blocks (4 * k)) (unit_at h k) (lies_in offset count (4 * k)) (is_among (offset / 4) (count / 4) k)
          (sym (unit_is h k l)) (among offset count k d.whole (rounded_whole size));
    })

-- a byte of free units is free
run_byte : (size : ℕ) (bytes : List ℕ) (h : Heap) (p y : ℕ) → IsHeap bytes h → AreFree h p (rounded size / 4) → y % 4 ≡ 0 → 4 * p ≤ y → y < 4 * p + rounded size
    → is_free h.blocks y ≡ true
run_byte size bytes h p y i free w a b =
    let k = y / 4 in
    let whole = rounded_whole size in
    let y_is : 4 * k ≡ y = omega (arith, w) in
    let here = in_units p (rounded size / 4) k (omega (arith, a, y_is)) (omega (arith, b, y_is, whole)) in
    let unit = free k here in
    let inside = unit_inside h k unit in
    let P : ℕ → Type 0 = λ x. is_free h.blocks x ≡ true in
    subst P y_is (sym (unit_is h k inside) ∙ unit)

-- where so many units in a row are free, DosSubAlloc takes those or lower ones
pub run_units : (size : ℕ) (bytes : List ℕ) (h : Heap) (p : ℕ) → IsHeap bytes h → size ≢ 0 → AreFree h p (rounded size / 4)
    → IsTakenBy (rounded size) (4 * p) (take_from (rounded size) h.blocks)
run_units size bytes h p i n free =
    run_taken h.size 8 (rounded size) (4 * p) h.blocks i.chain.laid (omega arith) (rounded_long size n)
    (λ y w a b. run_byte size bytes h p y i free w a b)
