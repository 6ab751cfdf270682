-- What DosSubSet leaves, as units; and that a call which answers no 0 changes nothing.
use Rattle.std.proofs.Common.{◌≡◌, ◌≢◌, ◌⊎◌, ℕ, ◌+◌, ◌-◌, ◌*◌, ◌/◌, ◌%◌, ◌<◌, ◌≤◌, Bool, true, false, ◌||◌, ◌==◌, nat_le, nat_lt, List, [], ◌∷◌, length, min, Option, Some, None, if◌then◌else◌, refl, sym, ap, subst, ◌∙◌, inl, inr, arith}
use Rattle.std.proofs.lemmas.Bool.Decides.{nat_tests}
use Rattle.o2_world.specs.Heaps.{Heap, heap_of, with_controls, is_free}
use Rattle.o2_world.specs.HeapRulings.{HeapRuling, refuses, leaves, rounded, area_of, take_from, insert, meets, fresh, grown, growing, setting_up, taken, taking_of, taking, is_outside, giving_back_to, giving_back}
use Rattle.o2_subseg.specs.Laws.{unit_at, HasHeap}
use Rattle.o2_subseg.proofs.Chains.{IsBlock, AreLaid, IsHeap}
use Rattle.o2_subseg.proofs.Units.{lies_in, inserted_free, inserted_laid}
use Rattle.o2_subseg.proofs.Written.{IsFit, written_read, others_stay}
use Rattle.o2_subseg.proofs.Planned.{end_clear, controls_there}
use Rattle.o2_subseg.proofs.Done.{unit_is, le_or, is_le, not_le, no_less, turned, equal}

min_whole : (n : ℕ) → min 65532 (n * 4) % 4 ≡ 0
min_whole n = omega arith

pub area_whole : (size : ℕ) → area_of size % 4 ≡ 0
unfolding area_of
area_whole size = min_whole ((if size == 0 then 65536 else size) / 4)

-- what a call that answers 0 had for its tests
pub record SetDone (flags size : ℕ) (bytes : List ℕ) : Type 0 where
  pub low : 12 ≤ area_of size
  pub fits : area_of size ≤ length bytes
  pub ruling : setting_up flags size bytes ≡ (if flags == 1 then leaves 0 (fresh (area_of size)) bytes else growing (heap_of bytes) (area_of size) bytes)

set_arms : (flags size : ℕ) (bytes : List ℕ) (more small large : Bool) → nat_lt (area_of size) 12 ≡ small → nat_lt (length bytes) (area_of size) ≡ large
    → setting_up flags size bytes ≡ (if more then refuses 314 bytes else if small || large then refuses 313 bytes
    else if flags == 1 then leaves 0 (fresh (area_of size)) bytes else growing (heap_of bytes) (area_of size) bytes)
    → (setting_up flags size bytes).error ≡ 0 → SetDone flags size bytes
set_arms flags size bytes true small large e f is z = absurd (omega (arith, sym (ap (λ (r : HeapRuling). r.error) is) ∙ z))
set_arms flags size bytes false true large e f is z = absurd (omega (arith, sym (ap (λ (r : HeapRuling). r.error) is) ∙ z))
set_arms flags size bytes false false true e f is z = absurd (omega (arith, sym (ap (λ (r : HeapRuling). r.error) is) ∙ z))
set_arms flags size bytes false false false e f is z = record { low = no_less (area_of size) 12 e; fits = no_less (length bytes) (area_of size) f; ruling = is }

set_is : (flags size : ℕ) (bytes : List ℕ) → setting_up flags size bytes ≡ (if nat_lt 1 flags then refuses 314 bytes
    else if nat_lt (area_of size) 12 || nat_lt (length bytes) (area_of size) then refuses 313 bytes
    else if flags == 1 then leaves 0 (fresh (area_of size)) bytes else growing (heap_of bytes) (area_of size) bytes)
unfolding setting_up
set_is flags size bytes = refl

pub set_done : (flags size : ℕ) (bytes : List ℕ) → (setting_up flags size bytes).error ≡ 0 → SetDone flags size bytes
set_done flags size bytes z =
    set_arms flags size bytes (nat_lt 1 flags) (nat_lt (area_of size) 12) (nat_lt (length bytes) (area_of size)) refl refl (set_is flags size bytes) z

fresh_unit : (size k : ℕ) → 12 ≤ size → k < size / 4 → is_free ((8, size - 8) ∷ []) (4 * k) ≡ nat_le 2 k
fresh_unit size k low l = grind (arith, nat_tests)

-- the heap that DosSubSet makes, and its units
pub fresh_leaves : (size : ℕ) (bytes : List ℕ) → SetDone 1 size bytes → HasHeap bytes (setting_up 1 size bytes).bytes (area_of size) (λ k. nat_le 2 k)
fresh_leaves size bytes d =
    let area = area_of size in
    let g = fresh area in
    let whole = area_whole size in
    let block : IsBlock area 8 8 (area - 8) = record { whole = refl; behind = omega arith; whole_length = omega (arith, d.low, whole); long = omega (arith, d.low); within = omega (arith, d.low) } in
    let fit : IsFit (length bytes) g = record { whole = whole; low = d.low; within = d.fits; laid = (block, tt) } in
    let P : HeapRuling → Type 0 = λ r. HasHeap bytes r.bytes area (λ k. nat_le 2 k) in
    subst P (sym d.ruling) (record {
      heap = g;
      is = written_read bytes g fit;
      sized = refl;
      others = λ i o. others_stay bytes g i o;
      each = λ k l. unit_is g k l ∙ fresh_unit area k d.low l;
    })

-- blocks of a heap lie in one that reaches further
laid_wider : (size wide low : ℕ) (bs : List (ℕ × ℕ)) → size ≤ wide → AreLaid size low bs → AreLaid wide low bs
laid_wider size wide low [] h l = tt
laid_wider size wide low ((at, len) ∷ bs) h l =
    let b = l.0 in (
      record { whole = b.whole; behind = b.behind; whole_length = b.whole_length; long = b.long; within = omega (arith, b.within, h) },
      laid_wider size wide (at + len + 1) bs h l.1,
    )

new_unit : (old area k : ℕ) → old % 4 ≡ 0 → area % 4 ≡ 0 → old < area → k < area / 4 → lies_in old (area - old) (4 * k) ≡ nat_le (old / 4) k
new_unit old area k w v h l = grind (arith, nat_tests)

same_unit : (a b : Bool) → b ≡ false → a ≡ (a || b)
same_unit true b h = refl
same_unit false b h = sym h

more_than : (a b : ℕ) → b ≤ a → (a == b) ≡ false → b < a
more_than a b h e = grind (arith, nat_tests)

or_both : (x a u n : Bool) → x ≡ n → a ≡ u → (x || a) ≡ (u || n)
or_both x a u n e f = turned a u x n f e

past_unit : (x a u n : Bool) → x ≡ true → n ≡ true → (x || a) ≡ (u || n)
past_unit x a true n e f = rw e refl
past_unit x a false n e f = rw (e, f) refl

grown_case : (h : Heap) (k : ℕ) (x : Bool) → x ≡ nat_le (h.size / 4) k → AreLaid h.size 8 h.blocks → h.size % 4 ≡ 0 → (h.size / 4 ≤ k) ⊎ (k < h.size / 4)
    → (x || is_free h.blocks (4 * k)) ≡ (unit_at h k || nat_le (h.size / 4) k)
grown_case h k x e laid w (inl l) =
    past_unit x (is_free h.blocks (4 * k)) (unit_at h k) (nat_le (h.size / 4) k) (e ∙ is_le (h.size / 4) k l) (is_le (h.size / 4) k l)
grown_case h k x e laid w (inr l) = or_both x (is_free h.blocks (4 * k)) (unit_at h k) (nat_le (h.size / 4) k) e (sym (unit_is h k l))

grown_unit : (h : Heap) (k : ℕ) → (x : Bool) → x ≡ nat_le (h.size / 4) k → (laid : AreLaid h.size 8 h.blocks) → h.size % 4 ≡ 0
    → (x || is_free h.blocks (4 * k)) ≡ (unit_at h k || nat_le (h.size / 4) k)
grown_unit h k x e laid w = grown_case h k x e laid w (le_or (h.size / 4) k)

wide_leaves : (bytes : List ℕ) (h : Heap) (area : ℕ) → IsHeap bytes h → area % 4 ≡ 0 → area ≤ length bytes → h.size < area
    → HasHeap bytes (with_controls (record { size = area; blocks = insert (h.size, area - h.size) h.blocks }) bytes) area (λ k. unit_at h k || nat_le (h.size / 4) k)
wide_leaves bytes h area i whole fits more =
    let count = area - h.size in
    let g : Heap = record { size = area; blocks = insert (h.size, count) h.blocks } in
    let block : IsBlock area 8 h.size count =
    record { whole = i.whole; behind = omega (arith, i.low); whole_length = omega (arith, whole, i.whole); long = omega (arith, whole, i.whole, more); within = omega (arith, more) } in
    let laid = inserted_laid area 8 h.size count h.blocks (laid_wider h.size area 8 h.blocks (omega (arith, more)) i.chain.laid) block
    (end_clear h.size 8 (h.size + count) h.blocks i.chain.laid) in
    let fit : IsFit (length bytes) g = record { whole = whole; low = omega (arith, i.low, more); within = fits; laid = laid } in
    record {
      heap = g;
      is = written_read bytes g fit;
      sized = refl;
      others = λ i o. others_stay bytes g i o;
      each = λ k l. unit_is g k l ∙ inserted_free h.size count (4 * k) h.blocks
          ∙ grown_unit h k (lies_in h.size count (4 * k)) (new_unit h.size area k i.whole whole more l) i.chain.laid i.whole;
    }

grow_arms : (bytes : List ℕ) (h : Heap) (area : ℕ) (less one : Bool) → nat_lt area h.size ≡ less → (area == h.size) ≡ one → heap_of bytes ≡ Some h → IsHeap bytes h
    → area % 4 ≡ 0 → area ≤ length bytes
    → (r : HeapRuling) → r ≡ (if less then refuses 310 bytes else leaves 0 (if one then h else record { size = area; blocks = insert (h.size, area - h.size) h.blocks }) bytes)
    → r.error ≡ 0 → HasHeap bytes r.bytes area (λ k. unit_at h k || nat_le (h.size / 4) k)
grow_arms bytes h area true one e f there i whole fits r is z = absurd (omega (arith, sym (ap (λ (r : HeapRuling). r.error) is) ∙ z))
grow_arms bytes h area false true e f there i whole fits r is z =
    let sized = equal area h.size f in
    let P : HeapRuling → Type 0 = λ q. HasHeap bytes q.bytes area (λ k. unit_at h k || nat_le (h.size / 4) k) in
    subst P (sym is) (record {
      heap = h;
      is = ap heap_of (controls_there bytes h i) ∙ there;
      sized = sym sized;
      others = λ i o. others_stay bytes h i o;
      each = λ k l. same_unit (unit_at h k) (nat_le (h.size / 4) k) (not_le (h.size / 4) k (omega (arith, l, sized)));
    })
grow_arms bytes h area false false e f there i whole fits r is z =
    let P : HeapRuling → Type 0 = λ q. HasHeap bytes q.bytes area (λ k. unit_at h k || nat_le (h.size / 4) k) in
    subst P (sym is) (wide_leaves bytes h area i whole fits (more_than area h.size (no_less area h.size e) f))

pub growing_is : (bytes : List ℕ) (h : Heap) (area : ℕ) → heap_of bytes ≡ Some h
    → growing (heap_of bytes) area bytes ≡ (if nat_lt area h.size then refuses 310 bytes else leaves 0 (grown h area) bytes)
unfolding growing
growing_is bytes h area e = ap (λ o. growing o area bytes) e

-- the heap that DosSubSet lets reach further, and its units
pub grow_leaves : (size : ℕ) (bytes : List ℕ) (h : Heap) → heap_of bytes ≡ Some h → IsHeap bytes h → SetDone 0 size bytes → (setting_up 0 size bytes).error ≡ 0
    → HasHeap bytes (setting_up 0 size bytes).bytes (area_of size) (λ k. unit_at h k || nat_le (h.size / 4) k)
grow_leaves size bytes h e i d z =
    grow_arms bytes h (area_of size) (nat_lt (area_of size) h.size) (area_of size == h.size) refl refl e i (area_whole size) d.fits
    (setting_up 0 size bytes) (d.ruling ∙ growing_is bytes h (area_of size) e) z

-- a call left the bytes of a heap, or none changed
abbrev pub Outcome : HeapRuling → List ℕ → Type 0
Outcome r bytes = ((r.error ≡ 0) × ((h : Heap) × (r.bytes ≡ with_controls h bytes))) ⊎ ((r.error ≢ 0) × (r.bytes ≡ bytes))

refused : (n : ℕ) (bytes : List ℕ) → n ≢ 0 → Outcome (refuses n bytes) bytes
refused n bytes h = inr (h, refl)

left_by : (v : ℕ) (h : Heap) (bytes : List ℕ) → Outcome (leaves v h bytes) bytes
left_by v h bytes = inl (refl, (h, refl))

taken_outcome : (size : ℕ) (bytes : List ℕ) (r : Option (ℕ × List (ℕ × ℕ))) → Outcome (taken r size bytes) bytes
unfolding taken
taken_outcome size bytes None = refused 311 bytes (λ e. absurd (omega (arith, e)))
taken_outcome size bytes (Some (v, left)) = left_by v (record { size = size; blocks = left }) bytes

one_of : (b : Bool) (n : ℕ) (bytes : List ℕ) (r : HeapRuling) → n ≢ 0 → Outcome r bytes → Outcome (if b then refuses n bytes else r) bytes
one_of true n bytes r h o = refused n bytes h
one_of false n bytes r h o = o

either : (b : Bool) (bytes : List ℕ) (r s : HeapRuling) → Outcome r bytes → Outcome s bytes → Outcome (if b then r else s) bytes
either true bytes r s o p = o
either false bytes r s o p = p

taking_outcome : (o : Option Heap) (size : ℕ) (bytes : List ℕ) → Outcome (taking_of o size bytes) bytes
unfolding taking_of
taking_outcome None size bytes = refused 87 bytes (λ e. absurd (omega (arith, e)))
taking_outcome (Some h) size bytes =
    one_of ((size == 0) || nat_lt (h.size - 8) size) 313 bytes (taken (take_from (rounded size) h.blocks) h.size bytes) (λ e. absurd (omega (arith, e)))
    (taken_outcome h.size bytes (take_from (rounded size) h.blocks))

pub take_outcome : (size : ℕ) (bytes : List ℕ) → Outcome (taking size bytes) bytes
unfolding taking
take_outcome size bytes = taking_outcome (heap_of bytes) size bytes

freeing_outcome : (o : Option Heap) (offset size : ℕ) (bytes : List ℕ) → Outcome (giving_back_to o offset size bytes) bytes
unfolding giving_back_to
freeing_outcome None offset size bytes = refused 87 bytes (λ e. absurd (omega (arith, e)))
freeing_outcome (Some h) offset size bytes =
    let done = leaves 0 (record { size = h.size; blocks = insert (offset, rounded size) h.blocks }) bytes in
    one_of (is_outside size offset (rounded size) h.size) 313 bytes (if meets offset (offset + rounded size) h.blocks then refuses 312 bytes else done) (λ e. absurd (omega (arith, e)))
    (one_of (meets offset (offset + rounded size) h.blocks) 312 bytes done (λ e. absurd (omega (arith, e)))
    (left_by 0 (record { size = h.size; blocks = insert (offset, rounded size) h.blocks }) bytes))

pub free_outcome : (offset size : ℕ) (bytes : List ℕ) → Outcome (giving_back offset size bytes) bytes
unfolding giving_back
free_outcome offset size bytes = freeing_outcome (heap_of bytes) offset size bytes

growing_outcome : (o : Option Heap) (area : ℕ) (bytes : List ℕ) → Outcome (growing o area bytes) bytes
unfolding growing
growing_outcome None area bytes = refused 87 bytes (λ e. absurd (omega (arith, e)))
growing_outcome (Some h) area bytes = one_of (nat_lt area h.size) 310 bytes (leaves 0 (grown h area) bytes) (λ e. absurd (omega (arith, e))) (left_by 0 (grown h area) bytes)

pub set_outcome : (flags size : ℕ) (bytes : List ℕ) → Outcome (setting_up flags size bytes) bytes
unfolding setting_up
set_outcome flags size bytes =
    let make = leaves 0 (fresh (area_of size)) bytes in
    let grow = growing (heap_of bytes) (area_of size) bytes in
    let rest = if flags == 1 then make else grow in
    one_of (nat_lt 1 flags) 314 bytes (if nat_lt (area_of size) 12 || nat_lt (length bytes) (area_of size) then refuses 313 bytes else rest) (λ e. absurd (omega (arith, e)))
    (one_of (nat_lt (area_of size) 12 || nat_lt (length bytes) (area_of size)) 313 bytes rest (λ e. absurd (omega (arith, e)))
    (either (flags == 1) bytes make grow (left_by 0 (fresh (area_of size)) bytes) (growing_outcome (heap_of bytes) (area_of size) bytes)))
