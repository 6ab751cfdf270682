-- Plans, by what a search of the heap found.
use Rattle.std.proofs.Common.{◌≡◌, ◌≢◌, ◌⊎◌, ℕ, ◌+◌, ◌-◌, ◌%◌, ◌<◌, ◌≤◌, Bool, true, false, not, ◌&&◌, ◌||◌, ◌==◌, nat_lt, List, [], ◌∷◌, length, take, Option, Some, None, option_map, if◌then◌else◌, refl, sym, ap, subst, ◌∙◌, inl, inr, arith}
use Rattle.std.proofs.lemmas.Bool.{cases_lt}
use Rattle.std.proofs.lemmas.Bool.Decides.{nat_tests}
use Rattle.o2_subseg.specs.declared.block.Block.{Block}
use Rattle.o2_subseg.specs.declared.plan.Plan.{Plan}
use Rattle.o2_subseg.specs.declared.scan.Seek.{Seek}
use Rattle.o2_subseg.specs.declared.scan.Seek.TheVariants.{Length, Offset}
use Rattle.o2_subseg.specs.declared.scan.Spot.{Spot}
use Rattle.o2_world.specs.Heaps.{Heap, word, put_words, heap_of, controls, with_controls}
use Rattle.o2_world.specs.HeapRulings.{HeapRuling, refuses, leaves, rounded, area_of, take_from, insert, meets, fresh, grown, growing, setting_up, taken, taking_of, taking, is_outside, giving_back_to, giving_back}
use Rattle.o2_subseg.specs.Spots.{IsRange, IsRangeOf, passes, spot_of, spot_in, at_first, link_of, IsSpot, IsWithin, IsWithinOrNone, is_met_by, taken_words, freed_words, more_at, next_at}
use Rattle.o2_subseg.specs.Plans.{Plans, AreInside, words_of, fresh_words}
use Rattle.o2_subseg.proofs.Words.{AreBytes, put_all_there, word_there}
use Rattle.o2_subseg.proofs.Chains.{AreLaid, IsHeap, heap_read}
use Rattle.o2_subseg.proofs.Searches.{block, spot, passes_here, passes_later, spot_size, met_beside, le_true, lt_false}
use Rattle.o2_subseg.proofs.Takings.{Takes, heap_takes, with_header}
use Rattle.o2_subseg.proofs.Joinings.{heap_frees}

is_lt : (a b : ℕ) → a < b → nat_lt a b ≡ true
is_lt a b h = grind (arith, nat_tests)

not_lt : (a b : ℕ) → b ≤ a → nat_lt a b ≡ false
not_lt a b h = grind (arith, nat_tests)

same : (a b : ℕ) → a ≡ b → (a == b) ≡ true
same a b h = grind (arith, nat_tests)

not_same : (a b : ℕ) → a ≢ b → (a == b) ≡ false
not_same a b h = grind (arith, nat_tests)

are_same : (a b : ℕ) → (a == b) ≡ true → a ≡ b
are_same a b h = grind (arith, nat_tests)

apart : (a b : ℕ) → (a == b) ≡ false → a ≢ b
apart a b h = grind (arith, nat_tests)

less : (a b : ℕ) → (a == b) ≡ false → a ≤ b → a < b
less a b e h = grind (arith, nat_tests)

or_second : (a b : Bool) → b ≡ true → (a || b) ≡ true
or_second true b h = refl
or_second false b h = h

both_false : (a b : Bool) → a ≡ false → b ≡ false → (a || b) ≡ false
both_false a b e f = rw (e, f) refl

and_second : (a b : Bool) → b ≡ false → (a && b) ≡ false
and_second true b h = h
and_second false b h = refl

some_none : {f : Block} → Some f ≡ None → ⊥
some_none h = cc

some_same : (f g : Block) → Some f ≡ Some g → f ≡ g
some_same f g h = cc

ruling_same : (v w : ℕ) (b c : List ℕ) → v ≡ w → b ≡ c → ◌≡◌ {A = HeapRuling} (record { error = 0; value = v; bytes = b }) (record { error = 0; value = w; bytes = c })
ruling_same v w b c e f = rw (e, f) refl

-- a call that is done
abbrev done_with : ℕ → List ℕ → HeapRuling
done_with value bytes = record { error = 0; value = value; bytes = bytes }

-- a call that is refused
pub refused_plan : (p : Plan) (bytes : List ℕ) (r : HeapRuling) (error : ℕ) → p.answer.error ≡ error → p.answer.value ≡ 0 → p.count ≡ 0 → r ≡ refuses error bytes
    → Plans p r bytes
refused_plan p bytes r error e v n is =
    let none : words_of p ≡ [] = ap (λ k. take k p.words) n in
    let P : HeapRuling → Type 0 = λ q. Plans p q bytes in
    let I : List (ℕ × ℕ) → Type 0 = λ ws. AreInside (length bytes) ws in
    subst P (sym is) (record { error = e; value = v; few = omega (arith, n); inside = subst I (sym none) tt; after = ap (put_words bytes) none })

-- a call that is done
pub done_plan : (p : Plan) (bytes : List ℕ) (r : HeapRuling) (value : ℕ) (ws : List (ℕ × ℕ)) → p.answer.error ≡ 0 → p.answer.value ≡ value → p.count ≤ 6 → words_of p ≡ ws
    → AreInside (length bytes) ws → r ≡ record { error = 0; value = value; bytes = put_words bytes ws } → Plans p r bytes
done_plan p bytes r value ws e v n are inside is =
    let P : HeapRuling → Type 0 = λ q. Plans p q bytes in
    let I : List (ℕ × ℕ) → Type 0 = λ us. AreInside (length bytes) us in
    subst P (sym is) (record { error = e; value = v; few = n; inside = subst I (sym are) inside; after = ap (put_words bytes) are })

-- the heap that was searched
pub record Searched (bytes : List ℕ) (seek : Seek) (s : Spot) : Type 0 where
  pub heap : Heap
  pub is : heap_of bytes ≡ Some heap
  pub ends : s ≡ spot_of seek heap
  pub good : IsHeap bytes heap

searched_arms : (bytes : List ℕ) (seek : Seek) (s : Spot) (o : Option Heap) → AreBytes bytes → heap_of bytes ≡ o → Some s ≡ option_map (spot_of seek) o → Searched bytes seek s
searched_arms bytes seek s None b e h = cc
searched_arms bytes seek s (Some heap) b e h = record { heap = heap; is = e; ends = cc; good = heap_read bytes heap b e }

pub searched : (bytes : List ℕ) (seek : Seek) (s : Spot) → AreBytes bytes → Some s ≡ option_map (spot_of seek) (heap_of bytes) → Searched bytes seek s
searched bytes seek s b h = searched_arms bytes seek s (heap_of bytes) b refl h

unsearched_arms : (seek : Seek) (o : Option Heap) → None ≡ option_map (spot_of seek) o → o ≡ None
unsearched_arms seek None h = refl
unsearched_arms seek (Some heap) h = cc

pub unsearched : (bytes : List ℕ) (seek : Seek) → None ≡ option_map (spot_of seek) (heap_of bytes) → heap_of bytes ≡ None
unsearched bytes seek h = unsearched_arms seek (heap_of bytes) h

-- the size where a search ends is the heap's
pub searched_size : (bytes : List ℕ) (seek : Seek) (s : Spot) (h : Heap) → s ≡ spot_of seek h → s.size ≡ h.size
searched_size bytes seek s h e = ap (λ (t : Spot). t.size) e ∙ spot_size seek (at_first h.size) h.blocks

pub rounded_whole : (size : ℕ) → rounded size % 4 ≡ 0
unfolding rounded
rounded_whole size = omega arith

pub rounded_long : (size : ℕ) → size ≢ 0 → 4 ≤ rounded size
unfolding rounded
rounded_long size h = omega arith

-- DosSubAlloc without a heap
pub alloc_bad : (bytes : List ℕ) (size : ℕ) → heap_of bytes ≡ None → taking size bytes ≡ refuses 87 bytes
unfolding taking taking_of
alloc_bad bytes size e = ap (λ o. taking_of o size bytes) e

bad_size : (size heap : ℕ) → (size ≡ 0) ⊎ (heap - 8 < size) → ((size == 0) || nat_lt (heap - 8) size) ≡ true
bad_size size heap (inl h) = rw h refl
bad_size size heap (inr h) = or_second (size == 0) (nat_lt (heap - 8) size) (is_lt (heap - 8) size h)

-- DosSubAlloc of a size that doesn't suit
pub alloc_size : (bytes : List ℕ) (size : ℕ) (h : Heap) → heap_of bytes ≡ Some h → (size ≡ 0) ⊎ (h.size - 8 < size) → taking size bytes ≡ refuses 313 bytes
unfolding taking taking_of
alloc_size bytes size h e bad =
    ap (λ o. taking_of o size bytes) e
    ∙ ap (λ b. if b then refuses 313 bytes else taken (take_from (rounded size) h.blocks) h.size bytes) (bad_size size h.size bad)

good_size : (size heap : ℕ) → size ≢ 0 → size ≤ heap - 8 → ((size == 0) || nat_lt (heap - 8) size) ≡ false
good_size size heap n h = both_false (size == 0) (nat_lt (heap - 8) size) (not_same size 0 n) (not_lt (heap - 8) size h)

alloc_taken : (bytes : List ℕ) (size : ℕ) (h : Heap) → heap_of bytes ≡ Some h → size ≢ 0 → size ≤ h.size - 8
    → taking size bytes ≡ taken (take_from (rounded size) h.blocks) h.size bytes
unfolding taking taking_of
alloc_taken bytes size h e n fits =
    ap (λ o. taking_of o size bytes) e
    ∙ ap (λ b. if b then refuses 313 bytes else taken (take_from (rounded size) h.blocks) h.size bytes) (good_size size h.size n fits)

none_taken : (bytes : List ℕ) (count : ℕ) (size : ℕ) (r : Option (ℕ × List (ℕ × ℕ))) (s : Spot) → Takes bytes count 4 r s → s.found ≡ None → taken r size bytes ≡ refuses 311 bytes
unfolding taken
none_taken bytes count size None s t e = refl
none_taken bytes count size (Some (v, left)) s t e = absurd (some_none (sym t.found ∙ e))

-- DosSubAlloc where no block is long enough
pub alloc_none : (bytes : List ℕ) (size : ℕ) (h : Heap) (s : Spot) → heap_of bytes ≡ Some h → IsHeap bytes h → size ≢ 0 → size ≤ h.size - 8
    → s ≡ spot_of (Length (rounded size)) h → s.found ≡ None → taking size bytes ≡ refuses 311 bytes
alloc_none bytes size h s e good n fits ends none =
    alloc_taken bytes size h e n fits
    ∙ none_taken bytes (rounded size) h.size (take_from (rounded size) h.blocks) (spot_of (Length (rounded size)) h) (heap_takes bytes h (rounded size) (rounded_whole size) good)
    (ap (λ (t : Spot). t.found) (sym ends) ∙ none)

some_taken : (bytes : List ℕ) (count : ℕ) (h : Heap) (r : Option (ℕ × List (ℕ × ℕ))) (s : Spot) (f : Block) → IsHeap bytes h → Takes bytes count 4 r s → s.found ≡ Some f
    → taken r h.size bytes ≡ record { error = 0; value = f.offset; bytes = put_words bytes (taken_words bytes s.before f count) }
unfolding taken
some_taken bytes count h None s f good t e = absurd (some_none (sym e ∙ t))
some_taken bytes count h (Some (v, left)) s f good t e =
    let same : t.at ≡ f = some_same t.at f (sym t.found ∙ e) in
    let P : Block → Type 0 = λ g. leaves v (record { size = h.size; blocks = left }) bytes ≡ record { error = 0; value = g.offset; bytes = put_words bytes (taken_words bytes s.before g count) } in
    subst P same (ruling_same v t.at.offset (with_controls (record { size = h.size; blocks = left }) bytes) (put_words bytes (taken_words bytes s.before t.at count))
    (sym t.at_value) (with_header bytes h left good ∙ t.words))

-- DosSubAlloc of the block that a search found
pub alloc_some : (bytes : List ℕ) (size : ℕ) (h : Heap) (s : Spot) (f : Block) → heap_of bytes ≡ Some h → IsHeap bytes h → size ≢ 0 → size ≤ h.size - 8
    → s ≡ spot_of (Length (rounded size)) h → s.found ≡ Some f
    → taking size bytes ≡ record { error = 0; value = f.offset; bytes = put_words bytes (taken_words bytes s.before f (rounded size)) }
alloc_some bytes size h s f e good n fits ends found =
    let P : Spot → Type 0 = λ t. t.found ≡ Some f → taking size bytes ≡ record { error = 0; value = f.offset; bytes = put_words bytes (taken_words bytes t.before f (rounded size)) } in
    subst P (sym ends) (λ is. alloc_taken bytes size h e n fits
    ∙ some_taken bytes (rounded size) h (take_from (rounded size) h.blocks) (spot_of (Length (rounded size)) h) f good (heap_takes bytes h (rounded size) (rounded_whole size) good) is) found

link_inside : (size : ℕ) (before : Option Block) → 12 ≤ size → IsWithinOrNone size before → link_of before + 2 ≤ size
link_inside size None h w = omega (arith, h)
link_inside size (Some b) h w = omega (arith, w.long, w.high)

taken_arms : (bytes : List ℕ) (size n count : ℕ) (before : Option Block) (f : Block) (same : Bool) → (count == f.length) ≡ same → 12 ≤ size → size ≤ n
    → IsWithinOrNone size before → IsWithin size f → count % 4 ≡ 0 → count ≤ f.length
    → AreInside n (if same then (link_of before, word bytes f.offset) ∷ [] else (link_of before, f.offset + count) ∷ ((f.offset + count) + 2, f.length - count) ∷ (f.offset + count, word bytes f.offset) ∷ [])
taken_arms bytes size n count before f true e low fits w i whole h =
    let l = link_inside size before low w in
    (omega (arith, l, fits), tt)
taken_arms bytes size n count before f false e low fits w i whole h =
    let l = link_inside size before low w in
    let k = less count f.length e h in
    (omega (arith, l, fits), (omega (arith, i.high, i.whole_length, whole, k, fits), (omega (arith, i.high, k, i.whole_length, whole, fits), tt)))

-- the words of a block that is taken lie within the bytes
pub taken_inside : (bytes : List ℕ) (n count : ℕ) (s : Spot) (f : Block) → IsSpot s → s.size ≤ n → s.found ≡ Some f → count % 4 ≡ 0 → count ≤ f.length
    → AreInside n (taken_words bytes s.before f count)
taken_inside bytes n count s f i fits found whole h =
    let P : Option Block → Type 0 = λ o. IsWithinOrNone s.size o in
    taken_arms bytes s.size n count s.before f (count == f.length) refl i.size_low fits i.before_within (subst P found i.found_within) whole h

-- a block that was found is within the heap
pub found_inside : (s : Spot) (f : Block) → IsSpot s → s.found ≡ Some f → IsWithin s.size f
found_inside s f i found = let P : Option Block → Type 0 = λ o. IsWithinOrNone s.size o in subst P found i.found_within

-- DosSubFree without a heap
pub free_bad : (bytes : List ℕ) (offset size : ℕ) → heap_of bytes ≡ None → giving_back offset size bytes ≡ refuses 87 bytes
unfolding giving_back giving_back_to
free_bad bytes offset size e = ap (λ o. giving_back_to o offset size bytes) e

range_tests : (a b c d : Bool) → a ≡ false → b ≡ true → c ≡ false → d ≡ false → ((a || not b) || (c || d)) ≡ false
range_tests a b c d e f g h = rw (e, f, g, h) refl

is_range : (size offset count heap : ℕ) → IsRange size offset count heap → is_outside size offset count heap ≡ false
is_range size offset count heap r =
    range_tests (size == 0) (offset % 4 == 0) (nat_lt offset 8) (nat_lt heap (offset + count))
    (not_same size 0 r.some) (same (offset % 4) 0 r.whole) (not_lt offset 8 r.low) (not_lt heap (offset + count) r.high)

no_range_test : (a b c d : Bool) → ((a ≡ false → b ≡ true → c ≡ false → d ≡ false → ⊥)) → ((a || not b) || (c || d)) ≡ true
no_range_test true b c d h = refl
no_range_test false false c d h = refl
no_range_test false true true d h = refl
no_range_test false true false true h = refl
no_range_test false true false false h = absurd (h refl refl refl refl)

no_range : (size offset count heap : ℕ) → (IsRange size offset count heap → ⊥) → is_outside size offset count heap ≡ true
no_range size offset count heap n =
    no_range_test (size == 0) (offset % 4 == 0) (nat_lt offset 8) (nat_lt heap (offset + count))
    (λ a b c d. n (record { some = apart size 0 a; whole = are_same (offset % 4) 0 b; low = lt_false offset 8 c; high = lt_false heap (offset + count) d }))

-- DosSubFree of no range of the heap
pub free_size : (bytes : List ℕ) (offset size : ℕ) (h : Heap) → heap_of bytes ≡ Some h → (IsRange size offset (rounded size) h.size → ⊥)
    → giving_back offset size bytes ≡ refuses 313 bytes
unfolding giving_back giving_back_to
free_size bytes offset size h e n =
    ap (λ o. giving_back_to o offset size bytes) e
    ∙ ap (λ b. if b then refuses 313 bytes else if meets offset (offset + rounded size) h.blocks then refuses 312 bytes
    else leaves 0 (record { size = h.size; blocks = insert (offset, rounded size) h.blocks }) bytes) (no_range size offset (rounded size) h.size n)

free_range_of : (bytes : List ℕ) (offset size : ℕ) (h : Heap) (met : Bool) → heap_of bytes ≡ Some h → IsRange size offset (rounded size) h.size
    → meets offset (offset + rounded size) h.blocks ≡ met
    → giving_back offset size bytes ≡ (if met then refuses 312 bytes else leaves 0 (record { size = h.size; blocks = insert (offset, rounded size) h.blocks }) bytes)
unfolding giving_back giving_back_to
free_range_of bytes offset size h met e r m =
    ap (λ o. giving_back_to o offset size bytes) e
    ∙ ap (λ b. if b then refuses 313 bytes else if meets offset (offset + rounded size) h.blocks then refuses 312 bytes
    else leaves 0 (record { size = h.size; blocks = insert (offset, rounded size) h.blocks }) bytes) (is_range size offset (rounded size) h.size r)
    ∙ ap (λ b. if b then refuses 312 bytes else leaves 0 (record { size = h.size; blocks = insert (offset, rounded size) h.blocks }) bytes) m

-- what a range meets is told by where a search for it ends
pub met_spot : (bytes : List ℕ) (offset end : ℕ) (h : Heap) (s : Spot) → IsHeap bytes h → s ≡ spot_of (Offset offset) h → offset < end
    → is_met_by s offset end ≡ meets offset end h.blocks
met_spot bytes offset end h s good ends wide =
    ap (λ t. is_met_by t offset end) ends ∙ met_beside h.size 8 offset end None h.blocks wide good.chain.laid tt

-- DosSubFree of a range that is free, or a part of it
pub free_met : (bytes : List ℕ) (offset size : ℕ) (h : Heap) (s : Spot) → heap_of bytes ≡ Some h → IsHeap bytes h → IsRange size offset (rounded size) h.size
    → s ≡ spot_of (Offset offset) h → is_met_by s offset (offset + rounded size) ≡ true → giving_back offset size bytes ≡ refuses 312 bytes
free_met bytes offset size h s e good r ends met =
    let long = rounded_long size r.some in
    free_range_of bytes offset size h true e r (sym (met_spot bytes offset (offset + rounded size) h s good ends (omega (arith, long))) ∙ met)

-- DosSubFree of a range that was taken
pub free_done : (bytes : List ℕ) (offset size : ℕ) (h : Heap) (s : Spot) → heap_of bytes ≡ Some h → IsHeap bytes h → IsRange size offset (rounded size) h.size
    → s ≡ spot_of (Offset offset) h → is_met_by s offset (offset + rounded size) ≡ false
    → giving_back offset size bytes ≡ record { error = 0; value = 0; bytes = put_words bytes ((2, h.size) ∷ freed_words bytes s.before s.found offset (rounded size)) }
free_done bytes offset size h s e good r ends met =
    let long = rounded_long size r.some in
    let clear = sym (met_spot bytes offset (offset + rounded size) h s good ends (omega (arith, long))) ∙ met in
    let P : Spot → Type 0 = λ t. giving_back offset size bytes
    ≡ record { error = 0; value = 0; bytes = put_words bytes ((2, h.size) ∷ freed_words bytes t.before t.found offset (rounded size)) } in
    subst P (sym ends) (free_range_of bytes offset size h false e r clear
    ∙ ap (done_with 0) (heap_frees bytes h h.size offset (rounded size) good long clear))

freed_arms : (bytes : List ℕ) (n at len : ℕ) (b : Block) (found : Option Block) (touch : Bool) → b.offset + 4 ≤ n → 4 ≤ len → at + len ≤ n
    → AreInside n (if touch then (b.offset + 2, (b.length + len) + more_at found (at + len)) ∷ (b.offset, next_at bytes found (at + len)) ∷ []
    else (b.offset, at) ∷ (at + 2, len + more_at found (at + len)) ∷ (at, next_at bytes found (at + len)) ∷ [])
freed_arms bytes n at len b found true h long fits = (omega (arith, h), (omega (arith, h), tt))
freed_arms bytes n at len b found false h long fits = (omega (arith, h), (omega (arith, long, fits), (omega (arith, long, fits), tt)))

freed_inside_of : (bytes : List ℕ) (size n at len : ℕ) (before found : Option Block) → 12 ≤ size → size ≤ n → IsWithinOrNone size before → 4 ≤ len → at + len ≤ n
    → AreInside n (freed_words bytes before found at len)
freed_inside_of bytes size n at len None found low fits w long high = (omega (arith, low, fits), (omega (arith, long, high), (omega (arith, long, high), tt)))
freed_inside_of bytes size n at len (Some b) found low fits w long high =
    freed_arms bytes n at len b found (b.offset + b.length == at) (omega (arith, w.long, w.high, fits)) long high

-- the words of a range that is freed lie within the bytes
pub freed_inside : (bytes : List ℕ) (n size at len : ℕ) (s : Spot) → IsSpot s → s.size ≤ n → 4 ≤ len → at + len ≤ n
    → AreInside n ((2, size) ∷ freed_words bytes s.before s.found at len)
freed_inside bytes n size at len s i fits long high =
    (omega (arith, i.size_low, fits), freed_inside_of bytes s.size n at len s.before s.found i.size_low fits i.before_within long high)

-- DosSubSet with flags 0 without a heap
pub grow_bad : (bytes : List ℕ) (area : ℕ) → heap_of bytes ≡ None → growing (heap_of bytes) area bytes ≡ refuses 87 bytes
unfolding growing
grow_bad bytes area e = ap (λ o. growing o area bytes) e

grow_of : (bytes : List ℕ) (area : ℕ) (h : Heap) (less : Bool) → heap_of bytes ≡ Some h → nat_lt area h.size ≡ less
    → growing (heap_of bytes) area bytes ≡ (if less then refuses 310 bytes else leaves 0 (grown h area) bytes)
unfolding growing
grow_of bytes area h less e l = ap (λ o. growing o area bytes) e ∙ ap (λ b. if b then refuses 310 bytes else leaves 0 (grown h area) bytes) l

-- DosSubSet with flags 0 of an area that is too small
pub grow_less : (bytes : List ℕ) (area : ℕ) (h : Heap) → heap_of bytes ≡ Some h → area < h.size → growing (heap_of bytes) area bytes ≡ refuses 310 bytes
grow_less bytes area h e l = grow_of bytes area h true e (is_lt area h.size l)

grown_of : (h : Heap) (area : ℕ) (same : Bool) → (area == h.size) ≡ same
    → grown h area ≡ (if same then h else record { size = area; blocks = insert (h.size, area - h.size) h.blocks })
grown_of h area same e = ap (λ b. if b then h else record { size = area; blocks = insert (h.size, area - h.size) h.blocks }) e

pub controls_there : (bytes : List ℕ) (h : Heap) → IsHeap bytes h → with_controls h bytes ≡ bytes
unfolding with_controls
controls_there bytes h i = put_all_there bytes (controls h) (i.mark, (i.size, (i.zero_word, (i.chain.linked, i.chain.there))))

-- DosSubSet with flags 0 of the heap's own size
pub grow_same : (bytes : List ℕ) (area : ℕ) (h : Heap) → heap_of bytes ≡ Some h → IsHeap bytes h → area ≡ h.size
    → growing (heap_of bytes) area bytes ≡ record { error = 0; value = 0; bytes = bytes }
grow_same bytes area h e i s =
    grow_of bytes area h false e (not_lt area h.size (omega (arith, s)))
    ∙ ap (λ g. leaves 0 g bytes) (grown_of h area true (same area h.size s))
    ∙ ap (done_with 0) (controls_there bytes h i)

-- nothing behind a heap's end is met
pub end_clear : (size low end : ℕ) (bs : List (ℕ × ℕ)) → AreLaid size low bs → meets size end bs ≡ false
end_clear size low end [] l = refl
end_clear size low end ((at, len) ∷ bs) l =
    both_false (nat_lt at end && nat_lt size (at + len)) (meets size end bs) (and_second (nat_lt at end) (nat_lt size (at + len)) (not_lt size (at + len) l.0.within))
    (end_clear size (at + len + 1) end bs l.1)

-- nothing beside a heap's end is met
pub grow_clear : (bytes : List ℕ) (end : ℕ) (h : Heap) (s : Spot) → IsHeap bytes h → s ≡ spot_of (Offset h.size) h → h.size < end → is_met_by s h.size end ≡ false
grow_clear bytes end h s i ends wide = met_spot bytes h.size end h s i ends wide ∙ end_clear h.size 8 end h.blocks i.chain.laid

-- DosSubSet with flags 0 of a larger area
pub grow_done : (bytes : List ℕ) (area : ℕ) (h : Heap) (s : Spot) → heap_of bytes ≡ Some h → IsHeap bytes h → area % 4 ≡ 0 → h.size < area → s ≡ spot_of (Offset h.size) h
    → growing (heap_of bytes) area bytes
    ≡ record { error = 0; value = 0; bytes = put_words bytes ((2, area) ∷ freed_words bytes s.before s.found h.size (area - h.size)) }
grow_done bytes area h s e i whole more ends =
    let long : 4 ≤ area - h.size = omega (arith, i.whole, whole, more) in
    let P : Spot → Type 0 = λ t. growing (heap_of bytes) area bytes
    ≡ record { error = 0; value = 0; bytes = put_words bytes ((2, area) ∷ freed_words bytes t.before t.found h.size (area - h.size)) } in
    subst P (sym ends) (grow_of bytes area h false e (not_lt area h.size (omega (arith, more)))
    ∙ ap (λ g. leaves 0 g bytes) (grown_of h area false (not_same area h.size (λ f. absurd (omega (arith, more, f)))))
    ∙ ap (done_with 0) (heap_frees bytes h area h.size (area - h.size) i long (end_clear h.size 8 (h.size + (area - h.size)) h.blocks i.chain.laid)))

-- DosSubSet, by its tests
pub set_flags : (bytes : List ℕ) (flags size : ℕ) → 1 < flags → setting_up flags size bytes ≡ refuses 314 bytes
unfolding setting_up
set_flags bytes flags size h = rw (is_lt 1 flags h) refl

pub set_size : (bytes : List ℕ) (flags size : ℕ) → flags ≤ 1 → (area_of size < 12) ⊎ (length bytes < area_of size) → setting_up flags size bytes ≡ refuses 313 bytes
unfolding setting_up
set_size bytes flags size h (inl k) = rw (not_lt 1 flags h, is_lt (area_of size) 12 k) refl
set_size bytes flags size h (inr k) =
    rw (not_lt 1 flags h, or_second (nat_lt (area_of size) 12) (nat_lt (length bytes) (area_of size)) (is_lt (length bytes) (area_of size) k)) refl

set_of : (bytes : List ℕ) (flags size : ℕ) (one : Bool) → flags ≤ 1 → 12 ≤ area_of size → area_of size ≤ length bytes → (flags == 1) ≡ one
    → setting_up flags size bytes ≡ (if one then leaves 0 (fresh (area_of size)) bytes else growing (heap_of bytes) (area_of size) bytes)
unfolding setting_up
set_of bytes flags size one h low fits e =
    rw (not_lt 1 flags h, both_false (nat_lt (area_of size) 12) (nat_lt (length bytes) (area_of size)) (not_lt (area_of size) 12 low) (not_lt (length bytes) (area_of size) fits), e) refl

fresh_there : (bytes : List ℕ) (size : ℕ) → with_controls (fresh size) bytes ≡ put_words bytes (fresh_words size)
unfolding with_controls
fresh_there bytes size = refl

pub set_fresh : (bytes : List ℕ) (flags size : ℕ) → flags ≡ 1 → 12 ≤ area_of size → area_of size ≤ length bytes
    → setting_up flags size bytes ≡ record { error = 0; value = 0; bytes = put_words bytes (fresh_words (area_of size)) }
set_fresh bytes flags size e low fits =
    set_of bytes flags size true (omega (arith, e)) low fits (same flags 1 e) ∙ ap (done_with 0) (fresh_there bytes (area_of size))

pub set_grown : (bytes : List ℕ) (flags size : ℕ) → flags ≤ 1 → flags ≢ 1 → 12 ≤ area_of size → area_of size ≤ length bytes
    → setting_up flags size bytes ≡ growing (heap_of bytes) (area_of size) bytes
set_grown bytes flags size h n low fits = set_of bytes flags size false h low fits (not_same flags 1 n)

pub fresh_inside : (n size : ℕ) → 12 ≤ size → size ≤ n → AreInside n (fresh_words size)
fresh_inside n size low fits =
    (omega (arith, low, fits), (omega (arith, low, fits), (omega (arith, low, fits), (omega (arith, low, fits), (omega (arith, low, fits), (omega (arith, low, fits), tt))))))

found_arms : (seek : Seek) (size : ℕ) (before : Option Block) (at len : ℕ) (bs : List (ℕ × ℕ)) (f : Block) (p : Bool) → passes seek (block at len) ≡ p
    → (spot_in seek (spot size before None) ((at, len) ∷ bs)).found ≡ Some f
    → ((spot_in seek (spot size (Some (block at len)) None) bs).found ≡ Some f → passes seek f ≡ true) → passes seek f ≡ true
found_arms seek size before at len bs f true e is later =
    let same : block at len ≡ f = some_same (block at len) f (sym (ap (λ (t : Spot). t.found) (passes_here seek size before at len bs e)) ∙ is) in
    let P : Block → Type 0 = λ b. passes seek b ≡ true in
    subst P same e
found_arms seek size before at len bs f false e is later =
    later (sym (ap (λ (t : Spot). t.found) (passes_later seek size before at len bs e)) ∙ is)

-- the block that was found passes
found_passes : (seek : Seek) (size : ℕ) (before : Option Block) (bs : List (ℕ × ℕ)) (f : Block) → (spot_in seek (spot size before None) bs).found ≡ Some f → passes seek f ≡ true
found_passes seek size before [] f is = absurd (some_none (sym is))
found_passes seek size before ((at, len) ∷ bs) f is =
    found_arms seek size before at len bs f (passes seek (block at len)) refl is (found_passes seek size (Some (block at len)) bs f)

-- the block that was found for a length is as long
pub long_enough : (bytes : List ℕ) (count : ℕ) (s : Spot) (f : Block) → AreBytes bytes → Some s ≡ option_map (spot_of (Length count)) (heap_of bytes) → s.found ≡ Some f → count ≤ f.length
long_enough bytes count s f b e found =
    let h = searched bytes (Length count) s b e in
    le_true count f.length (found_passes (Length count) h.heap.size None h.heap.blocks f (sym (ap (λ (t : Spot). t.found) h.ends) ∙ found))

-- the plan of DosSubAlloc where a block was found
pub plan_some : (p : Plan) (bytes : List ℕ) (size count : ℕ) (s : Spot) (f : Block) → AreBytes bytes → count ≡ rounded size
    → Some s ≡ option_map (spot_of (Length count)) (heap_of bytes) → IsSpot s → s.size ≤ length bytes → size ≢ 0 → size ≤ s.size - 8 → s.found ≡ Some f
    → p.answer.error ≡ 0 → p.answer.value ≡ f.offset → p.count ≤ 6 → words_of p ≡ taken_words bytes s.before f count → Plans p (taking size bytes) bytes
plan_some p bytes size count s f b r e i fits n m found error value few words =
    let h = searched bytes (Length count) s b e in
    let sized = searched_size bytes (Length count) s h.heap h.ends in
    let long = long_enough bytes count s f b e found in
    let W : ℕ → Type 0 = λ k. k % 4 ≡ 0 in
    let whole = subst W (sym r) (rounded_whole size) in
    let S : ℕ → Type 0 = λ k. s ≡ spot_of (Length k) h.heap in
    let T : ℕ → Type 0 = λ k. taking size bytes ≡ record { error = 0; value = f.offset; bytes = put_words bytes (taken_words bytes s.before f k) } in
    done_plan p bytes (taking size bytes) f.offset (taken_words bytes s.before f count) error value few words
    (taken_inside bytes (length bytes) count s f i fits found whole long)
    (subst T (sym r) (alloc_some bytes size h.heap s f h.is h.good n (omega (arith, sized, m)) (subst S r h.ends) found))

-- the plan of DosSubAlloc where none was found
pub plan_none : (p : Plan) (bytes : List ℕ) (size count : ℕ) (s : Spot) → AreBytes bytes → count ≡ rounded size
    → Some s ≡ option_map (spot_of (Length count)) (heap_of bytes) → size ≢ 0 → size ≤ s.size - 8 → s.found ≡ None
    → p.answer.error ≡ 311 → p.answer.value ≡ 0 → p.count ≡ 0 → Plans p (taking size bytes) bytes
plan_none p bytes size count s b r e n m found error value none =
    let h = searched bytes (Length count) s b e in
    let sized = searched_size bytes (Length count) s h.heap h.ends in
    let S : ℕ → Type 0 = λ k. s ≡ spot_of (Length k) h.heap in
    refused_plan p bytes (taking size bytes) 311 error value none
    (alloc_none bytes size h.heap s h.is h.good n (omega (arith, sized, m)) (subst S r h.ends) found)

-- the plan of DosSubAlloc of a size that doesn't suit
pub plan_size : (p : Plan) (bytes : List ℕ) (size : ℕ) (seek : Seek) (s : Spot) → AreBytes bytes → Some s ≡ option_map (spot_of seek) (heap_of bytes)
    → (size ≡ 0) ⊎ (s.size - 8 < size) → p.answer.error ≡ 313 → p.answer.value ≡ 0 → p.count ≡ 0 → Plans p (taking size bytes) bytes
plan_size p bytes size seek s b e bad error value none =
    let h = searched bytes seek s b e in
    let P : ℕ → Type 0 = λ n. (size ≡ 0) ⊎ (n - 8 < size) in
    refused_plan p bytes (taking size bytes) 313 error value none (alloc_size bytes size h.heap h.is (subst P (searched_size bytes seek s h.heap h.ends) bad))

-- a search for the heap's end is one for where the search ended
pub grow_searched : (bytes : List ℕ) (size : ℕ) (s : Spot) → AreBytes bytes → size ≡ word bytes 2 → Some s ≡ option_map (spot_of (Offset size)) (heap_of bytes)
    → Some s ≡ option_map (spot_of (Offset s.size)) (heap_of bytes)
grow_searched bytes size s b w e =
    let h = searched bytes (Offset size) s b e in
    let same : size ≡ s.size = w ∙ word_there bytes 2 h.heap.size h.good.size ∙ sym (searched_size bytes (Offset size) s h.heap h.ends) in
    let P : ℕ → Type 0 = λ n. Some s ≡ option_map (spot_of (Offset n)) (heap_of bytes) in
    subst P same e

-- the plan of DosSubFree of a range that is met
pub plan_met : (p : Plan) (bytes : List ℕ) (size : ℕ) (range : Block) (s : Spot) → AreBytes bytes → IsRange size range.offset range.length s.size → range.length ≡ rounded size
    → Some s ≡ option_map (spot_of (Offset range.offset)) (heap_of bytes) → is_met_by s range.offset (range.offset + range.length) ≡ true
    → p.answer.error ≡ 312 → p.answer.value ≡ 0 → p.count ≡ 0 → Plans p (giving_back range.offset size bytes) bytes
plan_met p bytes size range s b r l e met error value none =
    let h = searched bytes (Offset range.offset) s b e in
    let sized = searched_size bytes (Offset range.offset) s h.heap h.ends in
    let R : ℕ → Type 0 = λ k. is_met_by s range.offset (range.offset + k) ≡ true in
    refused_plan p bytes (giving_back range.offset size bytes) 312 error value none
    (free_met bytes range.offset size h.heap s h.is h.good (record { some = r.some; whole = r.whole; low = r.low; high = omega (arith, r.high, l, sized) }) h.ends (subst R l met))

-- the plan of DosSubFree of a range that was taken
pub plan_freed : (p : Plan) (bytes : List ℕ) (size : ℕ) (range : Block) (s : Spot) → AreBytes bytes → IsRange size range.offset range.length s.size → range.length ≡ rounded size
    → Some s ≡ option_map (spot_of (Offset range.offset)) (heap_of bytes) → IsSpot s → s.size ≤ length bytes → is_met_by s range.offset (range.offset + range.length) ≡ false
    → p.answer.error ≡ 0 → p.answer.value ≡ 0 → p.count ≤ 6 → words_of p ≡ (2, s.size) ∷ freed_words bytes s.before s.found range.offset range.length
    → Plans p (giving_back range.offset size bytes) bytes
plan_freed p bytes size range s b r l e i fits met error value few words =
    let h = searched bytes (Offset range.offset) s b e in
    let sized = searched_size bytes (Offset range.offset) s h.heap h.ends in
    let R : ℕ → Type 0 = λ k. is_met_by s range.offset (range.offset + k) ≡ false in
    let long = rounded_long size r.some in
    let W : ℕ → ℕ → Type 0 = λ n k. giving_back range.offset size bytes
    ≡ record { error = 0; value = 0; bytes = put_words bytes ((2, n) ∷ freed_words bytes s.before s.found range.offset k) } in
    let done = free_done bytes range.offset size h.heap s h.is h.good (record { some = r.some; whole = r.whole; low = r.low; high = omega (arith, r.high, l, sized) }) h.ends (subst R l met) in
    let at_size : W s.size (rounded size) = subst (λ n. W n (rounded size)) (sym sized) done in
    done_plan p bytes (giving_back range.offset size bytes) 0 ((2, s.size) ∷ freed_words bytes s.before s.found range.offset range.length) error value few words
    (freed_inside bytes (length bytes) s.size range.offset range.length s i fits (omega (arith, long, l)) (omega (arith, r.high, fits)))
    (subst (λ k. W s.size k) (sym l) at_size)

-- the plan of DosSubFree of no range
pub plan_no_range : (p : Plan) (bytes : List ℕ) (offset size count : ℕ) (seek : Seek) (s : Spot) → AreBytes bytes → count ≡ rounded size
    → Some s ≡ option_map (spot_of seek) (heap_of bytes) → (IsRange size offset count s.size → ⊥)
    → p.answer.error ≡ 313 → p.answer.value ≡ 0 → p.count ≡ 0 → Plans p (giving_back offset size bytes) bytes
plan_no_range p bytes offset size count seek s b r e n error value none =
    let h = searched bytes seek s b e in
    let sized = searched_size bytes seek s h.heap h.ends in
    refused_plan p bytes (giving_back offset size bytes) 313 error value none
    (free_size bytes offset size h.heap h.is (λ i. n (record { some = i.some; whole = i.whole; low = i.low; high = omega (arith, i.high, r, sized) })))

range_whole : (a b : ℕ) → a ≡ b → b % 4 ≡ 0 → a % 4 ≡ 0
range_whole a b e h = omega (arith, e, h)

-- the range of a block
pub range_of : (b : Block) (size offset count heap : ℕ) → IsRangeOf b size offset count heap → IsRange size b.offset b.length heap
range_of b size offset count heap r =
    let i = r.range in
    record { some = i.some; whole = range_whole b.offset offset r.at i.whole; low = omega (arith, i.low, r.at); high = omega (arith, i.high, r.at, r.long) }

-- the plan of DosSubSet of an area that is too small
pub plan_less : (p : Plan) (bytes : List ℕ) (area : ℕ) (s : Spot) → AreBytes bytes → Some s ≡ option_map (spot_of (Offset s.size)) (heap_of bytes) → area < s.size
    → p.answer.error ≡ 310 → p.answer.value ≡ 0 → p.count ≡ 0 → Plans p (growing (heap_of bytes) area bytes) bytes
plan_less p bytes area s b e l error value none =
    let h = searched bytes (Offset s.size) s b e in
    let sized = searched_size bytes (Offset s.size) s h.heap h.ends in
    refused_plan p bytes (growing (heap_of bytes) area bytes) 310 error value none (grow_less bytes area h.heap h.is (omega (arith, l, sized)))

-- the plan of DosSubSet of the heap's own size
pub plan_same : (p : Plan) (bytes : List ℕ) (area : ℕ) (s : Spot) → AreBytes bytes → Some s ≡ option_map (spot_of (Offset s.size)) (heap_of bytes) → area ≡ s.size
    → p.answer.error ≡ 0 → p.answer.value ≡ 0 → p.count ≡ 0 → Plans p (growing (heap_of bytes) area bytes) bytes
plan_same p bytes area s b e l error value none =
    let h = searched bytes (Offset s.size) s b e in
    let sized = searched_size bytes (Offset s.size) s h.heap h.ends in
    let no_words : words_of p ≡ [] = ap (λ k. take k p.words) none in
    done_plan p bytes (growing (heap_of bytes) area bytes) 0 [] error value (omega (arith, none)) no_words tt
    (grow_same bytes area h.heap h.is h.good (omega (arith, l, sized)))

size_clear : (bytes : List ℕ) (s : Spot) (h : Heap) (end : ℕ) → IsHeap bytes h → s ≡ spot_of (Offset s.size) h → s.size ≡ h.size → s.size < end → is_met_by s s.size end ≡ false
size_clear bytes s h end i ends sized wide =
    let O : ℕ → Type 0 = λ n. s ≡ spot_of (Offset n) h in
    let P : ℕ → Type 0 = λ n. is_met_by s n end ≡ false in
    subst P (sym sized) (grow_clear bytes end h s i (subst O sized ends) (omega (arith, wide, sized)))

-- nothing is met where a heap reaches further
pub more_clear : (bytes : List ℕ) (s : Spot) (end : ℕ) → AreBytes bytes → Some s ≡ option_map (spot_of (Offset s.size)) (heap_of bytes) → s.size < end
    → is_met_by s s.size end ≡ false
more_clear bytes s end b e wide =
    let h = searched bytes (Offset s.size) s b e in
    size_clear bytes s h.heap end h.good h.ends (searched_size bytes (Offset s.size) s h.heap h.ends) wide

-- the plan of DosSubSet of a larger area
pub plan_more : (p : Plan) (bytes : List ℕ) (area : ℕ) (s : Spot) → AreBytes bytes → Some s ≡ option_map (spot_of (Offset s.size)) (heap_of bytes) → IsSpot s → s.size ≤ length bytes
    → area % 4 ≡ 0 → area ≤ length bytes → s.size < area → p.answer.error ≡ 0 → p.answer.value ≡ 0 → p.count ≤ 6
    → words_of p ≡ (2, area) ∷ freed_words bytes s.before s.found s.size (area - s.size) → Plans p (growing (heap_of bytes) area bytes) bytes
plan_more p bytes area s b e i inside whole fits more error value few words =
    let h = searched bytes (Offset s.size) s b e in
    let sized = searched_size bytes (Offset s.size) s h.heap h.ends in
    let sw = i.size_whole in
    let O : ℕ → Type 0 = λ n. s ≡ spot_of (Offset n) h.heap in
    let P : ℕ → Type 0 = λ n. growing (heap_of bytes) area bytes
    ≡ record { error = 0; value = 0; bytes = put_words bytes ((2, area) ∷ freed_words bytes s.before s.found n (area - n)) } in
    done_plan p bytes (growing (heap_of bytes) area bytes) 0 ((2, area) ∷ freed_words bytes s.before s.found s.size (area - s.size)) error value few words
    (freed_inside bytes (length bytes) area s.size (area - s.size) s i inside (omega (arith, sw, whole, more)) (omega (arith, fits, more)))
    (subst P (sym sized) (grow_done bytes area h.heap s h.is h.good whole (omega (arith, more, sized)) (subst O sized h.ends)))

outside_cases : (area size : ℕ) → (12 ≤ area → area ≤ size → ⊥) → (area < 12) ⊎ (12 ≤ area) → (size < area) ⊎ (area ≤ size) → (area < 12) ⊎ (size < area)
outside_cases area size bad (inl a) b = inl a
outside_cases area size bad (inr a) (inl b) = inr b
outside_cases area size bad (inr a) (inr b) = absurd (bad a b)

-- the plan of DosSubSet of an area that doesn't suit the segment
pub plan_outside : (p : Plan) (bytes : List ℕ) (flags size area : ℕ) → area ≡ area_of size → flags ≤ 1 → (12 ≤ area → area ≤ length bytes → ⊥)
    → p.answer.error ≡ 313 → p.answer.value ≡ 0 → p.count ≡ 0 → Plans p (setting_up flags size bytes) bytes
plan_outside p bytes flags size area e h bad error value none =
    let P : ℕ → Type 0 = λ a. 12 ≤ a → a ≤ length bytes → ⊥ in
    refused_plan p bytes (setting_up flags size bytes) 313 error value none
    (set_size bytes flags size h (outside_cases (area_of size) (length bytes) (subst P e bad) (cases_lt (area_of size) 12) (cases_lt (length bytes) (area_of size))))

-- the plan of DosSubSet of a heap with nothing taken
pub plan_fresh : (p : Plan) (bytes : List ℕ) (flags size area : ℕ) → area ≡ area_of size → flags ≡ 1 → 12 ≤ area → area ≤ length bytes
    → p.answer.error ≡ 0 → p.answer.value ≡ 0 → p.count ≡ 6 → words_of p ≡ fresh_words area → Plans p (setting_up flags size bytes) bytes
plan_fresh p bytes flags size area e one low fits error value count words =
    let P : ℕ → Type 0 = λ a. setting_up flags size bytes ≡ record { error = 0; value = 0; bytes = put_words bytes (fresh_words a) } in
    done_plan p bytes (setting_up flags size bytes) 0 (fresh_words area) error value (omega (arith, count)) words (fresh_inside (length bytes) area low fits)
    (subst P (sym e) (set_fresh bytes flags size one (omega (arith, low, e)) (omega (arith, fits, e))))

-- the plan of DosSubSet of a heap that reaches further
pub plan_grown : (p : Plan) (bytes : List ℕ) (flags size area : ℕ) → area ≡ area_of size → flags ≤ 1 → flags ≢ 1 → 12 ≤ area → area ≤ length bytes
    → Plans p (growing (heap_of bytes) area bytes) bytes → Plans p (setting_up flags size bytes) bytes
plan_grown p bytes flags size area e h n low fits plan =
    let P : ℕ → Type 0 = λ a. Plans p (growing (heap_of bytes) a bytes) bytes in
    let Q : HeapRuling → Type 0 = λ r. Plans p r bytes in
    subst Q (sym (set_grown bytes flags size h n (omega (arith, low, e)) (omega (arith, fits, e)))) (subst P e plan)
