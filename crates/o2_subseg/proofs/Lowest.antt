-- What DosSubAlloc takes is free and the lowest; and over calls nothing is taken twice.
use Rattle.std.proofs.Common.{◌≡◌, ◌≢◌, ◌⊎◌, ℕ, ◌+◌, ◌-◌, ◌*◌, ◌/◌, ◌<◌, ◌≤◌, Bool, true, false, not, ◌&&◌, ◌||◌, ◌==◌, nat_le, nat_lt, List, Option, Some, None, if◌then◌else◌, refl, sym, ap, subst, ◌∙◌, inl, inr, arith}
use Rattle.std.proofs.lemmas.Bool.Decides.{nat_tests}
use Rattle.o2_world.specs.Heaps.{AreBytes, Heap, heap_of, is_free}
use Rattle.o2_world.specs.HeapRulings.{HeapRuling, refuses, leaves, rounded, area_of, take_from, setting_up, grown, growing, taken, taking_of, taking, giving_back_to, giving_back}
use Rattle.o2_subseg.specs.Laws.{unit_at, is_among, AreFree, HasHeap, HeapCall, Grows, Takes, Returns, ruling_of, Runs, no_call, one_call, TakesUnit, takes, HasReturn}
use Rattle.o2_subseg.proofs.Chains.{IsHeap, heap_read}
use Rattle.o2_subseg.proofs.Units.{none_behind, was_free, WasFree}
use Rattle.o2_subseg.proofs.Done.{TakeDone, take_done, free_done, take_leaves, free_leaves, unit_is, unit_inside, lt_or, differ, run_units, rounded_whole, taking_is, value_whole, not_le, not_zero, no_less}
use Rattle.o2_subseg.proofs.Sets.{Outcome, SetDone, set_outcome, take_outcome, free_outcome, set_done, grow_leaves, growing_is}

some_heap : (g h : Heap) → Some g ≡ Some h → g ≡ h
some_heap g h e = cc

was_taken : (count x value : ℕ) (bs left : List (ℕ × ℕ)) → take_from count bs ≡ Some (value, left) → value ≤ x → x < value + count → is_free bs x ≡ true
was_taken count x value bs left e a b =
    let P : Option (ℕ × List (ℕ × ℕ)) → Type 0 = λ r. WasFree count bs r x in
    subst P e (was_free count x bs) a b

among_low : (from count k : ℕ) → is_among from count k ≡ true → from ≤ k
among_low from count k h = grind (arith, nat_tests)

among_high : (from count k : ℕ) → is_among from count k ≡ true → k < from + count
among_high from count k h = grind (arith, nat_tests)

-- a unit whose first byte is free is free
byte_unit : {bytes : List ℕ} (h : Heap) (k : ℕ) → IsHeap bytes h → is_free h.blocks (4 * k) ≡ true → (k < h.size / 4) ⊎ (h.size / 4 ≤ k) → unit_at h k ≡ true
byte_unit h k i e (inl l) = unit_is h k l ∙ e
byte_unit h k i e (inr l) =
    let w = i.whole in
    absurd (differ (sym e ∙ none_behind h.size 8 (4 * k) h.blocks i.chain.laid (omega (arith, l, w))))

abbrev front_value : Option (ℕ × List (ℕ × ℕ)) → ℕ
front_value None = 0
front_value (Some t) = t.0

some_value : (v w : ℕ) (a b : List (ℕ × ℕ)) → ◌≡◌ {A = Option (ℕ × List (ℕ × ℕ))} (Some (v, a)) (Some (w, b)) → v ≡ w
some_value v w a b e = ap front_value e

-- what DosSubAlloc takes was free
pub take_free : (size : ℕ) (bytes : List ℕ) (h : Heap) → IsHeap bytes h → TakeDone size bytes h → AreFree h ((taking size bytes).value / 4) (rounded size / 4)
take_free size bytes h i d =
    let count = rounded size in
    let v = value_whole h.size count h.blocks d.value d.left i.chain.laid d.taken in
    let w = rounded_whole size in
    let P : ℕ → Type 0 = λ n. AreFree h (n / 4) (count / 4) in
    subst P (sym (ap (λ (r : HeapRuling). r.value) d.ruling)) (λ k m.
    let low = among_low (d.value / 4) (count / 4) k m in
    let high = among_high (d.value / 4) (count / 4) k m in
    let byte = was_taken count (4 * k) d.value h.blocks d.left d.taken (omega (arith, v, low)) (omega (arith, v, w, high)) in
    byte_unit h k i byte (lt_or k (h.size / 4)))

-- what DosSubAlloc takes is the lowest place
pub take_lowest : (size p : ℕ) (bytes : List ℕ) (h : Heap) → IsHeap bytes h → TakeDone size bytes h → AreFree h p (rounded size / 4) → (taking size bytes).value / 4 ≤ p
take_lowest size p bytes h i d free =
    let t = run_units size bytes h p i d.some free in
    let v = some_value d.value t.value d.left t.left (sym d.taken ∙ t.is) in
    let low = t.low in
    let is = ap (λ (r : HeapRuling). r.value) d.ruling in
    omega (arith, v, low, is)

take_error : (size : ℕ) (bytes : List ℕ) (h : Heap) (bad : Bool) (r : Option (ℕ × List (ℕ × ℕ)))
    → (if bad then refuses 313 bytes else taken r h.size bytes).error ≡ 311 → (bad ≡ false) × (r ≡ None)
unfolding taken
take_error size bytes h true r e = absurd (omega (arith, e))
take_error size bytes h false None e = (refl, refl)
take_error size bytes h false (Some (v, left)) e = absurd (omega (arith, e))

first_false : (a b : Bool) → (a || b) ≡ false → a ≡ false
first_false true b h = absurd (differ h)
first_false false b h = refl

none_some : {t : ℕ × List (ℕ × ℕ)} → None ≡ Some t → ⊥
none_some e = cc

-- where DosSubAlloc answers 311 nothing that is long enough is free
pub take_none : (size p : ℕ) (bytes : List ℕ) (h : Heap) → heap_of bytes ≡ Some h → IsHeap bytes h → (taking size bytes).error ≡ 311 → AreFree h p (rounded size / 4) → ⊥
take_none size p bytes h there i e free =
    let bad = (size == 0) || nat_lt (h.size - 8) size in
    let is = ap (λ (r : HeapRuling). r.error) (taking_is size bytes h there) in
    let t = take_error size bytes h bad (take_from (rounded size) h.blocks) (sym is ∙ e) in
    let some = not_zero size (first_false (size == 0) (nat_lt (h.size - 8) size) t.0) in
    let run = run_units size bytes h p i some free in
    none_some (sym t.1 ∙ run.is)

some_arms : (size : ℕ) (bytes : List ℕ) (h : Heap) (r : Option (ℕ × List (ℕ × ℕ))) → take_from (rounded size) h.blocks ≡ r
    → ((value : ℕ) (left : List (ℕ × ℕ)) → take_from (rounded size) h.blocks ≡ Some (value, left) → ⊥) → (taken r h.size bytes).error ≡ 311
unfolding taken
some_arms size bytes h None e n = refl
some_arms size bytes h (Some (v, left)) e n = absurd (n v left e)

test_false : (size heap : ℕ) → size ≢ 0 → size ≤ heap - 8 → ((size == 0) || nat_lt (heap - 8) size) ≡ false
test_false size heap n h = grind (arith, nat_tests)

-- where nothing that is long enough is free DosSubAlloc answers 311
pub take_fails : (size : ℕ) (bytes : List ℕ) (h : Heap) → heap_of bytes ≡ Some h → IsHeap bytes h → size ≢ 0 → size ≤ h.size - 8
    → ((p : ℕ) → AreFree h p (rounded size / 4) → ⊥) → (taking size bytes).error ≡ 311
take_fails size bytes h there i n fits none =
    let count = rounded size in
    let w = rounded_whole size in
    let bad = test_false size h.size n fits in
    ap (λ (r : HeapRuling). r.error) (taking_is size bytes h there)
    ∙ ap (λ b. (if b then refuses 313 bytes else taken (take_from count h.blocks) h.size bytes).error) bad
    ∙ some_arms size bytes h (take_from count h.blocks) refl (λ value left e.
    let v = value_whole h.size count h.blocks value left i.chain.laid e in
    none (value / 4) (λ k m.
    let low = among_low (value / 4) (count / 4) k m in
    let high = among_high (value / 4) (count / 4) k m in
    byte_unit h k i (was_taken count (4 * k) value h.blocks left e (omega (arith, v, low)) (omega (arith, v, w, high))) (lt_or k (h.size / 4))))

-- a unit isn't free in the heap that bytes have
abbrev IsTaken : ℕ → List ℕ → Type 0
IsTaken k bytes = (h : Heap) → heap_of bytes ≡ Some h → (k < h.size / 4) × (unit_at h k ≡ false)

still_taken : (k : ℕ) (old new : List ℕ) → heap_of new ≡ heap_of old → IsTaken k old → IsTaken k new
still_taken k old new e t h there = t h (sym e ∙ there)

heap_taken : (k : ℕ) (old bytes new : List ℕ) (size : ℕ) (unit : ℕ → Bool) → heap_of new ≡ heap_of bytes → HasHeap old bytes size unit → k < size / 4 → unit k ≡ false → IsTaken k new
heap_taken k old bytes new size unit e g l u h there =
    let same : g.heap ≡ h = some_heap g.heap h (sym g.is ∙ sym e ∙ there) in
    let P : Heap → Type 0 = λ x. (k < x.size / 4) × (unit_at x k ≡ false) in
    let sized = g.sized in
    subst P same (omega (arith, l, sized), g.each k l ∙ u)

heap_there : (o : Option Heap) (bytes : List ℕ) → heap_of bytes ≡ o → (o ≡ None → ⊥) → (h : Heap) × (heap_of bytes ≡ Some h)
heap_there None bytes e n = absurd (n refl)
heap_there (Some h) bytes e n = (h, e)

taking_none : (size : ℕ) (bytes : List ℕ) → heap_of bytes ≡ None → (taking size bytes).error ≡ 87
unfolding taking taking_of
taking_none size bytes e = ap (λ o. (taking_of o size bytes).error) e

freeing_none : (offset size : ℕ) (bytes : List ℕ) → heap_of bytes ≡ None → (giving_back offset size bytes).error ≡ 87
unfolding giving_back giving_back_to
freeing_none offset size bytes e = ap (λ o. (giving_back_to o offset size bytes).error) e

growing_none : (area : ℕ) (bytes : List ℕ) → heap_of bytes ≡ None → (growing (heap_of bytes) area bytes).error ≡ 87
unfolding growing
growing_none area bytes e = ap (λ o. (growing o area bytes).error) e

-- the heap of a DosSubAlloc that answers 0
pub take_heap : (size : ℕ) (bytes : List ℕ) → (taking size bytes).error ≡ 0 → (h : Heap) × (heap_of bytes ≡ Some h)
take_heap size bytes z = heap_there (heap_of bytes) bytes refl (λ e. let n = taking_none size bytes e in absurd (omega (arith, n, z)))

free_heap : (offset size : ℕ) (bytes : List ℕ) → (giving_back offset size bytes).error ≡ 0 → (h : Heap) × (heap_of bytes ≡ Some h)
free_heap offset size bytes z = heap_there (heap_of bytes) bytes refl (λ e. let n = freeing_none offset size bytes e in absurd (omega (arith, n, z)))

grow_heap : (size : ℕ) (bytes : List ℕ) → (setting_up 0 size bytes).error ≡ 0 → (h : Heap) × (heap_of bytes ≡ Some h)
grow_heap size bytes z =
    heap_there (heap_of bytes) bytes refl (λ e.
    let d = set_done 0 size bytes z in
    let is = ap (λ (r : HeapRuling). r.error) d.ruling in
    let n = growing_none (area_of size) bytes e in
    absurd (omega (arith, n, is, z)))

and_both : (a b : Bool) → a ≡ false → (a && b) ≡ false
and_both a b e = rw e refl

or_both_false : (a b : Bool) → a ≡ false → b ≡ false → (a || b) ≡ false
or_both_false a b e f = rw (e, f) refl

and_not : (a b : Bool) → b ≡ true → (a && not b) ≡ false
and_not true true e = refl
and_not false true e = refl
and_not a false e = absurd (differ (sym e))

below_more : (k old area : ℕ) → k < old / 4 → old ≤ area → k < area / 4
below_more k old area h l = omega (arith, h, l)

less_error : (area size : ℕ) (bytes : List ℕ) (less : Bool) (r : HeapRuling) → nat_lt area size ≡ less → (if less then refuses 310 bytes else r).error ≡ 0 → size ≤ area
less_error area size bytes true r e z = absurd (omega (arith, z))
less_error area size bytes false r e z = no_less area size e

grow_error : (area : ℕ) (bytes : List ℕ) (h : Heap) → heap_of bytes ≡ Some h → (growing (heap_of bytes) area bytes).error ≡ 0 → h.size ≤ area
grow_error area bytes h e z =
    less_error area h.size bytes (nat_lt area h.size) (leaves 0 (grown h area) bytes) refl (sym (ap (λ (r : HeapRuling). r.error) (growing_is bytes h area e)) ∙ z)

-- the heap doesn't shrink
grow_size : (size : ℕ) (bytes : List ℕ) (h : Heap) → heap_of bytes ≡ Some h → SetDone 0 size bytes → (setting_up 0 size bytes).error ≡ 0 → h.size ≤ area_of size
grow_size size bytes h e d z = grow_error (area_of size) bytes h e (sym (ap (λ (r : HeapRuling). r.error) d.ruling) ∙ z)

take_step : (k size : ℕ) (bytes new : List ℕ) → AreBytes bytes → IsTaken k bytes → heap_of new ≡ heap_of (taking size bytes).bytes → Outcome (taking size bytes) bytes → IsTaken k new
take_step k size bytes new b t e (inr (n, same)) = still_taken k bytes new (e ∙ ap heap_of same) t
take_step k size bytes new b t e (inl (z, left)) =
    let there = take_heap size bytes z in
    let h = there.0 in
    let i = heap_read bytes h b there.1 in
    let u = t h there.1 in
    heap_taken k bytes (taking size bytes).bytes new h.size (λ j. unit_at h j && not (is_among ((taking size bytes).value / 4) (rounded size / 4) j)) e
    (take_leaves size bytes h i (take_done size bytes h there.1 z)) u.0 (and_both (unit_at h k) (not (is_among ((taking size bytes).value / 4) (rounded size / 4) k)) u.1)

grow_step : (k size : ℕ) (bytes new : List ℕ) → AreBytes bytes → IsTaken k bytes → heap_of new ≡ heap_of (setting_up 0 size bytes).bytes → Outcome (setting_up 0 size bytes) bytes → IsTaken k new
grow_step k size bytes new b t e (inr (n, same)) = still_taken k bytes new (e ∙ ap heap_of same) t
grow_step k size bytes new b t e (inl (z, left)) =
    let there = grow_heap size bytes z in
    let h = there.0 in
    let i = heap_read bytes h b there.1 in
    let u = t h there.1 in
    let d = set_done 0 size bytes z in
    let leaves = grow_leaves size bytes h there.1 i d z in
    let wide = grow_size size bytes h there.1 d z in
    heap_taken k bytes (setting_up 0 size bytes).bytes new (area_of size) (λ j. unit_at h j || nat_le (h.size / 4) j) e leaves (below_more k h.size (area_of size) u.0 wide)
    (or_both_false (unit_at h k) (nat_le (h.size / 4) k) u.1 (not_le (h.size / 4) k u.0))

free_step : (k offset size : ℕ) (bytes new : List ℕ) (hit : Bool) → is_among (offset / 4) (rounded size / 4) k ≡ hit → AreBytes bytes → IsTaken k bytes
    → heap_of new ≡ heap_of (giving_back offset size bytes).bytes → Outcome (giving_back offset size bytes) bytes
    → (((giving_back offset size bytes).error ≡ 0) × (hit ≡ true)) ⊎ IsTaken k new
free_step k offset size bytes new hit f b t e (inr (n, same)) = inr (still_taken k bytes new (e ∙ ap heap_of same) t)
free_step k offset size bytes new true f b t e (inl (z, left)) = inl (z, refl)
free_step k offset size bytes new false f b t e (inl (z, left)) =
    let there = free_heap offset size bytes z in
    let h = there.0 in
    let i = heap_read bytes h b there.1 in
    let u = t h there.1 in
    inr (heap_taken k bytes (giving_back offset size bytes).bytes new h.size (λ j. unit_at h j || is_among (offset / 4) (rounded size / 4) j) e
    (free_leaves offset size bytes h i (free_done offset size bytes h there.1 z)) u.0 (or_both_false (unit_at h k) (is_among (offset / 4) (rounded size / 4) k) u.1 f))

-- a unit that isn't free isn't taken
not_taken : (k size : ℕ) (bytes : List ℕ) → AreBytes bytes → IsTaken k bytes → (taking size bytes).error ≡ 0 → is_among ((taking size bytes).value / 4) (rounded size / 4) k ≡ true → ⊥
not_taken k size bytes b t z m =
    let there = take_heap size bytes z in
    let h = there.0 in
    let i = heap_read bytes h b there.1 in
    differ (sym (take_free size bytes h i (take_done size bytes h there.1 z) k m) ∙ (t h there.1).1)

taken_once : {k : ℕ} {c : HeapCall} {r : HeapRuling} (bytes : List ℕ) → TakesUnit k c r → r ≡ ruling_of c bytes → AreBytes bytes → IsTaken k bytes → ⊥
taken_once {k} bytes (takes {size = size} z m) e b t =
    let P : HeapRuling → Type 0 = λ q. q.error ≡ 0 in
    let Q : HeapRuling → Type 0 = λ q. is_among (q.value / 4) (rounded size / 4) k ≡ true in
    not_taken k size bytes b t (subst P e z) (subst Q e m)

free_turn : (k offset size : ℕ) (bytes new : List ℕ) (rest : List (HeapCall × HeapRuling))
    → (((giving_back offset size bytes).error ≡ 0) × (is_among (offset / 4) (rounded size / 4) k ≡ true)) ⊎ IsTaken k new → (IsTaken k new → HasReturn k rest)
    → (((giving_back offset size bytes).error ≡ 0) × (is_among (offset / 4) (rounded size / 4) k ≡ true)) ⊎ HasReturn k rest
free_turn k offset size bytes new rest (inl h) f = inl h
free_turn k offset size bytes new rest (inr t) f = inr (f t)

-- a unit that isn't free isn't taken by a call behind others, none of which frees it
pub runs_kept : (k : ℕ) (b : HeapCall) {bytes last : List ℕ} {calls : List (HeapCall × HeapRuling)} → AreBytes bytes → IsTaken k bytes → Runs bytes calls last
    → TakesUnit k b (ruling_of b last) → HasReturn k calls
runs_kept k b are t (no_call {bytes = bytes}) u = absurd (taken_once bytes u refl are t)
runs_kept k b are t (one_call {bytes = bytes} {next = next} (Grows size) n e rest) u =
    runs_kept k b n (grow_step k size bytes next are t e (set_outcome 0 size bytes)) rest u
runs_kept k b are t (one_call {bytes = bytes} {next = next} (Takes size) n e rest) u =
    runs_kept k b n (take_step k size bytes next are t e (take_outcome size bytes)) rest u
runs_kept k b are t (one_call {bytes = bytes} {next = next} {calls = calls} (Returns offset size) n e rest) u =
    free_turn k offset size bytes next calls (free_step k offset size bytes next (is_among (offset / 4) (rounded size / 4) k) refl are t e (free_outcome offset size bytes))
    (λ s. runs_kept k b n s rest u)

-- what DosSubAlloc took isn't free behind it
pub take_leaves_taken : (k size : ℕ) (bytes new : List ℕ) → AreBytes bytes → (taking size bytes).error ≡ 0 → is_among ((taking size bytes).value / 4) (rounded size / 4) k ≡ true
    → heap_of new ≡ heap_of (taking size bytes).bytes → IsTaken k new
take_leaves_taken k size bytes new b z m e =
    let there = take_heap size bytes z in
    let h = there.0 in
    let i = heap_read bytes h b there.1 in
    let d = take_done size bytes h there.1 z in
    let inside = unit_inside h k (take_free size bytes h i d k m) in
    heap_taken k bytes (taking size bytes).bytes new h.size (λ j. unit_at h j && not (is_among ((taking size bytes).value / 4) (rounded size / 4) j)) e
    (take_leaves size bytes h i d) inside (and_not (unit_at h k) (is_among ((taking size bytes).value / 4) (rounded size / 4) k) m)

pub call_leaves_taken : {k : ℕ} {c : HeapCall} {r : HeapRuling} (bytes new : List ℕ) → TakesUnit k c r → r ≡ ruling_of c bytes → AreBytes bytes → heap_of new ≡ heap_of r.bytes → IsTaken k new
call_leaves_taken {k} bytes new (takes {size = size} z m) e b f =
    let P : HeapRuling → Type 0 = λ q. q.error ≡ 0 in
    let Q : HeapRuling → Type 0 = λ q. is_among (q.value / 4) (rounded size / 4) k ≡ true in
    take_leaves_taken k size bytes new b (subst P e z) (subst Q e m) (f ∙ ap (λ (q : HeapRuling). heap_of q.bytes) e)

-- what an outcome says where there is an error
pub outcome_refused : (r : HeapRuling) (bytes : List ℕ) → Outcome r bytes → r.error ≢ 0 → r.bytes ≡ bytes
outcome_refused r bytes (inl (z, left)) n = absurd (n z)
outcome_refused r bytes (inr (n, same)) m = same
