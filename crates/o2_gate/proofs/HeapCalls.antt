-- A call on a heap by its row, and the names behind its pointers and its heap.
use Rattle.std.proofs.Common.{◌≡◌, ℕ, ◌≤◌, ◌==◌, ◌||◌, Bool, true, false, cond, List, [], ◌∷◌, ◌++◌, drop, Option, Some, ap, sym, ◌∙◌, refl, subst}
use Rattle.std.proofs.lemmas.List.{append-nil}
use Rattle.std.specs.Prelude.{Result}
use Rattle.o2_base.specs.declared.selector.Selector.{Selector}
use Rattle.o2_isa.specs.View.{View, Filling}
use Rattle.o2_isa.specs.Presence.{IsMissed, is_in}
use Rattle.o2_world.specs.Calls.{Before, by_heap, heap_bytes, on_heap, row_of}
use Rattle.o2_world.specs.Changes.{moved_lines}
use Rattle.o2_world.specs.HeapRulings.{HeapRuling}
use Rattle.o2_world.specs.Outcomes.{CallRow, Fails, Outcome, come_out}
use Rattle.o2_world.specs.Slots.{may_have_heap, pointers_in, targets_in, words_in}
use Rattle.o2_world.specs.declared.types.Slot.{Slot}
use Rattle.o2_world.specs.declared.types.Slot.TheVariants.{Heap}
use Rattle.o2_run.specs.Pieces.{counts, told_counts, LineHands, PartHands}
use Rattle.o2_run.specs.Room.{pointed}
use Rattle.o2_run.specs.declared.fault.Fault.{Fault}
use Rattle.o2_gate.specs.declared.called.Called.{Called}
use Rattle.o2_gate.specs.declared.row.Row.{Row}
use Rattle.o2_gate.specs.Befores.{boundless}
use Rattle.o2_gate.specs.Given.{pointers_by}
use Rattle.o2_gate.specs.Heaps.{IsHeapMissed, IsHeapThere, IsNoHeap, behind_heap, done_by, heap_names, is_heap_call, ruling_by, selector_of}
use Rattle.o2_gate.specs.Pointed.{ArePresent, IsGoodTest, are_ready}
use Rattle.o2_gate.specs.Replies.{FitsIn}
use Rattle.o2_gate.specs.Rows.{IsRow}
use Rattle.o2_gate.proofs.Fails.{HasFront, OnSink, only_line}
use Rattle.o2_gate.proofs.Heaps.{IsByHeap, by_heap_row, no_heaped}

-- The row.

module _ (service : ℕ) (late : is_heap_call service ≡ true) (x : Row) (r : CallRow) (is : row_of service ≡ Some r) (same : IsRow r x) where
  abbrev by : IsByHeap service r
  by = by_heap_row service r is

  abbrev tail : List Slot
  tail = drop 1 x.slots.now

  tail_is : behind_heap service r.slots ≡ tail
  tail_is =
      ap (λ (c : Bool). cond c (drop 1 r.slots) []) late
      ∙ ap (λ (ss : List Slot). drop 1 ss) (sym same.slots)

  pub slots_are : x.slots.now ≡ Heap ∷ tail
  slots_are =
      same.slots
      ∙ by.slots
      ∙ ap (λ (c : Bool). cond c (Heap ∷ behind_heap service r.slots) r.slots) late
      ∙ ap (λ (ss : List Slot). Heap ∷ ss) tail_is

  pub selector_is : (a : ℕ → ℕ) → selector_of service x.slots.now a ≡ a (words_in tail)
  selector_is a = ap (λ (c : Bool). a (words_in (cond c (drop 1 x.slots.now) []))) late

  pub words_are : words_in tail ≤ 5
  words_are = subst (λ (ss : List Slot). words_in ss ≤ 5) tail_is by.words

  pub fits_there : (value : ℕ) → value ≤ 65535 → FitsIn tail value
  fits_there value less = subst (λ (ss : List Slot). FitsIn ss value) tail_is (by.fits value less)

  aims_are : (v : View) (a : ℕ → ℕ) → targets_in tail a ≡ pointers_in tail v a
  aims_are v a = subst (λ (ss : List Slot). targets_in ss a ≡ pointers_in ss v a) tail_is (by.aims v a)

  pub ready_there : (v : View) (a : ℕ → ℕ) → IsGoodTest v (pointers_by x.slots.now a) → are_ready v (targets_in tail a) ≡ true
  ready_there v a test =
      let f : Filling = record { blocks = λ n. []; hidden = v.hidden } in
      ap (are_ready v) (aims_are (boundless f v) a)
      ∙ subst (λ (ss : List Slot). are_ready v (pointers_in ss (boundless f v) a) ≡ true) slots_are (test.ready f)

  pub outcome_is : (b : Before) (a : ℕ → ℕ) → r.outcome b a ≡ on_heap x.slots.now b (a (words_in tail)) (ruling_by service a)
  outcome_is b a =
      by.outcome b a
      ∙ ap (λ (c : Bool). cond c (on_heap r.slots b (selector_of service r.slots a) (ruling_by service a)) (r.outcome b a)) late
      ∙ ap (λ (ss : List Slot). on_heap ss b (selector_of service ss a) (ruling_by service a)) (sym same.slots)
      ∙ ap (λ (s : ℕ). on_heap x.slots.now b s (ruling_by service a)) (selector_is a)

  -- no heap may lie there
  pub outcome_none : (b : Before) (a : ℕ → ℕ) → may_have_heap b.view (a (words_in tail)) ≡ false → r.outcome b a ≡ Fails 315 []
  outcome_none b a none =
      outcome_is b a
      ∙ ap (λ (c : Bool). cond c (by_heap x.slots.now b (ruling_by service a (heap_bytes b (a (words_in tail))))) (Fails 315 [])) none

  pub outcome_some : (b : Before) (a : ℕ → ℕ) (m : HeapRuling) → may_have_heap b.view (a (words_in tail)) ≡ true
      → m ≡ ruling_by service a (heap_bytes b (a (words_in tail))) → r.outcome b a ≡ by_heap x.slots.now b m
  outcome_some b a m may e =
      outcome_is b a
      ∙ ap (λ (c : Bool). cond c (by_heap x.slots.now b (ruling_by service a (heap_bytes b (a (words_in tail))))) (Fails 315 [])) may
      ∙ ap (by_heap x.slots.now b) (sym e)

  -- its line is one put, and there is no piece
  pub heap_part : (b : Before) (next : ℕ) (a : ℕ → ℕ) (k y z : ℕ) (t u : Option (List ℕ)) (q : Result Called Fault) → OnSink q (HasFront t u (come_out r b next a (r.outcome b a)).lines)
      → LineHands (counts k k y z 0) q → PartHands (come_out r b next a (r.outcome b a)) (told_counts k k y z 0 t u) q
  unfolding moved_lines
  heap_part b next a k y z t u q =
      let m = ruling_by service a (heap_bytes b (a (words_in tail))) in
      subst (λ (o : Outcome). OnSink q (HasFront t u (come_out r b next a o).lines) → LineHands (counts k k y z 0) q → PartHands (come_out r b next a o) (told_counts k k y z 0 t u) q)
      (sym (outcome_is b a)) (go m (may_have_heap b.view (a (words_in tail))) (m.error == 0))
    where
      go : (m : HeapRuling) (c d : Bool) → OnSink q (HasFront t u (come_out r b next a (cond c (cond d (done_by x.slots.now b m) (Fails m.error [])) (Fails 315 []))).lines) → LineHands (counts k k y z 0) q
          → PartHands (come_out r b next a (cond c (cond d (done_by x.slots.now b m) (Fails m.error [])) (Fails 315 []))) (told_counts k k y z 0 t u) q
      go m true true = only_line (come_out r b next a (cond true (cond true (done_by x.slots.now b m) (Fails m.error [])) (Fails 315 []))) k y z t u q refl refl
      go m true false = only_line (come_out r b next a (cond true (cond false (done_by x.slots.now b m) (Fails m.error [])) (Fails 315 []))) k y z t u q refl refl
      go m false d = only_line (come_out r b next a (cond false (cond d (done_by x.slots.now b m) (Fails m.error [])) (Fails 315 []))) k y z t u q refl refl

-- The names.

in_behind : (n : ℕ) (xs ys : List ℕ) → is_in n ys ≡ true → is_in n (xs ++ ys) ≡ true
in_behind n [] ys e = e
in_behind n (x ∷ xs) ys e = go (x == n) (in_behind n xs ys e)
  where
    go : (c : Bool) → is_in n (xs ++ ys) ≡ true → (c || is_in n (xs ++ ys)) ≡ true
    go true later = refl
    go false later = later

both_present : (v : View) (xs ys : List ℕ) → ArePresent v xs → ArePresent v ys → ArePresent v (xs ++ ys)
both_present v [] ys a b n e = b n e
both_present v (x ∷ xs) ys a b n e = go (x == n) (a n) (both_present v xs ys (λ m here. a m (in_behind m (x ∷ []) xs here)) b n) e
  where
    go : (c : Bool) → ((c || is_in n xs) ≡ true → v.present n ≡ true) → (is_in n (xs ++ ys) ≡ true → v.present n ≡ true) → (c || is_in n (xs ++ ys)) ≡ true → v.present n ≡ true
    go true here later e = here refl
    go false here later e = later e

module _ (v : View) (slots : List Slot) (a : ℕ → ℕ) (s : ℕ) (test : IsGoodTest v (pointers_by slots a)) (f : Filling) where
  pub names_missed : (t : Selector) → IsHeapMissed v s t → IsMissed v t (heap_names (boundless f v) slots a s)
  names_missed t m =
      let x = m.named f in
      record {
        hold = x.hold;
        found_it = x.found_it;
        absent = x.absent;
        whole = x.whole;
        named = in_behind x.hold.name (pointed (boundless f v) (pointers_in slots (boundless f v) a)) _ x.named;
      }

  pub names_there : IsHeapThere v s → ArePresent v (heap_names (boundless f v) slots a s)
  names_there h = both_present v _ _ (test.names f) (h.names f)

  pub names_none : IsNoHeap v s → ArePresent v (heap_names (boundless f v) slots a s)
  names_none h =
      subst (λ (ns : List ℕ). ArePresent v (pointed (boundless f v) (pointers_in slots (boundless f v) a) ++ ns)) (sym (no_heaped (boundless f v) s (h.may f)))
      (subst (ArePresent v) (sym (append-nil (pointed (boundless f v) (pointers_in slots (boundless f v) a)))) (test.names f))
