-- Each row comes out alike with other numbers for names: a line for each.
use Rattle.std.proofs.Common.{◌≡◌, refl, sym, ◌∙◌, ap, subst, ℕ, ◌-◌, ◌/◌, ◌==◌, Bool, true, false, cond, List, [], ◌∷◌, length}
use Rattle.std.specs.Prelude.{Option, Some, None, drop, take}
use Rattle.o2_world.specs.declared.types.Argument.TheVariants as shown
use Rattle.o2_world.specs.declared.types.Slot.{Slot}
use Rattle.o2_world.specs.declared.types.Slot.TheVariants.{Word, Reads, ToWord, ToWords, Heap}
use Rattle.o2_world.specs.CallParts.{Before, argument, has_arguments, word_bytes}
use Rattle.o2_world.specs.Rulings.{Ruling, grants, members}
use Rattle.o2_world.specs.HugeRulings.{segments_of}
use Rattle.o2_world.specs.HeapRulings.{HeapRuling, giving_back, setting_up, taking}
use Rattle.o2_world.specs.SemRulings.{SemRuling, Becomes, Refuses, Waiting, number_in, requesting, waiting_for}
use Rattle.o2_world.specs.Slots.{are_good, may_have_heap, pointers_in, words_in}
use Rattle.o2_world.specs.Outcomes as outcome
use Rattle.o2_world.specs.Outcomes.{CallRow, Outcome, by_ruling, row, ruled}
use Rattle.o2_world.specs.Calls.{aliasing_by, allocation_by, avail_by, exiting, freeing_by, huge_allocation_by, huge_reallocation_by, is_console, locking_by, read_slots, reading, reallocation_by}
use Rattle.o2_world.specs.Calls.{by_heap, by_semaphore, clearing_semaphore, heap_bytes, heap_most, nothing_written, number_written, on_heap, requesting_semaphore, semaphore_at, setting_semaphore, timeout_in, waiting_for_semaphore}
use Rattle.o2_world.specs.Calls.{row_of, rows, served_by, serviced, shift_by, sizing_by, telling_pid, unlocking_by, writing}
use Rattle.o2_world.specs.RowLaws.{EachEntry, IsLawful}
use Rattle.o2_world.proofs.Lawful.{lawful}
use Rattle.o2_world.proofs.Rows.{of_entry}
use Rattle.o2_world.proofs.SegmentMoves.{held_there}
use Rattle.o2_alone.specs.Renaming.{Asking, GoesAlike, IsCalledAlike, asked, asking_of, asks_input, asks_members, asks_nothing, asks_others, asks_run, asks_segment}
use Rattle.o2_alone.specs.Renaming.{new_in_run, reaches_shared, renamed_ruling, some_where}
use Rattle.o2_alone.proofs.RenamedCalls.{ComesAlike, Does, IsRowAlike, Twins, called_renamed, heap_same, other, range_same, trapped_renamed}
use Rattle.o2_alone.proofs.RenamedRulings.{aliasing_renamed, allocation_renamed, freeing_renamed, locking_renamed, reallocation_renamed, sizing_renamed, unlocking_renamed}
use Rattle.o2_alone.proofs.RenamedRuns.{huge_allocation_renamed, huge_reallocation_renamed}

either_alike : (t : Twins) (b : Bool) (o q x y : Outcome) → ComesAlike t o q → ComesAlike t x y → ComesAlike t (cond b o x) (cond b q y)
either_alike t true o q x y h k = h
either_alike t false o q x y h k = k

-- Rulings.

record IsRulingAlike (asking : Asking) (ruling : Before → (ℕ → ℕ) → Ruling) : Type 0 where
  same : (t : Twins) (a : ℕ → ℕ) → GoesAlike t.names asking a (asking.segments t.one a) t.one (other t) → ruling (other t) a ≡ renamed_ruling t.names (ruling t.one a)

ruling_comes : (t : Twins) (ss : List Slot) (r q : Ruling) → q ≡ renamed_ruling t.names r → ComesAlike t (by_ruling ss t.one r) (by_ruling ss (other t) q)
ruling_comes t ss r q is =
    subst (λ (q : Ruling). ComesAlike t (by_ruling ss t.one r) (by_ruling ss (other t) q)) (sym is)
    (either_alike t (r.error == 0) _ _ _ _ (t.input, refl, λ e. e) refl)

by_its_ruling : (asking : Asking) (name : List ℕ) (ss : List Slot) (ruling : Before → (ℕ → ℕ) → Ruling) → IsRulingAlike asking ruling → IsRowAlike asking (ruled name ss ruling)
by_its_ruling asking name ss ruling h = record { alike = λ t a alike. ruling_comes t ss (ruling t.one a) (ruling (other t) a) (h.same t a alike) }

allocation_alike : IsRulingAlike asks_segment allocation_by
allocation_alike = record {
  same = λ t a alike.
      allocation_renamed t.names t.one.number t.one.known t.known t.knows (a 3) (a 0) (λ few. alike.room 1 (rw (few) refl)) alike.region;
}

reallocation_alike : IsRulingAlike asks_nothing reallocation_by
reallocation_alike = record { same = λ t a alike. reallocation_renamed t.names t.one.number t.one.known t.known t.knows (a 1) (a 0) }

freeing_alike : IsRulingAlike asks_nothing freeing_by
freeing_alike = record { same = λ t a alike. freeing_renamed t.names t.one.number t.one.known t.known t.knows (a 0) t.one.cpu }

sizing_alike : IsRulingAlike asks_nothing sizing_by
sizing_alike = record { same = λ t a alike. sizing_renamed t.names t.one.number t.one.known t.known t.knows (a 2) }

locking_alike : IsRulingAlike asks_nothing locking_by
locking_alike = record { same = λ t a alike. locking_renamed t.names t.one.number t.one.known t.known t.knows (a 0) }

unlocking_alike : IsRulingAlike asks_nothing unlocking_by
unlocking_alike = record { same = λ t a alike. unlocking_renamed t.names t.one.number t.one.known t.known t.knows (a 0) }

aliasing_alike : IsRulingAlike asks_nothing aliasing_by
aliasing_alike = record { same = λ t a alike. aliasing_renamed t.names t.one.number t.one.known t.known t.knows (a 2) }

huge_allocation_alike : IsRulingAlike asks_run huge_allocation_by
huge_allocation_alike = record {
  same = λ t a alike.
      huge_allocation_renamed t.names t.one.number t.one.known t.known t.knows (alike.names refl) (a 5) (a 4) (a 1) (a 0)
      (λ sound. alike.room _ (rw (sound) refl)) alike.region;
}

huge_reallocation_alike : IsRulingAlike asks_members huge_reallocation_by
huge_reallocation_alike = record {
  same = λ t a alike.
      let k = t.one.known in
      let n = t.one.number in
      huge_reallocation_renamed t.names n k t.known t.knows (alike.names refl) (a 2) (a 1) (a 0) t.one.cpu
      (λ h under. ap reaches_shared (sym under) ∙ alike.alone)
      (λ h under comes.
      let m = segments_of (a 2) (a 1) - length (members k n (a 0 / 8) h) in
      alike.room m (ap (new_in_run k n (a 0 / 8) (a 2) (a 1) t.one.cpu) under ∙ ap (λ (x : Bool). some_where x m) comes))
      (λ h under. held_there k n (a 0) h under);
}

shift_alike : IsRulingAlike asks_nothing shift_by
shift_alike = record { same = λ t a alike. refl }

avail_alike : IsRulingAlike asks_nothing avail_by
avail_alike = record { same = λ t a alike. ap (λ (n : ℕ). grants n []) t.knows.avail }

-- The other rows.

leaves : (name : List ℕ) (ss : List Slot) → IsRowAlike asks_nothing (row name ss exiting)
leaves name ss = record { alike = λ t a alike. refl }

tells_pid : (name : List ℕ) → IsRowAlike asks_nothing (row name (ToWords 3 ∷ []) telling_pid)
tells_pid name = record { alike = λ t a alike. (t.input, refl, λ e. e) }

reads : (name : List ℕ) → IsRowAlike asks_input (row name read_slots reading)
reads name = record {
  alike = λ t a alike.
      either_alike t (a 5 == 0) _ _ _ _ (
        drop (a 2) t.input,
        ap (λ (xs : List ℕ). outcome.Does (record {
          values = shown.Word (length (take (a 2) xs)) ∷ [];
          parts = take (a 2) xs ∷ word_bytes (length (take (a 2) xs)) ∷ [];
          changes = [];
          input = drop (a 2) t.input;
          piece = [];
        })) (alike.input refl),
        λ e. ap (drop (a 2)) e,
      ) refl;
}

writes : (name : List ℕ) → IsRowAlike asks_nothing (row name (Word ∷ Reads ∷ Word ∷ ToWord ∷ []) writing)
writes name = record {
  alike = λ t a alike.
      either_alike t (is_console (a 5)) _ _ _ _
      (t.input, ap (λ (xs : List ℕ). outcome.Does (record { values = shown.Word (a 2) ∷ []; parts = word_bytes (a 2) ∷ []; changes = []; input = t.input; piece = xs })) (range_same t (a 4) (a 3) (a 2)), λ e. e) refl;
}

-- a ruling over the heap that both see
heap_comes : (t : Twins) (ss : List Slot) (w v : Bool) (r q : HeapRuling) → v ≡ w → q ≡ r
    → ComesAlike t (cond w (by_heap ss t.one r) (outcome.Fails 315 [])) (cond v (by_heap ss (other t) q) (outcome.Fails 315 []))
heap_comes t ss w v r q writable same =
    subst (λ (x : Bool). ComesAlike t (cond w (by_heap ss t.one r) (outcome.Fails 315 [])) (cond x (by_heap ss (other t) q) (outcome.Fails 315 []))) (sym writable)
    (subst (λ (x : HeapRuling). ComesAlike t (cond w (by_heap ss t.one r) (outcome.Fails 315 [])) (cond w (by_heap ss (other t) x) (outcome.Fails 315 []))) (sym same)
    (either_alike t w _ _ _ _ (either_alike t (r.error == 0) _ _ _ _ (t.input, refl, λ e. e) refl) refl))

by_its_heap : (name : List ℕ) (ss : List Slot) (ruling : (ℕ → ℕ) → List ℕ → HeapRuling)
    → IsRowAlike asks_nothing (row name (Heap ∷ ss) (λ b a. on_heap (Heap ∷ ss) b (a (words_in ss)) (ruling a)))
by_its_heap name ss ruling = record {
  alike = λ t a alike.
      let s = a (words_in ss) in
      heap_comes t (Heap ∷ ss) (may_have_heap t.one.view s) (may_have_heap t.view s) (ruling a (heap_bytes t.one s)) (ruling a (heap_bytes (other t) s))
      (heap_same t s) (ap (ruling a) (range_same t s 0 heap_most));
}

-- a ruling over the semaphore that both see
semaphore_comes : (t : Twins) (written : ℕ → List (List ℕ)) (r q : SemRuling) → q ≡ r → ComesAlike t (by_semaphore written t.one r) (by_semaphore written (other t) q)
semaphore_comes t written r q is = subst (λ (x : SemRuling). ComesAlike t (by_semaphore written t.one r) (by_semaphore written (other t) x)) (sym is) (same r)
  where
    same : (x : SemRuling) → ComesAlike t (by_semaphore written t.one x) (by_semaphore written (other t) x)
    same (Becomes number) = (t.input, refl, λ e. e)
    same Waiting = refl
    same (Refuses error) = refl

semaphore_same : (t : Twins) (s offset : ℕ) → semaphore_at (other t) s offset ≡ semaphore_at t.one s offset
semaphore_same t s offset = ap number_in (range_same t s offset 4)

requests : (name : List ℕ) (ss : List Slot) → IsRowAlike asks_nothing (row name ss requesting_semaphore)
requests name ss = record {
  alike = λ t a alike.
      let ruling : ℕ → SemRuling = λ word. requesting word t.one.number (timeout_in a) in
      semaphore_comes t number_written (ruling (semaphore_at t.one (a 3) (a 2))) (ruling (semaphore_at (other t) (a 3) (a 2))) (ap ruling (semaphore_same t (a 3) (a 2)));
}

waits_for : (name : List ℕ) (ss : List Slot) → IsRowAlike asks_nothing (row name ss waiting_for_semaphore)
waits_for name ss = record {
  alike = λ t a alike.
      let ruling : ℕ → SemRuling = λ word. waiting_for word (timeout_in a) in
      semaphore_comes t nothing_written (ruling (semaphore_at t.one (a 3) (a 2))) (ruling (semaphore_at (other t) (a 3) (a 2))) (ap ruling (semaphore_same t (a 3) (a 2)));
}

clears : (name : List ℕ) (ss : List Slot) → IsRowAlike asks_nothing (row name ss clearing_semaphore)
clears name ss = record { alike = λ t a alike. semaphore_comes t number_written (Becomes 0) (Becomes 0) refl }

sets : (name : List ℕ) (ss : List Slot) → IsRowAlike asks_nothing (row name ss setting_semaphore)
sets name ss = record { alike = λ t a alike. semaphore_comes t number_written (Becomes 0xFFFF) (Becomes 0xFFFF) refl }

-- nothing is said of one that goes by what other processes hold
goes_by_others : (r : CallRow) → IsRowAlike asks_others r
goes_by_others r = record { alike = λ t a alike. absurd (let no : true ≡ false = alike.alone in cc) }

-- in the order of the table
alike_rows : EachEntry (λ (service : ℕ) (r : CallRow). IsRowAlike (asking_of service) r) rows
unfolding asking_of
alike_rows = (
  leaves _ _,
  (
    tells_pid _,
    (
      reads _,
      (
        writes _,
        (
          by_its_ruling _ _ _ _ allocation_alike,
          (
            by_its_ruling _ _ _ _ reallocation_alike,
            (
              by_its_ruling _ _ _ _ freeing_alike,
              (
                by_its_ruling _ _ _ _ sizing_alike,
                (
                  by_its_ruling _ _ _ _ locking_alike,
                  (
                    by_its_ruling _ _ _ _ unlocking_alike,
                    (
                      by_its_ruling _ _ _ _ aliasing_alike,
                      (
                        goes_by_others _,
                        (
                          goes_by_others _,
                          (
                            goes_by_others _,
                            (
                              goes_by_others _,
                              (
                                by_its_ruling _ _ _ _ huge_allocation_alike,
                                (
                                  by_its_ruling _ _ _ _ huge_reallocation_alike,
                                  (
                                    by_its_ruling _ _ _ _ shift_alike,
                                    (
                                      by_its_ruling _ _ _ _ avail_alike,
                                      (
                                        by_its_heap _ (Word ∷ Word ∷ []) (λ a. setting_up (a 1) (a 0)),
                                        (by_its_heap _ (ToWord ∷ Word ∷ []) (λ a. taking (a 0)), (by_its_heap _ (Word ∷ Word ∷ []) (λ a. giving_back (a 1) (a 0)), (requests _ _, (clears _ _, (waits_for _ _, (sets _ _, tt)))))),
                                      ),
                                    ),
                                  ),
                                ),
                              ),
                            ),
                          ),
                        ),
                      ),
                    ),
                  ),
                ),
              ),
            ),
          ),
        ),
      ),
    ),
  ),
)

-- where words lie in the stack and pointers are good, a call asks for as many segments as its row does
asked_is : (b : Before) (service : ℕ) (r : CallRow) → row_of service ≡ Some r → (let a : ℕ → ℕ = argument b.view b.cpu in
    has_arguments b.view b.cpu (words_in r.slots) ≡ true → are_good b.view (pointers_in r.slots b.view a) ≡ true → asked b service ≡ (asking_of service).segments b a)
asked_is b service r found lies good = rw (found, lies, good) refl

pub served_renamed : (service : ℕ) (t : Twins) (next : ℕ) → IsCalledAlike t.names service t.one (other t) → Does t (serviced t.one service next) (serviced (other t) service next)
served_renamed service t next alike = go (row_of service) refl
  where
    go : (o : Option CallRow) → row_of service ≡ o → Does t (served_by o t.one next) (served_by o (other t) next)
    go None found = trapped_renamed t 13
    go (Some r) found =
        called_renamed t r (asking_of service) next (of_entry (λ (n : ℕ) (r : CallRow). IsLawful r) lawful service r found)
        (of_entry (λ (n : ℕ) (r : CallRow). IsRowAlike (asking_of n) r) alike_rows service r found)
        (λ lies good. record {
          input = alike.input;
          alone = alike.alone;
          region = alike.region;
          names = alike.names;
          room = λ n e. alike.room n (asked_is t.one service r found lies good ∙ e);
        })
