-- Each row writes no more than its pointers are for, and changes one of a few things.
use Rattle.std.proofs.Common.{◌≡◌, ◌≤◌, ◌==◌, ℕ, Bool, true, false, cond, List, [], ◌∷◌, length, take, refl, arith}
use Rattle.std.proofs.lemmas.Grind.{common_steps}
use Rattle.o2_isa.specs.declared.cpu.Cpu.{Cpu}
use Rattle.o2_isa.specs.View.{View, is_writable}
use Rattle.o2_world.specs.declared.types.Slot.{Slot}
use Rattle.o2_world.specs.declared.types.Slot.TheVariants.{Word, Reads, ToWord, ToWords, Heap}
use Rattle.o2_world.specs.CallParts.{Before, word_bytes}
use Rattle.o2_world.specs.Rulings.{Ruling, grants}
use Rattle.o2_world.specs.HugeRulings.{huge_shift}
use Rattle.o2_world.specs.HeapRulings.{HeapRuling, giving_back, setting_up, taking}
use Rattle.o2_world.specs.Slots.{Pointer, are_good, may_have_heap, pointer_at, pointers_in, targets_in, words_in}
use Rattle.o2_world.specs.Outcomes.{Outcome, row, ruled}
use Rattle.o2_world.specs.SemRulings.{SemRuling, Becomes, Refuses, Waiting}
use Rattle.o2_world.specs.Calls.{by_semaphore, exiting, heap_bytes, is_console, nothing_written, number_written, on_heap, read_slots, reading, rows, telling_pid, wanted_slots, writing}
use Rattle.o2_world.specs.Moves.{AllMoves, NoneMoves, OwnMoves}
use Rattle.o2_world.specs.RowLaws.{AreFitParts, EachRow, IsFitOutcome, IsLawful, OutcomeMoves, RuledMoves, fits_at}
use Rattle.o2_world.proofs.Fits.{are_of_value, fewer_fit, first_fits, heap_fits, value_fits}
use Rattle.o2_world.proofs.HeapSizes.{KeepsCount, giving_count, setting_count, taking_count}
use Rattle.o2_world.proofs.SegmentMoves.{aliasing_is, allocation_is, freeing_by_is, locking_is, reallocation_is, sizing_is, unlocking_is}
use Rattle.o2_world.proofs.SharedMoves.{getting_is, giving_is, naming_is, sharing_is}
use Rattle.o2_world.proofs.HugeMoves.{huge_allocation_is, huge_reallocation_is}

-- the row of a ruling

either_fits : (v : View) (ps : List Pointer) (t : Bool) (o q : Outcome) → (t ≡ true → IsFitOutcome v ps o) → IsFitOutcome v ps q → IsFitOutcome v ps (cond t o q)
either_fits v ps true o q h k = h refl
either_fits v ps false o q h k = k

either_moves : (b : Before) (c : Cpu) (t : Bool) (o q : Outcome) → OutcomeMoves b c o → OutcomeMoves b c q → OutcomeMoves b c (cond t o q)
either_moves b c true o q h k = h
either_moves b c false o q h k = k

by_its_ruling : (name : List ℕ) (ss : List Slot) (ruling : Before → (ℕ → ℕ) → Ruling) → are_of_value ss ≡ true → RuledMoves ruling → IsLawful (ruled name ss ruling)
by_its_ruling name ss ruling e moves =
    record {
      fits = λ b a good. either_fits b.view (targets_in ss a) ((ruling b a).error == 0) _ _ (λ none. value_fits b.view ss a (ruling b a).value e good) tt;
      moves = λ b a c same. either_moves b c ((ruling b a).error == 0) _ _ (moves.moves b a c same) tt;
    }

quiet : (value : Before → ℕ) → RuledMoves (λ (b : Before) (a : ℕ → ℕ). grants (value b) [])
quiet value = record { moves = λ b a c same. OwnMoves (NoneMoves refl) }

-- the other rows

took : (n : ℕ) (xs : List ℕ) → length (take n xs) ≤ n
took n xs = grind (arith, common_steps)

nothing : (b : Before) (c : Cpu) → AllMoves b c []
nothing b c = OwnMoves (NoneMoves refl)

leaves : (name : List ℕ) (ss : List Slot) → IsLawful (row name ss exiting)
leaves name ss = record { fits = λ b a good. tt; moves = λ b a c same. tt }

tells_pid : (name : List ℕ) → IsLawful (row name (ToWords 3 ∷ []) telling_pid)
tells_pid name = record { fits = λ b a good. ((first_fits b.view [] a 6 good).0, tt); moves = λ b a c same. nothing b c }

reads : (name : List ℕ) → IsLawful (row name read_slots reading)
reads name = record {
  fits = λ b a good. either_fits b.view (targets_in read_slots a) (a 5 == 0) _ _ (λ is. got b a good) tt;
  moves = λ b a c same. either_moves b c (a 5 == 0) _ _ (nothing b c) tt;
}
  where
    got : (b : Before) (a : ℕ → ℕ) → are_good b.view (pointers_in read_slots b.view a) ≡ true
        → (let part = take (a 2) b.input in AreFitParts b.view b.view.bytes (targets_in read_slots a) (part ∷ word_bytes (length part) ∷ []))
    got b a good =
        let part = take (a 2) b.input in
        let first = first_fits b.view (Word ∷ ToWord ∷ []) a (a 2) good in
        (fewer_fit b.view b.view.bytes (a 4) (a 3) (length part) (a 2) (took (a 2) b.input) first.0, ((first_fits b.view [] a 2 first.1).0, tt))

writes : (name : List ℕ) → IsLawful (row name (Word ∷ Reads ∷ Word ∷ ToWord ∷ []) writing)
writes name = record {
  fits = λ b a good. either_fits b.view (targets_in (Word ∷ Reads ∷ Word ∷ ToWord ∷ []) a) (is_console (a 5)) _ _ (λ is. value_fits b.view (Word ∷ Reads ∷ Word ∷ ToWord ∷ []) a (a 2) refl good) tt;
  moves = λ b a c same. either_moves b c (is_console (a 5)) _ _ (nothing b c) tt;
}

-- the row of a heap, whose selector is the first word that is pushed
by_its_heap : (name : List ℕ) (ss : List Slot) (ruling : (ℕ → ℕ) → List ℕ → HeapRuling) → are_of_value ss ≡ true
    → ((a : ℕ → ℕ) (bytes : List ℕ) → KeepsCount bytes (ruling a bytes)) → IsLawful (row name (Heap ∷ ss) (λ b a. on_heap (Heap ∷ ss) b (a (words_in ss)) (ruling a)))
by_its_heap name ss ruling e keeps =
    record {
      fits = λ b a good.
          let s = a (words_in ss) in
          let r = ruling a (heap_bytes b s) in
          either_fits b.view (targets_in (Heap ∷ ss) a) (may_have_heap b.view s) _ _
          (λ writable.
          either_fits b.view (targets_in (Heap ∷ ss) a) (r.error == 0) _ _
          (λ none. (heap_fits b s r.bytes writable (keeps a (heap_bytes b s)), value_fits b.view ss a r.value e good)) tt)
          tt;
      moves = λ b a c same.
          let s = a (words_in ss) in
          let r = ruling a (heap_bytes b s) in
          either_moves b c (may_have_heap b.view s) _ _ (either_moves b c (r.error == 0) _ _ (nothing b c) tt) tt;
    }

-- the rows of semaphores: what is written is four bytes or nothing

no_part_fits : (v : View) (ps : List Pointer) → AreFitParts v v.bytes ps []
no_part_fits v [] = tt
no_part_fits v (p ∷ ps) = tt

number_fits : (b : Before) (p : Pointer) (ps : List Pointer) (r : SemRuling) → fits_at b.view b.view.bytes p.selector p.offset 4 ≡ true
    → IsFitOutcome b.view (p ∷ ps) (by_semaphore number_written b r)
number_fits b p ps (Becomes number) fit = (fit, no_part_fits b.view ps)
number_fits b p ps Waiting fit = tt
number_fits b p ps (Refuses error) fit = tt

nothing_fits : (b : Before) (ps : List Pointer) (r : SemRuling) → IsFitOutcome b.view ps (by_semaphore nothing_written b r)
nothing_fits b ps (Becomes number) = no_part_fits b.view ps
nothing_fits b ps Waiting = tt
nothing_fits b ps (Refuses error) = tt

semaphore_moves : (written : ℕ → List (List ℕ)) (b : Before) (c : Cpu) (r : SemRuling) → OutcomeMoves b c (by_semaphore written b r)
semaphore_moves written b c (Becomes number) = nothing b c
semaphore_moves written b c Waiting = tt
semaphore_moves written b c (Refuses error) = tt

by_number : (name : List ℕ) (ss : List Slot) (ruling : Before → (ℕ → ℕ) → SemRuling) → IsLawful (row name (ToWords 2 ∷ ss) (λ b a. by_semaphore number_written b (ruling b a)))
by_number name ss ruling = record {
  fits = λ b a good. number_fits b (pointer_at a (words_in ss) 4 is_writable) (targets_in ss a) (ruling b a) (first_fits b.view ss a 4 good).0;
  moves = λ b a c same. semaphore_moves number_written b c (ruling b a);
}

by_wait : (name : List ℕ) (ruling : Before → (ℕ → ℕ) → SemRuling) → IsLawful (row name wanted_slots (λ b a. by_semaphore nothing_written b (ruling b a)))
by_wait name ruling = record {
  fits = λ b a good. nothing_fits b (targets_in wanted_slots a) (ruling b a);
  moves = λ b a c same. semaphore_moves nothing_written b c (ruling b a);
}

-- in the order of the table
pub lawful : EachRow IsLawful rows
lawful = (
  leaves _ _,
  (
    tells_pid _,
    (
      reads _,
      (
        writes _,
        (
          by_its_ruling _ _ _ refl allocation_is,
          (
            by_its_ruling _ _ _ refl reallocation_is,
            (
              by_its_ruling _ _ _ refl freeing_by_is,
              (
                by_its_ruling _ _ _ refl sizing_is,
                (
                  by_its_ruling _ _ _ refl locking_is,
                  (
                    by_its_ruling _ _ _ refl unlocking_is,
                    (
                      by_its_ruling _ _ _ refl aliasing_is,
                      (
                        by_its_ruling _ _ _ refl naming_is,
                        (
                          by_its_ruling _ _ _ refl sharing_is,
                          (
                            by_its_ruling _ _ _ refl giving_is,
                            (
                              by_its_ruling _ _ _ refl getting_is,
                              (
                                by_its_ruling _ _ _ refl huge_allocation_is,
                                (
                                  by_its_ruling _ _ _ refl huge_reallocation_is,
                                  (
                                    by_its_ruling _ _ _ refl (quiet (λ b. huge_shift)),
                                    (
                                      by_its_ruling _ _ _ refl (quiet (λ b. b.known.avail)),
                                      (
                                        by_its_heap _ (Word ∷ Word ∷ []) (λ a. setting_up (a 1) (a 0)) refl (λ a. setting_count (a 1) (a 0)),
                                        (
                                          by_its_heap _ (ToWord ∷ Word ∷ []) (λ a. taking (a 0)) refl (λ a. taking_count (a 0)),
                                          (by_its_heap _ (Word ∷ Word ∷ []) (λ a. giving_back (a 1) (a 0)) refl (λ a. giving_count (a 1) (a 0)), (by_number _ _ _, (by_number _ _ (λ b a. Becomes 0), (by_wait _ _, (by_number _ _ (λ b a. Becomes 0xFFFF), tt))))),
                                        ),
                                      ),
                                    ),
                                  ),
                                ),
                              ),
                            ),
                          ),
                        ),
                      ),
                    ),
                  ),
                ),
              ),
            ),
          ),
        ),
      ),
    ),
  ),
)
