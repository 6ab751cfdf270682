-- What a call is by its words, where the first ones are the same.
use Rattle.std.proofs.Common.{◌≡◌, ℕ, ◌+◌, ◌-◌, ◌*◌, Bool, true, false, cond, List, [], ◌∷◌, ◌++◌, Some, ap, ◌∙◌, refl, arith}
use Rattle.o2_isa.specs.View.{View, is_readable, is_writable}
use Rattle.o2_world.specs.declared.types.Argument.{Argument}
use Rattle.o2_world.specs.declared.types.Argument.TheVariants as shown
use Rattle.o2_world.specs.declared.types.Slot.{Slot}
use Rattle.o2_world.specs.declared.types.Slot.TheVariants.{Word, Long, Reads, Writes, Text, ToWord, ToLong, ToWords, Heap}
use Rattle.o2_world.specs.Calls.{Before, argument, has_arguments, trapped}
use Rattle.o2_world.specs.Outcomes.{CallRow, Outcome, Fails, Does, Waits, Leaves, come_out, served, worded}
use Rattle.o2_world.specs.SharedNames.{text_size}
use Rattle.o2_world.specs.Slots.{Pointer, are_good, heaps_at, heaps_in, pointers_at, pointers_in, shown_at, shown_in, targets_at, targets_in, words_in, words_of}
use Rattle.o2_run.specs.Room.{call_names, heaped, pointed, worded_names}
use Rattle.o2_gate.specs.Given.{AreSame}
use Rattle.o2_gate.proofs.Looks.{Looks}

module _ (a w : ℕ → ℕ) where
  module _ (n : ℕ) (same : AreSame (n + 2) a w) {X : Type 0} (F : ℕ → ℕ → ℕ → X) where
    by_three : F (a (n + 1)) (a n) (a (n - 1)) ≡ F (w (n + 1)) (w n) (w (n - 1))
    by_three =
        ap (λ (x : ℕ). F x (a n) (a (n - 1))) (same (n + 1) (omega arith))
        ∙ ap (λ (y : ℕ). F (w (n + 1)) y (a (n - 1))) (same n (omega arith))
        ∙ ap (λ (z : ℕ). F (w (n + 1)) (w n) z) (same (n - 1) (omega arith))

  abbrev aimed : (ℕ → ℕ → ℕ) → (ℕ → Bool) → ℕ → ℕ → ℕ → List Pointer
  aimed count good x y z = record { selector = x; offset = y; count = count x y; good = good } ∷ []

  shown_there : (s : Slot) (n : ℕ) → AreSame (n + words_of s) a w → shown_at s a n ≡ shown_at s w n
  shown_there Word n same = ap shown.Word (same n (omega arith))
  shown_there Long n same = by_three n same (λ x y z. shown.Long x y)
  shown_there Reads n same = by_three n same (λ x y z. shown.Far x y)
  shown_there Writes n same = by_three n same (λ x y z. shown.Far x y)
  shown_there Text n same = by_three n same (λ x y z. shown.Far x y)
  shown_there ToWord n same = by_three n same (λ x y z. shown.Far x y)
  shown_there ToLong n same = by_three n same (λ x y z. shown.Far x y)
  shown_there (ToWords count) n same = by_three n same (λ x y z. shown.Far x y)
  shown_there Heap n same = ap shown.Word (same n (omega arith))

  targets_there : (s : Slot) (n : ℕ) → AreSame (n + words_of s) a w → targets_at s a n ≡ targets_at s w n
  targets_there Word n same = refl
  targets_there Long n same = refl
  targets_there Reads n same = refl
  targets_there Writes n same = by_three n same (λ x y z. record { selector = x; offset = y; count = z; good = is_writable } ∷ [])
  targets_there Text n same = refl
  targets_there ToWord n same = by_three n same (λ x y z. aimed (λ s o. 2) is_writable x y z)
  targets_there ToLong n same = by_three n same (λ x y z. aimed (λ s o. 4) is_writable x y z)
  targets_there (ToWords count) n same = by_three n same (λ x y z. aimed (λ s o. 2 * count) is_writable x y z)
  targets_there Heap n same = ap (λ (x : ℕ). record { selector = x; offset = 0; count = 1; good = is_writable } ∷ []) (same n (omega arith))

  pointers_there : (v : View) (s : Slot) (n : ℕ) → AreSame (n + words_of s) a w → pointers_at s v a n ≡ pointers_at s v w n
  pointers_there v Word n same = refl
  pointers_there v Long n same = refl
  pointers_there v Reads n same = by_three n same (λ x y z. record { selector = x; offset = y; count = z; good = is_readable } ∷ [])
  pointers_there v Writes n same = by_three n same (λ x y z. record { selector = x; offset = y; count = z; good = is_writable } ∷ [])
  pointers_there v Text n same = by_three n same (λ x y z. aimed (text_size v) is_readable x y z)
  pointers_there v ToWord n same = by_three n same (λ x y z. aimed (λ s o. 2) is_writable x y z)
  pointers_there v ToLong n same = by_three n same (λ x y z. aimed (λ s o. 4) is_writable x y z)
  pointers_there v (ToWords count) n same = by_three n same (λ x y z. aimed (λ s o. 2 * count) is_writable x y z)
  pointers_there v Heap n same = refl

  heaps_there : (s : Slot) (n : ℕ) → AreSame (n + words_of s) a w → heaps_at s a n ≡ heaps_at s w n
  heaps_there Word n same = refl
  heaps_there Long n same = refl
  heaps_there Reads n same = refl
  heaps_there Writes n same = refl
  heaps_there Text n same = refl
  heaps_there ToWord n same = refl
  heaps_there ToLong n same = refl
  heaps_there (ToWords count) n same = refl
  heaps_there Heap n same = ap (λ (x : ℕ). record { selector = x; offset = 0; count = 1; good = is_writable } ∷ []) (same n (omega arith))

  here : (s : Slot) (n : ℕ) → AreSame (words_of s + n) a w → AreSame (n + words_of s) a w
  here s n same i lt = same i (omega (arith, lt))

  fewer : (s : Slot) (n : ℕ) → AreSame (words_of s + n) a w → AreSame n a w
  fewer s n same i lt = same i (omega (arith, lt))

  shown_same : (ss : List Slot) → AreSame (words_in ss) a w → shown_in ss a ≡ shown_in ss w
  shown_same [] same = refl
  shown_same (s ∷ ss) same =
      ap (λ (x : Argument). x ∷ shown_in ss a) (shown_there s (words_in ss) (here s (words_in ss) same))
      ∙ ap (λ (xs : List Argument). shown_at s w (words_in ss) ∷ xs) (shown_same ss (fewer s (words_in ss) same))

  targets_same : (ss : List Slot) → AreSame (words_in ss) a w → targets_in ss a ≡ targets_in ss w
  targets_same [] same = refl
  targets_same (s ∷ ss) same =
      ap (λ (xs : List Pointer). xs ++ targets_in ss a) (targets_there s (words_in ss) (here s (words_in ss) same))
      ∙ ap (λ (xs : List Pointer). targets_at s w (words_in ss) ++ xs) (targets_same ss (fewer s (words_in ss) same))

  pub pointers_same : (v : View) (ss : List Slot) → AreSame (words_in ss) a w → pointers_in ss v a ≡ pointers_in ss v w
  pointers_same v [] same = refl
  pointers_same v (s ∷ ss) same =
      ap (λ (xs : List Pointer). xs ++ pointers_in ss v a) (pointers_there v s (words_in ss) (here s (words_in ss) same))
      ∙ ap (λ (xs : List Pointer). pointers_at s v w (words_in ss) ++ xs) (pointers_same v ss (fewer s (words_in ss) same))

  pub heaps_same : (ss : List Slot) → AreSame (words_in ss) a w → heaps_in ss a ≡ heaps_in ss w
  heaps_same [] same = refl
  heaps_same (s ∷ ss) same =
      ap (λ (xs : List Pointer). xs ++ heaps_in ss a) (heaps_there s (words_in ss) (here s (words_in ss) same))
      ∙ ap (λ (xs : List Pointer). heaps_at s w (words_in ss) ++ xs) (heaps_same ss (fewer s (words_in ss) same))

  come_out_same : (r : CallRow) (b : Before) (next : ℕ) (o : Outcome) → AreSame (words_in r.slots) a w → come_out r b next a o ≡ come_out r b next w o
  come_out_same r b next (Fails error values) same = rw (shown_same r.slots same) refl
  come_out_same r b next (Does d) same = rw (shown_same r.slots same, targets_same r.slots same) refl
  come_out_same r b next Waits same = refl
  come_out_same r b next (Leaves action code) same = refl

-- The call by a row, whose words lie in SS.
module _ (r : CallRow) (b : Before) (next : ℕ) (w : ℕ → ℕ) (has : has_arguments b.view b.cpu (words_in r.slots) ≡ true) (same : AreSame (words_in r.slots) (argument b.view b.cpu) w) where
  abbrev pointers : List Pointer
  pointers = pointers_in r.slots b.view w

  good_is : are_good b.view (pointers_in r.slots b.view (argument b.view b.cpu)) ≡ are_good b.view pointers
  good_is = ap (are_good b.view) (pointers_same (argument b.view b.cpu) w b.view r.slots same)

  by_has : served r b next ≡ worded r b next (argument b.view b.cpu)
  unfolding served
  by_has = ap (λ (c : Bool). cond c (worded r b next (argument b.view b.cpu)) (trapped b 12)) has

  pub served_bad : are_good b.view pointers ≡ false → served r b next ≡ trapped b 13
  served_bad bad =
      by_has ∙ ap (λ (c : Bool). cond c (come_out r b next (argument b.view b.cpu) (r.outcome b (argument b.view b.cpu))) (trapped b 13)) (good_is ∙ bad)

  pub served_good : Looks r → are_good b.view pointers ≡ true → served r b next ≡ come_out r b next w (r.outcome b w)
  served_good looks good =
      by_has
      ∙ ap (λ (c : Bool). cond c (come_out r b next (argument b.view b.cpu) (r.outcome b (argument b.view b.cpu))) (trapped b 13)) (good_is ∙ good)
      ∙ come_out_same (argument b.view b.cpu) w r b next (r.outcome b (argument b.view b.cpu)) same
      ∙ ap (come_out r b next w) (looks b (argument b.view b.cpu) w same)

  -- the names of its pointers, and where these are good those of its heaps
  abbrev pub names_by : Bool → List Pointer → List Pointer → List ℕ
  names_by good ps hs = pointed b.view ps ++ cond good (heaped b.view hs) []

  pub names_are : call_names b (Some r) ≡ worded_names b.view r w
  names_are =
      ap (λ (c : Bool). cond c (worded_names b.view r (argument b.view b.cpu)) []) has
      ∙ ap (λ (ps : List Pointer). names_by (are_good b.view ps) ps (heaps_in r.slots (argument b.view b.cpu))) (pointers_same (argument b.view b.cpu) w b.view r.slots same)
      ∙ ap (λ (hs : List Pointer). names_by (are_good b.view pointers) pointers hs) (heaps_same (argument b.view b.cpu) w r.slots same)

pub served_few : (r : CallRow) (b : Before) (next : ℕ) → has_arguments b.view b.cpu (words_in r.slots) ≡ false → served r b next ≡ trapped b 12
unfolding served
served_few r b next few = ap (λ (c : Bool). cond c (worded r b next (argument b.view b.cpu)) (trapped b 12)) few

pub names_few : (r : CallRow) (b : Before) → has_arguments b.view b.cpu (words_in r.slots) ≡ false → call_names b (Some r) ≡ []
names_few r b few = ap (λ (c : Bool). cond c (worded_names b.view r (argument b.view b.cpu)) []) few
