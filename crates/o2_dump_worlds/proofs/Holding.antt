-- What an image lists of a process is what it holds.
use Rattle.std.proofs.Common.{◌≡◌, ℕ, zero, suc, ◌+◌, ◌<◌, ◌≤◌, List, ◌++◌, true, false, Option, Some, None, refl, sym, ap, ◌∙◌, option_map, arith, inl, inr}
use Rattle.std.specs.Prelude.{flat_map, nat_lt, ◌==◌}
use Rattle.std.specs.List.{range_with_len}
use Rattle.std.proofs.lemmas.Bool.{cases_eq, cases_lt, cond-true, cond-false, eq-eqb}
use Rattle.std.proofs.lemmas.Bool.Decides.{nat_tests}
use Rattle.o2_desc.specs.declared.descriptor.Descriptor.{Descriptor}
use Rattle.o2_dump.specs.declared.parts.Held.{Held}
use Rattle.o2_dumping.specs.Told.{all_held, descriptor_at, held_from, held_told, hold_told, numbers, place_among}
use Rattle.o2_dumping.proofs.Holding.{all_from}
use Rattle.o2_regions.specs.declared.held.Held.{Held as HeldThere}
use Rattle.o2_regions.specs.Maps.{Maps, held_at}
use Rattle.o2_store.specs.Shelf.{Shelf}
use Rattle.o2_dump_worlds.specs.StandsFor.{held_under}

module _ (s : Shelf) (d : ℕ → Descriptor) (o : ℕ → Option HeldThere) where
  abbrev pub listed : ℕ → HeldThere → Held
  listed i h = record { index = i; descriptor = d i; segment = place_among (numbers s) h.id.key; holds = h.holds }

  abbrev at_index : ℕ → List Held
  at_index i = hold_told s i (d i) (o i)

  skip : (a i : ℕ) (x : Option HeldThere) (rest : List Held) → (a == i) ≡ false → held_under (hold_told s a (d a) x ++ rest) i ≡ held_under rest i
  skip a i None rest e = refl
  skip a i (Some h) rest e = cond-false (a == i) (Some (listed a h)) (held_under rest i) e

  hit : (a i : ℕ) (x : Option HeldThere) (rest : List Held) → (a == i) ≡ true → held_under rest i ≡ None → held_under (hold_told s a (d a) x ++ rest) i ≡ option_map (listed a) x
  hit a i None rest e none = none
  hit a i (Some h) rest e none = cond-true (a == i) (Some (listed a h)) (held_under rest i) e

  before : (n a i : ℕ) → i < a → held_under (flat_map at_index (range_with_len a n)) i ≡ None
  before zero a i l = refl
  before (suc n) a i l =
      let e : (a == i) ≡ false = grind (arith, nat_tests) in
      skip a i (o a) (flat_map at_index (range_with_len (a + 1) n)) e ∙ before n (a + 1) i (omega arith)

  pub behind : (n a i : ℕ) → a + n ≤ i → held_under (flat_map at_index (range_with_len a n)) i ≡ None
  behind zero a i l = refl
  behind (suc n) a i l =
      let e : (a == i) ≡ false = grind (arith, nat_tests) in
      skip a i (o a) (flat_map at_index (range_with_len (a + 1) n)) e ∙ behind n (a + 1) i (omega arith)

  pub among : (n a i : ℕ) → a ≤ i → i < a + n → held_under (flat_map at_index (range_with_len a n)) i ≡ option_map (listed i) (o i)
  among zero a i l m = absurd (omega arith)
  among (suc n) a i l m = elim (cases_eq a i) [
    | inl e ↦
        (hit a i (o a) (flat_map at_index (range_with_len (a + 1) n)) (eq-eqb a i e) (before n (a + 1) i (omega (arith, e)))
        ∙ ap (λ (z : ℕ). option_map (listed z) (o z)) e)
    | inr ne ↦
        (let e : (a == i) ≡ false = grind (arith, nat_tests) in
        skip a i (o a) (flat_map at_index (range_with_len (a + 1) n)) e ∙ among n (a + 1) i (omega arith) (omega arith))
  ]

abbrev pub listed_at : Shelf → Maps → ℕ → ℕ → HeldThere → Held
listed_at s m pid i h = listed s (descriptor_at m pid) (held_at m pid) i h

past_all : (m : Maps) (pid i : ℕ) → 8192 ≤ i → held_at m pid i ≡ None
past_all m pid i l = cond-false (nat_lt i 8192) _ None (grind (arith, nat_tests))

from_is : (s : Shelf) (m : Maps) (pid n i : ℕ) → i < n → held_under (held_from s m pid 0 n) i ≡ option_map (listed_at s m pid i) (held_at m pid i)
unfolding held_from held_told
from_is s m pid n i l = among s (descriptor_at m pid) (held_at m pid) n 0 i (omega arith) (omega (arith, l))

from_past : (s : Shelf) (m : Maps) (pid n i : ℕ) → n ≤ i → held_under (held_from s m pid 0 n) i ≡ None
unfolding held_from held_told
from_past s m pid n i l = behind s (descriptor_at m pid) (held_at m pid) n 0 i (omega (arith, l))

-- what is listed for an index of a process
pub listed_is : (s : Shelf) (m : Maps) (pid i : ℕ) → held_under (all_held s m pid) i ≡ option_map (listed_at s m pid i) (held_at m pid i)
listed_is s m pid i =
    ap (λ (z : List Held). held_under z i) (sym (all_from s m pid 8192 refl))
    ∙ elim (cases_lt i 8192) [
      | inl l ↦ from_is s m pid 8192 i l
      | inr l ↦ from_past s m pid 8192 i l ∙ ap (option_map (listed_at s m pid i)) (sym (past_all m pid i l))
    ]
