-- What a hold by load leaves of the memory in which processes start.
use Rattle.std.proofs.Common.{◌≡◌, ◌≢◌, inl, inr, ℕ, ◌+◌, ◌<◌, ◌≤◌, ◌&&◌, ◌==◌, Bool, true, false, List, Option, Some, None, IfSome, if◌then◌else◌, nat_lt, nat_le, ap, sym, ◌∙◌, refl, arith}
use Rattle.std.specs.Prelude.{slice_get}
use Rattle.std.proofs.lemmas.Bool.{and_parts, cases_eq, cases_lt, eq-eqb, ne_eqb}
use Rattle.std.proofs.lemmas.Bool.Decides.{nat_tests}
use Rattle.o2_desc.specs.Bits.{is_kind}
use Rattle.o2_place.specs.declared.seg_id.SegId.{SegId}
use Rattle.o2_regions.specs.declared.held.Held.{Held as HeldThere}
use Rattle.o2_regions.specs.declared.held.Region.TheVariants.{Shared}
use Rattle.o2_regions.specs.Maps.{Maps, IsProcess, held_at, is_reserved}
use Rattle.o2_store.specs.Shelf.{Shelf, entry, place_of}
use Rattle.o2_world.specs.Opening.{held_by_load}
use Rattle.o2_opening.specs.Loads.{Loads}
use Rattle.o2_stands.specs.Parts.{held_in}
use Rattle.o2_opening.specs.Starting.{AreMapped, IsLoaded, may_hold}
use Rattle.o2_opening.proofs.Mapped.{held_more, mapped_more, takes_same}

-- What it says that a process may hold something at an index.

le_is : (m n : ℕ) → nat_le m n ≡ true → m ≤ n
le_is m n e = grind (arith, nat_tests)

lt_is : (m n : ℕ) → nat_lt m n ≡ true → m < n
lt_is m n e = grind (arith, nat_tests)

module _ (m : Maps) (pid i : ℕ) (may : may_hold m pid i ≡ true) where
  parts : ((nat_le 1 pid && nat_le pid m.processes) ≡ true) × ((if nat_lt i 4096 then nat_le 1 i else is_reserved m Shared i) ≡ true)
  parts = and_parts (nat_le 1 pid && nat_le pid m.processes) (if nat_lt i 4096 then nat_le 1 i else is_reserved m Shared i) may

  pub may_process : IsProcess m pid
  may_process =
      let both = and_parts (nat_le 1 pid) (nat_le pid m.processes) parts.0 in
      (le_is 1 pid both.0, le_is pid m.processes both.1)

  pub may_shared : 4096 ≤ i → is_reserved m Shared i ≡ true
  may_shared high =
      let l : nat_lt i 4096 ≡ false = grind (arith, nat_tests) in
      sym (ap (λ (t : Bool). if t then nat_le 1 i else is_reserved m Shared i) l) ∙ parts.1

  pub may_some : 1 ≤ i
  may_some = elim (cases_lt i 4096) [
    | inl own ↦
        (let l : nat_lt i 4096 ≡ true = grind (arith, nat_tests) in
        le_is 1 i (sym (ap (λ (t : Bool). if t then nat_le 1 i else is_reserved m Shared i) l) ∙ parts.1))
    | inr shared ↦ omega (arith, shared)
  ]

  pub may_low : i < 8192
  may_low = elim (cases_lt i 4096) [
    | inl own ↦ omega (arith, own)
    | inr shared ↦ lt_is i 8192 (and_parts (nat_lt i 8192) _ (may_shared shared)).0
  ]

once_go : (ids : List SegId) (o : Option HeldThere) → ((h : HeldThere) → o ≡ Some h → IsLoaded ids h) → IfSome o (λ h. h.holds ≡ 1)
once_go ids None held = tt
once_go ids (Some h) held = (held h refl).holds

-- what is held is held once
pub held_once : (s : Shelf) (m : Maps) (ids : List SegId) (pid i : ℕ) → AreMapped s m ids → IfSome (held_at m pid i) (λ h. h.holds ≡ 1)
held_once s m ids pid i is = once_go ids (held_at m pid i) (is.held pid i)

turned : (i j : ℕ) → (j == i) ≡ (i == j)
turned i j = elim (cases_eq i j) [
  | inl same ↦ eq-eqb j i (sym same) ∙ sym (eq-eqb i j same)
  | inr other ↦ ne_eqb j i (λ e. other (sym e)) ∙ sym (ne_eqb i j other)
]

module _ (s : Shelf) (m n : Maps) (ids : List SegId) (pid i rights limit : ℕ) (id : SegId) (is : AreMapped s m ids) (loads : Loads m n pid i id rights limit) (may : may_hold m pid i ≡ true)
    (known : slice_get ids id.age ≡ Some id) (out : (k : ℕ) → place_of s k ≡ None) (size : limit + 1 ≡ (entry s id.key).size) where
  pub mapped_held : AreMapped s n ids
  mapped_held = mapped_more s m n ids pid i rights limit id (may_process m pid i may) (may_low m pid i may) (may_some m pid i may) is loads known out size

  seen : is_kind rights ≡ true → (q j : ℕ) → held_in n q j ≡ (if (q == pid) && (j == i) then Some (held_by_load id.age rights) else held_in m q j)
  seen kind q j = held_more s m n ids pid i rights limit id (may_process m pid i may) (may_low m pid i may) (may_some m pid i may) is loads known out size kind q j

  pub holds_at : is_kind rights ≡ true → (name : ℕ) → id.age ≡ name → (j : ℕ) → held_in n pid j ≡ (if i == j then Some (held_by_load name rights) else held_in m pid j)
  holds_at kind name age j =
      seen kind pid j ∙ ap (λ (t : Bool). if t && (j == i) then Some (held_by_load id.age rights) else held_in m pid j) (eq-eqb pid pid refl)
      ∙ ap (λ (t : Bool). if t then Some (held_by_load id.age rights) else held_in m pid j) (turned i j)
      ∙ ap (λ (k : ℕ). if i == j then Some (held_by_load k rights) else held_in m pid j) age

  pub others_hold : is_kind rights ≡ true → (q j : ℕ) → q ≢ pid → held_in n q j ≡ held_in m q j
  others_hold kind q j other = seen kind q j ∙ rw (ne_eqb q pid other) refl

  pub takes_on : (q j : ℕ) → may_hold n q j ≡ may_hold m q j
  takes_on q j = takes_same s m n ids pid i rights limit id (may_process m pid i may) (may_low m pid i may) (may_some m pid i may) is loads known out size may q j
