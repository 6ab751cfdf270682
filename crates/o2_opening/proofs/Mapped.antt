-- A hold by load more, in maps that agree with a store whose segments are all out of memory.
use Rattle.std.proofs.Common.{◌≡◌, ◌≢◌, ◌⊎◌, inl, inr, ℕ, ◌+◌, ◌<◌, ◌≤◌, ◌&&◌, ◌||◌, ◌==◌, Bool, true, false, List, length, Option, Some, None, if◌then◌else◌, nat_lt, nat_le, ap, sym, ◌∙◌, refl, arith, subst}
use Rattle.std.specs.Prelude.{is_some, option_map, slice_get}
use Rattle.std.proofs.lemmas.Bool.{and_parts, cases_eq, cases_lt, eq-eqb, eqb-true, ne_eqb, or_cases}
use Rattle.std.proofs.lemmas.Bool.Decides.{nat_tests}
use Rattle.std.proofs.lemmas.List.{get_or_past}
use Rattle.o2_desc.specs.declared.descriptor.Descriptor.{Descriptor}
use Rattle.o2_desc.specs.Bits.{is_kind, rights_of, with_present, readable_code, run_only_code, writable_data, read_only_data, unmarked}
use Rattle.o2_desc.specs.Bytes.{empty}
use Rattle.o2_place.specs.declared.seg_id.SegId.{SegId}
use Rattle.o2_regions.specs.declared.held.Held.{Held as HeldThere}
use Rattle.o2_regions.specs.declared.held.Region.{Region}
use Rattle.o2_regions.specs.declared.held.Region.TheVariants.{Private, Shared}
use Rattle.o2_regions.specs.Described.{placed}
use Rattle.o2_regions.specs.Maps.{Maps, IsProcess, fresh, held_at, is_of, is_reserved, region_of, same_region, table_of}
use Rattle.o2_store.specs.Shelf.{Shelf, entry, place_of}
use Rattle.o2_segbus.specs.Settled.{Describes, IsSettledAt, descriptor_at}
use Rattle.o2_world.specs.Opening.{held_by_load}
use Rattle.o2_opening.specs.Loads.{Loads, loaded_once}
use Rattle.o2_stands.specs.Parts.{held_in, held_of}
use Rattle.o2_opening.specs.Starting.{AreMapped, IsLoaded, may_hold}
use Rattle.o2_opening.proofs.Clearing.{reserved_there}

-- Access bytes.

absent_access : (a : ℕ) → unmarked (with_present a false) ≡ with_present (rights_of (with_present a false)) false
absent_access a = omega arith

same_rights : (a : ℕ) → rights_of (with_present a false) ≡ rights_of a
same_rights a = omega arith

is_even : (a k : ℕ) → (a == k) ≡ true → rights_of k ≡ k → rights_of a ≡ a
is_even a k e f = let same : a ≡ k = eqb-true a k e in subst (λ (x : ℕ). rights_of x ≡ x) (sym same) f

-- the access byte of a kind says what it allows
kind_rights : (a : ℕ) → is_kind a ≡ true → rights_of a ≡ a
kind_rights a e = elim (or_cases ((a == readable_code) || (a == run_only_code) || (a == writable_data)) (a == read_only_data) e) [
  | inr d ↦ is_even a read_only_data d refl
  | inl abc ↦ elim (or_cases ((a == readable_code) || (a == run_only_code)) (a == writable_data) abc) [
    | inr c ↦ is_even a writable_data c refl
    | inl ab ↦ elim (or_cases (a == readable_code) (a == run_only_code) ab) [
      | inr b ↦ is_even a run_only_code b refl
      | inl a' ↦ is_even a readable_code a' refl
    ]
  ]
]

-- where nothing is in memory, a descriptor that says so is settled
settled_absent : (s : Shelf) (h : HeldThere) (limit : ℕ) (d : Descriptor) → place_of s h.id.key ≡ None → limit + 1 ≡ (entry s h.id.key).size → IsSettledAt s (Some h) (placed None limit d)
settled_absent s h limit d out size =
    subst (λ (o : Option (ℕ × ℕ)). Describes o (entry s h.id.key).size (rights_of (placed None limit d).access) (placed None limit d)) (sym out)
    (record { base = refl; limit = size; access = absent_access d.access })

held_is : (id : SegId) (o : Option HeldThere) → is_of id o ≡ true → (h : HeldThere) × ((o ≡ Some h) × (h.id.key ≡ id.key))
held_is id None e = absurd (cc)
held_is id (Some h) e = (h, (refl, eqb-true h.id.key id.key (and_parts (h.id.key == id.key) (h.id.age == id.age) e).0))

module _ (s : Shelf) (m n : Maps) (ids : List SegId) (pid i rights limit : ℕ) (id : SegId) (p : IsProcess m pid) (low : i < 8192) (some : 1 ≤ i) (is : AreMapped s m ids)
    (loads : Loads m n pid i id rights limit) (known : slice_get ids id.age ≡ Some id) (out : (k : ℕ) → place_of s k ≡ None) (size : limit + 1 ≡ (entry s id.key).size) where
  within : i < length (table_of m pid)
  within = let e = is.tables pid p in omega (arith, e, low)

  -- the descriptor of an index, wherever its table ends
  entry_n : (q j : ℕ) → descriptor_at n q j ≡ (if (q == pid) && (j == i) then placed None limit (fresh rights) else (if is_of id (held_at m q j) then placed None limit (descriptor_at m q j) else descriptor_at m q j))
      ⊎ (descriptor_at n q j ≡ descriptor_at m q j) × (((q == pid) && (j == i)) ≡ false)
  entry_n q j = elim (cases_lt j (length (table_of m q))) [
    | inl inside ↦ inl (loads.entries q j inside)
    | inr past ↦ inr (get_or_past (table_of n q) j empty (let e = loads.lengths q in omega (arith, e, past)) ∙ sym (get_or_past (table_of m q) j empty past), apart past)
  ]
    where
      apart : length (table_of m q) ≤ j → ((q == pid) && (j == i)) ≡ false
      apart past = elim (cases_eq q pid) [
        | inr other ↦ rw (ne_eqb q pid other) refl
        | inl same ↦ (let long : length (table_of m q) ≡ 8192 = ap (λ (z : ℕ). length (table_of m z)) same ∙ is.tables pid p in
            let other : j ≢ i = λ e. absurd (omega (arith, e, long, past, low)) in rw (eq-eqb q pid same, ne_eqb j i other) refl)
      ]

  settled_go : (q j : ℕ) (t u : Bool) → is_of id (held_at m q j) ≡ u
      → IsSettledAt s (if t then Some (loaded_once id) else held_at m q j) (if t then placed None limit (fresh rights) else (if u then placed None limit (descriptor_at m q j) else descriptor_at m q j))
  settled_go q j true u e = settled_absent s (loaded_once id) limit (fresh rights) (out id.key) size
  settled_go q j false true e =
      let h = held_is id (held_at m q j) e in
      subst (λ (o : Option HeldThere). IsSettledAt s o (placed None limit (descriptor_at m q j))) (sym h.1.0)
      (settled_absent s h.0 limit (descriptor_at m q j) (out h.0.id.key) (size ∙ ap (λ (k : ℕ). (entry s k).size) (sym h.1.1)))
  settled_go q j false false e = is.settled q j

  settled_n : (q j : ℕ) → IsSettledAt s (held_at n q j) (descriptor_at n q j)
  settled_n q j = elim (entry_n q j) [
    | inl told ↦
        subst (λ (o : Option HeldThere). IsSettledAt s o (descriptor_at n q j)) (sym (loads.held q j))
        (subst (λ (d : Descriptor). IsSettledAt s (if (q == pid) && (j == i) then Some (loaded_once id) else held_at m q j) d) (sym told)
        (settled_go q j ((q == pid) && (j == i)) (is_of id (held_at m q j)) refl))
    | inr kept ↦
        subst (λ (o : Option HeldThere). IsSettledAt s o (descriptor_at n q j)) (sym (loads.held q j ∙ ap (λ (t : Bool). if t then Some (loaded_once id) else held_at m q j) kept.1))
        (subst (λ (d : Descriptor). IsSettledAt s (held_at m q j) d) (sym kept.0) (is.settled q j))
  ]

  loaded_go : (t : Bool) (q j : ℕ) (h : HeldThere) → (if t then Some (loaded_once id) else held_at m q j) ≡ Some h → IsLoaded ids h
  loaded_go true q j h e = let same : loaded_once id ≡ h = cc in subst (λ (x : HeldThere). IsLoaded ids x) same (record { id = known; holds = refl; cause = refl; first = refl; reserved = refl })
  loaded_go false q j h e = is.held q j h e

  process_m : (q : ℕ) → IsProcess n q → IsProcess m q
  process_m q r = let e = loads.processes in (r.0, omega (arith, e, r.1))

  own_go : (a b : Bool) (h : HeldThere) (q j : ℕ) → is_reserved m (Private q) j ≡ is_some (held_at m q j) → a ≡ b
      → (if a then true else is_reserved m (Private q) j) ≡ is_some (if b then Some h else held_at m q j)
  own_go a true h q j e same = rw same refl
  own_go a false h q j e same = rw same e

  own_test : (q j : ℕ) → j < 4096 → (same_region (Private q) (region_of pid i) && (j == i)) ≡ ((q == pid) && (j == i))
  own_test q j small = elim (cases_lt i 4096) [
    | inl own ↦ (let l : nat_lt i 4096 ≡ true = grind (arith, nat_tests) in rw l refl)
    | inr shared ↦
        (let l : nat_lt i 4096 ≡ false = grind (arith, nat_tests) in
        let other : j ≢ i = λ e. absurd (omega (arith, e, small, shared)) in
        rw (l, ne_eqb j i other) (none (q == pid)))
  ]
    where
      none : (b : Bool) → false ≡ (b && false)
      none true = refl
      none false = refl

  pub mapped_more : AreMapped s n ids
  mapped_more = record {
    held = λ q j h at. loaded_go ((q == pid) && (j == i)) q j h (sym (loads.held q j) ∙ at);
    settled = settled_n;
    tables = λ q r. loads.lengths q ∙ is.tables q (process_m q r);
    own = λ q j r from to.
        loads.reserved (Private q) j (process_m q r)
        ∙ own_go (same_region (Private q) (region_of pid i) && (j == i)) ((q == pid) && (j == i)) (loaded_once id) q j (is.own q j (process_m q r) from to) (own_test q j to)
        ∙ ap is_some (sym (loads.held q j));
  }

  rights_go : (t u : Bool) (d : Descriptor) → t ≡ false → rights_of (if t then placed None limit (fresh rights) else (if u then placed None limit d else d)).access ≡ rights_of d.access
  rights_go true u d e = absurd (cc)
  rights_go false true d e = same_rights d.access
  rights_go false false d e = refl

  rights_kept : (q j : ℕ) → ((q == pid) && (j == i)) ≡ false → rights_of (descriptor_at n q j).access ≡ rights_of (descriptor_at m q j).access
  rights_kept q j apart = elim (entry_n q j) [
    | inl told ↦ ap (λ (d : Descriptor). rights_of d.access) told ∙ rights_go ((q == pid) && (j == i)) (is_of id (held_at m q j)) (descriptor_at m q j) apart
    | inr kept ↦ ap (λ (d : Descriptor). rights_of d.access) kept.0
  ]

  new_entry : descriptor_at n pid i ≡ placed None limit (fresh rights)
  new_entry = loads.entries pid i within ∙ rw (eq-eqb pid pid refl, eq-eqb i i refl) refl

  by_rights : (q j : ℕ) (o : Option HeldThere) → rights_of (descriptor_at n q j).access ≡ rights_of (descriptor_at m q j).access → option_map (held_of n q j) o ≡ option_map (held_of m q j) o
  by_rights q j None e = refl
  by_rights q j (Some h) e = ap (λ (r : ℕ). Some (record (held_of m q j h) { rights = r })) e

  -- what processes hold behind it, as a world has it
  pub held_more : is_kind rights ≡ true → (q j : ℕ) → held_in n q j ≡ (if (q == pid) && (j == i) then Some (held_by_load id.age rights) else held_in m q j)
  unfolding held_in
  held_more kind q j = go ((q == pid) && (j == i)) refl
    where
      here : held_in n pid i ≡ Some (held_by_load id.age rights)
      here =
          let at : held_at n pid i ≡ Some (loaded_once id) = loads.held pid i ∙ rw (eq-eqb pid pid refl, eq-eqb i i refl) refl in
          ap (option_map (held_of n pid i)) at
          ∙ ap (λ (d : Descriptor). Some (held_by_load id.age (rights_of d.access))) new_entry
          ∙ ap (λ (r : ℕ). Some (held_by_load id.age r)) (same_rights rights ∙ kind_rights rights kind)

      go : (t : Bool) → ((q == pid) && (j == i)) ≡ t → held_in n q j ≡ (if t then Some (held_by_load id.age rights) else held_in m q j)
      go true e =
          let both = and_parts (q == pid) (j == i) e in
          let a : pid ≡ q = sym (eqb-true q pid both.0) in
          let b : i ≡ j = sym (eqb-true j i both.1) in
          subst (λ (x : ℕ). held_in n x j ≡ Some (held_by_load id.age rights)) a (subst (λ (x : ℕ). held_in n pid x ≡ Some (held_by_load id.age rights)) b here)
      go false e =
          ap (option_map (held_of n q j)) (loads.held q j ∙ ap (λ (t : Bool). if t then Some (loaded_once id) else held_at m q j) e)
          ∙ by_rights q j (held_at m q j) (rights_kept q j e)

  -- and where they may hold something
  shared_kept : (may_hold m pid i ≡ true) → (j : ℕ) → is_reserved n Shared j ≡ is_reserved m Shared j
  shared_kept may j = loads.reserved Shared j tt ∙ elim (cases_lt i 4096) [
    | inl own ↦ (let l : nat_lt i 4096 ≡ true = grind (arith, nat_tests) in rw l refl)
    | inr shared ↦
        (let l : nat_lt i 4096 ≡ false = grind (arith, nat_tests) in
        let parts = and_parts (nat_le 1 pid && nat_le pid m.processes) (if nat_lt i 4096 then nat_le 1 i else is_reserved m Shared i) may in
        let taken : is_reserved m Shared i ≡ true = sym (ap (λ (t : Bool). if t then nat_le 1 i else is_reserved m Shared i) l) ∙ parts.1 in
        ap (λ (h : Region). if same_region Shared h && (j == i) then true else is_reserved m Shared j) (ap (λ (t : Bool). if t then Private pid else Shared) l) ∙ sym (reserved_there m Shared i taken Shared j))
  ]

  pub takes_same : (may_hold m pid i ≡ true) → (q j : ℕ) → may_hold n q j ≡ may_hold m q j
  takes_same may q j =
      ap (λ (k : ℕ). (nat_le 1 q && nat_le q k) && (if nat_lt j 4096 then nat_le 1 j else is_reserved n Shared j)) loads.processes
      ∙ ap (λ (b : Bool). (nat_le 1 q && nat_le q m.processes) && (if nat_lt j 4096 then nat_le 1 j else b)) (shared_kept may j)
