-- A process gets a hold by load at an index at which it holds nothing.
use Rattle.std.proofs.Common.{◌≡◌, ◌≢◌, ℕ, ◌+◌, ◌-◌, ◌<◌, ◌&&◌, ◌==◌, ◌⊎◌, Bool, true, false, inl, inr, List, length, Option, Some, None, IfSome, if◌then◌else◌, nat_lt, ◌^◌, get_or, set, ap, sym, ◌∙◌, refl, arith, subst}
use Rattle.std.proofs.lemmas.Bool.{cases_eq, eq-eqb, ne_eqb}
use Rattle.std.proofs.Math.ListN.{length-set}
use Rattle.o2_desc.specs.declared.descriptor.Descriptor.{Descriptor}
use Rattle.o2_desc.specs.Bytes.{empty}
use Rattle.o2_place.specs.declared.seg_id.SegId.{SegId}
use Rattle.o2_regions.specs.declared.held.Held.{Held}
use Rattle.o2_regions.specs.declared.held.Region.{Region}
use Rattle.o2_regions.specs.declared.held.Region.TheVariants.{Private, Shared}
use Rattle.o2_regions.specs.Described.{Describes, entry_at, placed}
use Rattle.o2_regions.specs.Kept.{AreKept}
use Rattle.o2_regions.specs.Maps.{Maps, IsProcess, IsRegion, emptied, entered, fresh, granted, held_at, holds_of, is_of, is_reserved, more_of, region_of, same_region, table_of}
use Rattle.o2_regions.proofs.AfterCalls.{held_at-granted, table_of-granted, granted-reserved, granted-processes}
use Rattle.o2_regions.proofs.Writes.{get_or-set}
use Rattle.o2_segbus.specs.Settled.{descriptor_at}
use Rattle.o2_opening.specs.Loads.{Clears, Loads, loaded_once}
use Rattle.o2_opening.proofs.Clearing.{marked_by}

either_length : (t : Bool) (xs : List Descriptor) (i : ℕ) (x : Descriptor) → length (if t then set xs i x else xs) ≡ length xs
either_length true xs i x = length-set xs i x
either_length false xs i x = refl

emptied_length : (o : Option Held) (xs : List Descriptor) (i : ℕ) → length (emptied o xs i) ≡ length xs
emptied_length None xs i = refl
emptied_length (Some h) xs i = either_length (h.holds - 1 == 0) xs i empty

either_other : (t : Bool) (xs : List Descriptor) (i j : ℕ) (x : Descriptor) → i < length xs → j ≢ i → get_or (if t then set xs i x else xs) j empty ≡ get_or xs j empty
either_other true xs i j x less other = get_or-set xs i x empty less j ∙ rw (ne_eqb j i other) refl
either_other false xs i j x less other = refl

emptied_other : (o : Option Held) (xs : List Descriptor) (i j : ℕ) → i < length xs → j ≢ i → get_or (emptied o xs i) j empty ≡ get_or xs j empty
emptied_other None xs i j less other = refl
emptied_other (Some h) xs i j less other = either_other (h.holds - 1 == 0) xs i j empty less other

is_itself : (id : SegId) → is_of id (Some (loaded_once id)) ≡ true
is_itself id = rw (eq-eqb id.key id.key refl, eq-eqb id.age id.age refl) refl

-- who holds the segment is told, and at the index there is a new descriptor
told_by : (t : Bool) (id : SegId) (limit : ℕ) (o : Option Held) (new old : Descriptor)
    → (if is_of id (if t then Some (loaded_once id) else o) then placed None limit (if t then new else old) else (if t then new else old))
    ≡ (if t then placed None limit new else (if is_of id o then placed None limit old else old))
told_by true id limit o new old = rw (is_itself id) refl
told_by false id limit o new old = refl

over : (t : Bool) (h : Held) (o : Option Held) → (if t then Some h else (if t then None else o)) ≡ (if t then Some h else o)
over true h o = refl
over false h o = refl

module _ (m c g n : Maps) (pid i rights limit : ℕ) (id : SegId) (k : AreKept c) (p : IsProcess c pid) (low : i < 8192) (within : i < length (table_of m pid)) (clears : Clears m c pid i)
    (is : g ≡ granted c pid i (loaded_once id) rights) (told : Describes g n id None limit) where
  here_none : held_at c pid i ≡ None
  here_none = clears.held pid i ∙ rw (eq-eqb pid pid refl, eq-eqb i i refl) refl

  held_g : (q j : ℕ) → held_at g q j ≡ (if (q == pid) && (j == i) then Some (loaded_once id) else held_at m q j)
  held_g q j =
      ap (λ (z : Maps). held_at z q j) is ∙ held_at-granted c pid i rights q j (loaded_once id) k p low
      ∙ ap (λ (o : Option Held). if (q == pid) && (j == i) then more_of o (loaded_once id) else held_at c q j) here_none
      ∙ ap (λ (o : Option Held). if (q == pid) && (j == i) then Some (loaded_once id) else o) (clears.held q j)
      ∙ over ((q == pid) && (j == i)) (loaded_once id) (held_at m q j)

  table_g : (q : ℕ) → table_of g q ≡ (if q == pid then set (table_of c pid) i (fresh rights) else table_of c q)
  table_g q =
      ap (λ (z : Maps). table_of z q) is ∙ table_of-granted c pid i rights q (loaded_once id) k p
      ∙ ap (λ (o : Option Held). if q == pid then entered o (loaded_once id) (table_of c pid) i rights else table_of c q) here_none

  own_c : table_of c pid ≡ emptied (held_at m pid i) (table_of m pid) i
  own_c = clears.tables pid ∙ rw (eq-eqb pid pid refl) refl

  own_g : table_of g pid ≡ set (emptied (held_at m pid i) (table_of m pid) i) i (fresh rights)
  own_g = table_g pid ∙ rw (eq-eqb pid pid refl) (ap (λ (xs : List Descriptor). set xs i (fresh rights)) own_c)

  other_g : (q : ℕ) → q ≢ pid → table_of g q ≡ table_of m q
  other_g q other = table_g q ∙ rw (ne_eqb q pid other) (clears.tables q ∙ rw (ne_eqb q pid other) refl)

  length_g : (q : ℕ) → length (table_of g q) ≡ length (table_of m q)
  length_g q = elim (cases_eq q pid) [
    | inl same ↦ subst (λ (z : ℕ). length (table_of g z) ≡ length (table_of m z)) (sym same)
        (ap (λ (xs : List Descriptor). length xs) own_g ∙ length-set (emptied (held_at m pid i) (table_of m pid) i) i (fresh rights) ∙ emptied_length (held_at m pid i) (table_of m pid) i)
    | inr other ↦ ap (λ (xs : List Descriptor). length xs) (other_g q other)
  ]

  entry_g : (q j : ℕ) → entry_at g q j ≡ (if (q == pid) && (j == i) then fresh rights else descriptor_at m q j)
  entry_g q j = elim (cases_eq q pid) [
    | inl same ↦ subst (λ (z : ℕ). entry_at g z j ≡ (if (z == pid) && (j == i) then fresh rights else descriptor_at m z j)) (sym same) (own (cases_eq j i))
    | inr other ↦ ap (λ (xs : List Descriptor). get_or xs j empty) (other_g q other) ∙ rw (ne_eqb q pid other) refl
  ]
    where
      xs : List Descriptor
      xs = emptied (held_at m pid i) (table_of m pid) i

      wide : i < length (emptied (held_at m pid i) (table_of m pid) i)
      wide = let e = emptied_length (held_at m pid i) (table_of m pid) i in omega (arith, e, within)

      at : (j : ℕ) → entry_at g pid j ≡ (if j == i then fresh rights else get_or (emptied (held_at m pid i) (table_of m pid) i) j empty)
      at j = ap (λ (ds : List Descriptor). get_or ds j empty) own_g ∙ get_or-set (emptied (held_at m pid i) (table_of m pid) i) i (fresh rights) empty wide j

      own : (j ≡ i) ⊎ (j ≢ i) → entry_at g pid j ≡ (if (pid == pid) && (j == i) then fresh rights else descriptor_at m pid j)
      own (inl same) = at j ∙ rw (eq-eqb pid pid refl, eq-eqb j i same) refl
      own (inr other) = at j ∙ rw (eq-eqb pid pid refl, ne_eqb j i other) (emptied_other (held_at m pid i) (table_of m pid) i j within other)

  pub loads : Loads m n pid i id rights limit
  loads = record {
    processes = ap (λ (z : Maps). z.processes) told.rest ∙ ap (λ (z : Maps). z.processes) is ∙ granted-processes c pid i rights (loaded_once id) ∙ clears.processes;
    held = λ q j. ap (λ (z : Maps). held_at z q j) told.rest ∙ held_g q j;
    lengths = λ q. told.lengths q ∙ length_g q;
    entries = λ q j less.
        (let inside : j < length (table_of g q) = let e = length_g q in omega (arith, e, less) in
        told.entries q j inside
        ∙ ap (λ (o : Option Held). if is_of id o then placed None limit (entry_at g q j) else entry_at g q j) (held_g q j)
        ∙ ap (λ (d : Descriptor). if is_of id (if (q == pid) && (j == i) then Some (loaded_once id) else held_at m q j) then placed None limit d else d) (entry_g q j)
        ∙ told_by ((q == pid) && (j == i)) id limit (held_at m q j) (fresh rights) (descriptor_at m q j));
    reserved = λ r j is_region.
        marked_by g n (ap (λ (z : Maps). z.reserved) told.rest) r j ∙ marked_by c g (ap (λ (z : Maps). z.reserved) is ∙ granted-reserved c pid i rights (loaded_once id)) r j ∙ clears.reserved r j is_region;
  }

-- What a grant at a cleared index asks.

pub cleared_held : (m c : Maps) (pid i : ℕ) → Clears m c pid i → held_at c pid i ≡ None
cleared_held m c pid i clears = clears.held pid i ∙ rw (eq-eqb pid pid refl, eq-eqb i i refl) refl

same_itself : (g : Region) → same_region g g ≡ true
same_itself (Private p) = eq-eqb p p refl
same_itself Shared = refl

is_region : (m : Maps) (pid : ℕ) (t : Bool) → IsProcess m pid → IsRegion m (if t then Private pid else Shared)
is_region m pid true p = p
is_region m pid false p = tt

pub cleared_open : (m c : Maps) (pid i : ℕ) → Clears m c pid i → IsProcess m pid → is_reserved c (region_of pid i) i ≡ true
cleared_open m c pid i clears p = clears.reserved (region_of pid i) i (is_region m pid (nat_lt i 4096) p) ∙ rw (same_itself (region_of pid i), eq-eqb i i refl) refl

pub cleared_process : (m c : Maps) (pid i : ℕ) → Clears m c pid i → IsProcess m pid → IsProcess c pid
cleared_process m c pid i clears p = let e = clears.processes in (p.0, omega (arith, e, p.1))

pub none_other : (o : Option Held) (id : SegId) → o ≡ None → IfSome o (λ h. h.id ≡ id)
none_other None id e = tt
none_other (Some h) id e = absurd (cc)

pub none_few : (o : Option Held) → o ≡ None → holds_of o + 1 < 2 ^ 32
none_few None e = omega arith
none_few (Some h) e = absurd (cc)
