-- A process holds nothing at an index, which is reserved.
use Rattle.std.proofs.Common.{◌≡◌, ℕ, ◌+◌, ◌<◌, ◌≤◌, ◌&&◌, ◌==◌, ◌⊎◌, inl, inr, nat_le, nat_lt, Bool, true, false, List, Option, Some, None, IfSome, if◌then◌else◌, get_or, ap, sym, ◌∙◌, refl, arith, subst}
use Rattle.std.specs.Prelude.{is_some}
use Rattle.std.proofs.lemmas.Bool.{and_parts, cases_lt, eqb-true}
use Rattle.std.proofs.lemmas.Bool.Decides.{nat_tests}
use Rattle.o2_regions.specs.declared.held.Held.{Held}
use Rattle.o2_regions.specs.declared.held.Region.{Region}
use Rattle.o2_regions.specs.declared.held.Region.TheVariants.{Private, Shared}
use Rattle.o2_regions.specs.Kept.{AreKept}
use Rattle.o2_regions.specs.Maps.{Maps, IsProcess, IsRegion, base_of, end_of, dropped, held_at, is_reserved, is_taken, left_of, less_of, region_of, same_region, table_of, with_reserved}
use Rattle.o2_regions.proofs.AfterCalls.{held_at-dropped, table_of-dropped, dropped-reserved, dropped-processes}
use Rattle.o2_regions.proofs.Reserves.{is_reserved-with}
use Rattle.o2_opening.specs.Loads.{Clears}

-- the last hold goes
pub one_less : (o : Option Held) → IfSome o (λ h. h.holds ≡ 1) → less_of o ≡ None
one_less None once = refl
one_less (Some h) once = rw once refl

pub region_same : (g h : Region) → same_region g h ≡ true → g ≡ h
region_same (Private p) (Private q) e = let same : p ≡ q = grind arith in ap Private same
region_same (Private p) Shared e = absurd (cc)
region_same Shared (Private q) e = absurd (cc)
region_same Shared Shared e = refl

already : (t b : Bool) → (t ≡ true → b ≡ true) → b ≡ (if t then true else b)
already true b f = f refl
already false b f = refl

-- what was reserved at an index stays so
pub reserved_there : (m : Maps) (h : Region) (i : ℕ) → is_reserved m h i ≡ true → (g : Region) (j : ℕ) → is_reserved m g j ≡ (if same_region g h && (j == i) then true else is_reserved m g j)
reserved_there m h i e g j = already (same_region g h && (j == i)) (is_reserved m g j) go
  where
    go : (same_region g h && (j == i)) ≡ true → is_reserved m g j ≡ true
    go t =
        let p = and_parts (same_region g h) (j == i) t in
        let r : h ≡ g = sym (region_same g h p.0) in
        let k : i ≡ j = sym (eqb-true j i p.1) in
        subst (λ (z : ℕ). is_reserved m g z ≡ true) k (subst (λ (z : Region). is_reserved m z i ≡ true) r e)

-- by its marks alone
pub marked_by : (m n : Maps) → n.reserved ≡ m.reserved → (g : Region) (j : ℕ) → is_reserved n g j ≡ is_reserved m g j
marked_by m n e g j = ap (λ (r : List Bool). nat_lt j (end_of g) && get_or r (base_of g + j) false) e

module _ (m : Maps) (pid i : ℕ) (k : AreKept m) (p : IsProcess m pid) (low : i < 8192) (once : IfSome (held_at m pid i) (λ h. h.holds ≡ 1)) where
  gone : (q j : ℕ) → held_at (dropped m pid i) q j ≡ (if (q == pid) && (j == i) then None else held_at m q j)
  gone q j = held_at-dropped m pid i q j k p low ∙ ap (λ (o : Option Held). if (q == pid) && (j == i) then o else held_at m q j) (one_less (held_at m pid i) once)

  reserved_on : (n : Maps) → n ≡ dropped m pid i → (g : Region) (j : ℕ) → is_reserved n g j ≡ is_reserved m g j
  reserved_on n e g j = marked_by m n (ap (λ (z : Maps). z.reserved) e ∙ dropped-reserved m pid i) g j

  -- where the index was reserved
  pub cleared : (n : Maps) → n ≡ dropped m pid i → is_reserved m (region_of pid i) i ≡ true → Clears m n pid i
  cleared n e is = record {
    processes = ap (λ (z : Maps). z.processes) e ∙ dropped-processes m pid i;
    held = λ q j. ap (λ (z : Maps). held_at z q j) e ∙ gone q j;
    tables = λ q. ap (λ (z : Maps). table_of z q) e ∙ table_of-dropped m pid i q k p;
    reserved = λ g j r. reserved_on n e g j ∙ reserved_there m (region_of pid i) i is g j;
  }

  -- where it wasn't, and nothing was held there
  module _ (none : held_at m pid i ≡ None) (own : i < 4096) (free : is_reserved m (Private pid) i ≡ false) (some : 1 ≤ i) where
    region_is : region_of pid i ≡ Private pid
    region_is = let l : nat_lt i 4096 ≡ true = grind (arith, nat_tests) in rw l refl

    one_index : (j : ℕ) → (nat_le i j && nat_lt j (i + 1)) ≡ (j == i)
    one_index j = grind (arith, nat_tests)

    pub cleared_reserved : (n : Maps) → AreKept (dropped m pid i) → n ≡ with_reserved (dropped m pid i) (Private pid) i 1 true → Clears m n pid i
    cleared_reserved n kd e = record {
      processes = ap (λ (z : Maps). z.processes) e ∙ dropped-processes m pid i;
      held = λ q j. ap (λ (z : Maps). held_at z q j) e ∙ gone q j;
      tables = λ q. ap (λ (z : Maps). table_of z q) e ∙ table_of-dropped m pid i q k p;
      reserved = λ g j r.
          ap (λ (z : Maps). is_reserved z g j) e
          ∙ is_reserved-with (dropped m pid i) (Private pid) g i 1 j true kd (as_process (Private pid) p) (as_process g r) (omega (arith, own))
          ∙ ap (λ (t : Bool). if same_region g (Private pid) && t then true else is_reserved (dropped m pid i) g j) (one_index j)
          ∙ ap (λ (b : Bool). if same_region g (Private pid) && (j == i) then true else b) (reserved_on (dropped m pid i) refl g j)
          ∙ ap (λ (h : Region). if same_region g h && (j == i) then true else is_reserved m g j) (sym region_is);
    }
      where
        as_process : (g : Region) → IsRegion m g → IsRegion (dropped m pid i) g
        as_process (Private q) r = subst (λ (z : ℕ). (1 ≤ q) × (q ≤ z)) (sym (dropped-processes m pid i)) r
        as_process Shared r = r

own_region : (pid i : ℕ) → i < 4096 → region_of pid i ≡ Private pid
own_region pid i low = let l : nat_lt i 4096 ≡ true = grind (arith, nat_tests) in rw l refl

shared_region : (pid i : ℕ) → 4096 ≤ i → region_of pid i ≡ Shared
shared_region pid i from = let l : nat_lt i 4096 ≡ false = grind (arith, nat_tests) in rw l refl

held_left : (o : Option Held) (x : ℕ) → Some x ≡ left_of o → is_some o ≡ true
held_left None x e = absurd (cc)
held_left (Some h) x e = refl

none_left : (o : Option Held) → None ≡ left_of o → o ≡ None
none_left None e = refl
none_left (Some h) e = absurd (cc)

-- nothing was held where no hold was taken
pub unheld_dropped : (m : Maps) (pid i : ℕ) → None ≡ left_of (held_at m pid i) → held_at m pid i ≡ None
unheld_dropped m pid i none = none_left (held_at m pid i) none

module _ (m n : Maps) (pid i : ℕ) (k : AreKept m) (p : IsProcess m pid) (low : i < 8192) (once : IfSome (held_at m pid i) (λ h. h.holds ≡ 1))
    (own : i < 4096 → is_reserved m (Private pid) i ≡ is_some (held_at m pid i)) (shared : 4096 ≤ i → is_reserved m Shared i ≡ true) where
  -- a hold was taken
  pub cleared_some : (x : ℕ) → n ≡ dropped m pid i → Some x ≡ left_of (held_at m pid i) → Clears m n pid i
  cleared_some x e left = cleared m pid i k p low once n e (go (cases_lt i 4096))
    where
      go : (i < 4096) ⊎ (4096 ≤ i) → is_reserved m (region_of pid i) i ≡ true
      go (inl private) = ap (λ (g : Region). is_reserved m g i) (own_region pid i private) ∙ own private ∙ held_left (held_at m pid i) x left
      go (inr from) = ap (λ (g : Region). is_reserved m g i) (shared_region pid i from) ∙ shared from

  module _ (d : Maps) (is : d ≡ dropped m pid i) (none : None ≡ left_of (held_at m pid i)) where
    -- none was taken, so the index may be reserved
    pub unheld_still : held_at d pid i ≡ None
    unheld_still = ap (λ (z : Maps). held_at z pid i) is ∙ gone m pid i k p low once pid i ∙ go ((pid == pid) && (i == i))
      where
        go : (t : Bool) → (if t then None else held_at m pid i) ≡ None
        go true = refl
        go false = unheld_dropped m pid i none

    pub free_still : i < 4096 → is_reserved d (Private pid) i ≡ false
    free_still private = reserved_on m pid i k p low once d is (Private pid) i ∙ own private ∙ ap is_some (unheld_dropped m pid i none)

    pub cleared_none : AreKept d → 1 ≤ i → (i < 4096 → n ≡ with_reserved d (Private pid) i 1 true) → (4096 ≤ i → n ≡ d) → Clears m n pid i
    cleared_none kd some reserves stays = go (cases_lt i 4096)
      where
        go : (i < 4096) ⊎ (4096 ≤ i) → Clears m n pid i
        go (inl private) =
            cleared_reserved m pid i k p low once (unheld_dropped m pid i none) private (own private ∙ ap is_some (unheld_dropped m pid i none)) some n (subst (λ (z : Maps). AreKept z) is kd)
            (reserves private ∙ ap (λ (z : Maps). with_reserved z (Private pid) i 1 true) is)
        go (inr from) = cleared m pid i k p low once n (stays from ∙ is) (ap (λ (g : Region). is_reserved m g i) (shared_region pid i from) ∙ shared from)

-- the one index is free
pub one_free : (m : Maps) (pid i : ℕ) → held_at m pid i ≡ None → is_reserved m (Private pid) i ≡ false → (j : ℕ) → i ≤ j → j < i + 1 → is_taken m (Private pid) j ≡ false
one_free m pid i unheld free j from to =
    let same : i ≡ j = omega (arith, from, to) in
    subst (λ (z : ℕ). is_taken m (Private pid) z ≡ false) same (rw (unheld, free) refl)
