-- What grants and drops leave, index by index.
use Rattle.std.proofs.Common.{◌≡◌, ℕ, ◌+◌, ◌-◌, ◌<◌, ◌&&◌, inl, inr, Bool, true, false, List, [], Option, Some, None, cond, eqb, arith, refl, sym, ap, subst, get_or, set}
use Rattle.std.proofs.lemmas.Bool.{cases_eq, eq-eqb, ne_eqb}
use Rattle.o2_desc.specs.declared.descriptor.Descriptor.{Descriptor}
use Rattle.o2_desc.specs.Bytes.{empty}
use Rattle.o2_regions.specs.declared.held.Held.{Held}
use Rattle.o2_regions.specs.Kept.{AreKept}
use Rattle.o2_regions.specs.Maps.{IsProcess, Maps, dropped, dropped_over, emptied, entered, fresh, granted, granted_over, held_at, less_of, more_of, table_of, with_entry, with_held}
use Rattle.o2_regions.proofs.Keeps.{held_at-set, place_in}
use Rattle.o2_regions.proofs.Writes.{get_or-set}

-- nothing changes where what is there is written again
same_there : (m : Maps) (pid i q j : ℕ) (x : Option Held) → held_at m pid i ≡ x → held_at m q j ≡ cond (eqb q pid && eqb j i) x (held_at m q j)
same_there m pid i q j x e = elim (cases_eq q pid) [
  | inr other ↦ rw (ne_eqb q pid other) refl
  | inl same ↦ elim (cases_eq j i) [
    | inr apart ↦ rw (eq-eqb q pid same, ne_eqb j i apart) refl
    | inl also ↦ rw (eq-eqb q pid same, eq-eqb j i also) (subst (λ (k : ℕ). held_at m k j ≡ x) (sym same) (subst (λ (k : ℕ). held_at m pid k ≡ x) (sym also) e))
  ]
]

held_over : (m : Maps) (pid i access q j : ℕ) (h : Held) (o : Option Held) (none : Bool) → AreKept m → IsProcess m pid → i < 8192 → held_at m pid i ≡ o → eqb h.holds 0 ≡ none
    → held_at (granted_over o m pid i h access) q j ≡ cond (eqb q pid && eqb j i) (more_of o h) (held_at m q j)
held_over m pid i access q j h None true k p b e f = rw f (same_there m pid i q j None e)
held_over m pid i access q j h None false k p b e f = rw f (held_at-set m pid i (Some h) (place_in m pid i k p b) b q j)
held_over m pid i access q j h (Some was) none k p b e f = held_at-set m pid i (Some (record was { holds = was.holds + h.holds })) (place_in m pid i k p b) b q j

pub held_at-granted : (m : Maps) (pid i access q j : ℕ) (h : Held) → AreKept m → IsProcess m pid → i < 8192
    → held_at (granted m pid i h access) q j ≡ cond (eqb q pid && eqb j i) (more_of (held_at m pid i) h) (held_at m q j)
held_at-granted m pid i access q j h k p b = held_over m pid i access q j h (held_at m pid i) (eqb h.holds 0) k p b refl refl

dropped_there : (m : Maps) (pid i q j : ℕ) (o : Option Held) → AreKept m → IsProcess m pid → i < 8192 → held_at m pid i ≡ o → ((was : Held) (last : Bool) → eqb (was.holds - 1) 0 ≡ last → o ≡ Some was
    → held_at (cond last (with_entry (with_held m pid i None) pid i empty) (with_held m pid i (Some (record was { holds = was.holds - 1 })))) q j
    ≡ cond (eqb q pid && eqb j i) (cond last None (Some (record was { holds = was.holds - 1 }))) (held_at m q j))
    → held_at (dropped_over o m pid i) q j ≡ cond (eqb q pid && eqb j i) (less_of o) (held_at m q j)
dropped_there m pid i q j None k p b e go = same_there m pid i q j None e
dropped_there m pid i q j (Some was) k p b e go = go was (eqb (was.holds - 1) 0) refl refl

drop_step : (m : Maps) (pid i q j : ℕ) (was : Held) (last : Bool) → AreKept m → IsProcess m pid → i < 8192
    → held_at (cond last (with_entry (with_held m pid i None) pid i empty) (with_held m pid i (Some (record was { holds = was.holds - 1 })))) q j
    ≡ cond (eqb q pid && eqb j i) (cond last None (Some (record was { holds = was.holds - 1 }))) (held_at m q j)
drop_step m pid i q j was true k p b = held_at-set m pid i None (place_in m pid i k p b) b q j
drop_step m pid i q j was false k p b = held_at-set m pid i (Some (record was { holds = was.holds - 1 })) (place_in m pid i k p b) b q j

pub held_at-dropped : (m : Maps) (pid i q j : ℕ) → AreKept m → IsProcess m pid → i < 8192
    → held_at (dropped m pid i) q j ≡ cond (eqb q pid && eqb j i) (less_of (held_at m pid i)) (held_at m q j)
held_at-dropped m pid i q j k p b = dropped_there m pid i q j (held_at m pid i) k p b refl (λ was last e f. drop_step m pid i q j was last k p b)

table_in : (m : Maps) (pid q : ℕ) → get_or m.tables q [] ≡ cond (eqb q pid) (table_of m pid) (table_of m q)
table_in m pid q = elim (cases_eq q pid) [
  | inr other ↦ rw (ne_eqb q pid other) refl
  | inl same ↦ rw (eq-eqb q pid same) (ap (λ (x : ℕ). get_or m.tables x []) same)
]

entry_table : (m : Maps) (pid i q : ℕ) (d : Descriptor) → AreKept m → IsProcess m pid → table_of (with_entry m pid i d) q ≡ cond (eqb q pid) (set (table_of m pid) i d) (table_of m q)
entry_table m pid i q d k p = get_or-set m.tables pid (set (table_of m pid) i d) [] (omega (arith, k.tables_long, p.1)) q

granted_table : (m : Maps) (pid i access q : ℕ) (h : Held) (o : Option Held) (none : Bool) → AreKept m → IsProcess m pid → eqb h.holds 0 ≡ none
    → table_of (granted_over o m pid i h access) q ≡ cond (eqb q pid) (entered o h (table_of m pid) i access) (table_of m q)
granted_table m pid i access q h None true k p f = rw f (table_in m pid q)
granted_table m pid i access q h None false k p f = rw f (entry_table m pid i q (fresh access) k p)
granted_table m pid i access q h (Some was) none k p f = table_in m pid q

pub table_of-granted : (m : Maps) (pid i access q : ℕ) (h : Held) → AreKept m → IsProcess m pid
    → table_of (granted m pid i h access) q ≡ cond (eqb q pid) (entered (held_at m pid i) h (table_of m pid) i access) (table_of m q)
table_of-granted m pid i access q h k p = granted_table m pid i access q h (held_at m pid i) (eqb h.holds 0) k p refl

drop_table : (m : Maps) (pid i q : ℕ) (was : Held) (last : Bool) → AreKept m → IsProcess m pid
    → table_of (cond last (with_entry (with_held m pid i None) pid i empty) (with_held m pid i (Some (record was { holds = was.holds - 1 })))) q
    ≡ cond (eqb q pid) (cond last (set (table_of m pid) i empty) (table_of m pid)) (table_of m q)
drop_table m pid i q was true k p = entry_table m pid i q empty k p
drop_table m pid i q was false k p = table_in m pid q

dropped_table : (m : Maps) (pid i q : ℕ) (o : Option Held) → AreKept m → IsProcess m pid → table_of (dropped_over o m pid i) q ≡ cond (eqb q pid) (emptied o (table_of m pid) i) (table_of m q)
dropped_table m pid i q None k p = table_in m pid q
dropped_table m pid i q (Some was) k p = drop_table m pid i q was (eqb (was.holds - 1) 0) k p

pub table_of-dropped : (m : Maps) (pid i q : ℕ) → AreKept m → IsProcess m pid → table_of (dropped m pid i) q ≡ cond (eqb q pid) (emptied (held_at m pid i) (table_of m pid) i) (table_of m q)
table_of-dropped m pid i q k p = dropped_table m pid i q (held_at m pid i) k p

cond_reserved : (t : Bool) (a b : Maps) (r : List Bool) → a.reserved ≡ r → b.reserved ≡ r → (cond t a b).reserved ≡ r
cond_reserved true a b r e f = e
cond_reserved false a b r e f = f

cond_processes : (t : Bool) (a b : Maps) (r : ℕ) → a.processes ≡ r → b.processes ≡ r → (cond t a b).processes ≡ r
cond_processes true a b r e f = e
cond_processes false a b r e f = f

reserved_over : (o : Option Held) (m : Maps) (pid i access : ℕ) (h : Held) → (granted_over o m pid i h access).reserved ≡ m.reserved
reserved_over None m pid i access h = cond_reserved (eqb h.holds 0) m (with_entry (with_held m pid i (Some h)) pid i (fresh access)) m.reserved refl refl
reserved_over (Some was) m pid i access h = refl

pub granted-reserved : (m : Maps) (pid i access : ℕ) (h : Held) → (granted m pid i h access).reserved ≡ m.reserved
granted-reserved m pid i access h = reserved_over (held_at m pid i) m pid i access h

processes_over : (o : Option Held) (m : Maps) (pid i access : ℕ) (h : Held) → (granted_over o m pid i h access).processes ≡ m.processes
processes_over None m pid i access h = cond_processes (eqb h.holds 0) m (with_entry (with_held m pid i (Some h)) pid i (fresh access)) m.processes refl refl
processes_over (Some was) m pid i access h = refl

pub granted-processes : (m : Maps) (pid i access : ℕ) (h : Held) → (granted m pid i h access).processes ≡ m.processes
granted-processes m pid i access h = processes_over (held_at m pid i) m pid i access h

left_reserved : (o : Option Held) (m : Maps) (pid i : ℕ) → (dropped_over o m pid i).reserved ≡ m.reserved
left_reserved None m pid i = refl
left_reserved (Some was) m pid i = cond_reserved (eqb (was.holds - 1) 0) (with_entry (with_held m pid i None) pid i empty) (with_held m pid i (Some (record was { holds = was.holds - 1 }))) m.reserved refl refl

pub dropped-reserved : (m : Maps) (pid i : ℕ) → (dropped m pid i).reserved ≡ m.reserved
dropped-reserved m pid i = left_reserved (held_at m pid i) m pid i

left_processes : (o : Option Held) (m : Maps) (pid i : ℕ) → (dropped_over o m pid i).processes ≡ m.processes
left_processes None m pid i = refl
left_processes (Some was) m pid i = cond_processes (eqb (was.holds - 1) 0) (with_entry (with_held m pid i None) pid i empty) (with_held m pid i (Some (record was { holds = was.holds - 1 }))) m.processes refl refl

pub dropped-processes : (m : Maps) (pid i : ℕ) → (dropped m pid i).processes ≡ m.processes
dropped-processes m pid i = left_processes (held_at m pid i) m pid i
