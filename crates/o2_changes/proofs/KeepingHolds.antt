-- What stays held, and where segments stay, behind single changes.
use Rattle.std.proofs.Common.{◌≡◌, ℕ, ◌&&◌, ◌∙◌, Option, Some, None, is_some, IsSome, true, false, eqb, inl, inr, ap, sym, refl, subst}
use Rattle.std.proofs.lemmas.Bool.{cases_eq, cond-false}
use Rattle.o2_entries.specs.Tables.{slot_at}
use Rattle.o2_place.specs.declared.seg_id.SegId.{SegId}
use Rattle.o2_regions.specs.declared.held.Held.{Held}
use Rattle.o2_regions.specs.Maps.{Maps, held_at, more_of}
use Rattle.o2_service.specs.Told.{OnlyTables}
use Rattle.o2_service.proofs.Amounts.{slot_some}
use Rattle.o2_stands.proofs.Moves.{held_same}
use Rattle.o2_store.specs.Shelf.{Shelf, Removes, entry_of}
use Rattle.o2_store.proofs.Tables.{slot-set_same, within_at}
use Rattle.o2_changes.specs.Holding.{Grants, KeepsHolds, KeepsPlaces, Takes}
use Rattle.o2_changes.proofs.Settling.{Here, Other, pair_is}

pub holds_refl : (m : Maps) → KeepsHolds m m
holds_refl m = record { processes = refl; held = λ q j h e. e; rights = λ q j s. refl }

pub holds_trans : (l m n : Maps) → KeepsHolds l m → KeepsHolds m n → KeepsHolds l n
holds_trans l m n a b = record {
  processes = b.processes ∙ a.processes;
  held = λ q j h e. b.held q j h (a.held q j h e);
  rights = λ q j s. b.rights q j (some_still q j (held_at l q j) refl s) ∙ a.rights q j s;
}
  where
    some_still : (q j : ℕ) (o : Option Held) → held_at l q j ≡ o → IsSome o → IsSome (held_at m q j)
    some_still q j None e s = absurd (let z : false ≡ true = s in cc)
    some_still q j (Some h) e s = ap is_some (a.held q j h e)

-- descriptors alone
pub told_holds : (m n : Maps) → OnlyTables m n → KeepsHolds m n
told_holds m n only = record {
  processes = ap (λ (x : Maps). x.processes) only.rest;
  held = λ q j h e. held_same m n q j (ap (λ (x : Maps). x.held) only.rest) ∙ e;
  rights = λ q j s. only.rights q j;
}

-- a hold where there was none
pub new_holds : (m n : Maps) (pid i access : ℕ) (h : Held) → Grants m n pid i h access → held_at m pid i ≡ None → KeepsHolds m n
new_holds m n pid i access h g none = record { processes = g.processes; held = kept; rights = g.rights }
  where
    kept : (q j : ℕ) (x : Held) → held_at m q j ≡ Some x → held_at n q j ≡ Some x
    kept q j x e = elim (pair_is q j pid i) [
      | Other _ u ↦ g.held q j ∙ cond-false (eqb q pid && eqb j i) (more_of (held_at m pid i) h) (held_at m q j) u ∙ e
      | Here a b u ↦ absurd (let z : ◌≡◌ {A = Option Held} None (Some x) = sym none ∙ sym (ap (λ (c : ℕ). held_at m c j) a ∙ ap (held_at m pid) b) ∙ e in cc)
    ]

pub removed_places : (s t : Shelf) (id : SegId) → IsSome (entry_of s id) → Removes s t id.key → KeepsPlaces s t
removed_places s t id live r k some = elim (cases_eq k id.key) [
  | inr n ↦ r.places k n
  | inl same ↦ absurd (
      let within = within_at s.entries id.key (slot_some id.age (slot_at s.entries id.key) live) in
      let none : slot_at t.entries k ≡ None = ap (slot_at t.entries) same ∙ ap (λ (x : Shelf). slot_at x.entries id.key) r.shelf ∙ slot-set_same s.entries id.key None within in
      let z : false ≡ true = sym (ap is_some none) ∙ some in
      cc)
]

-- what is reserved doesn't matter to what is held
pub taken_by : (m n o : Maps) (pid i : ℕ) → o ≡ record n { reserved = o.reserved } → Takes m n pid i → Takes m o pid i
taken_by m n o pid i only takes = subst (λ (x : Maps). Takes m x pid i) (sym only) (record { processes = takes.processes; held = takes.held; rights = takes.rights })
