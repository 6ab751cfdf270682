-- Maps in which nothing is held.
use Rattle.std.proofs.Common.{◌≡◌, ℕ, zero, suc, ◌∙◌, sym, ap, subst, refl, [], ◌∷◌, Option, Some, None, get_or, replicate}
use Rattle.o2_desc.specs.Bytes.{empty}
use Rattle.o2_regions.specs.declared.held.Held.{Held}
use Rattle.o2_regions.specs.Maps.{Maps, held_at, nothing}
use Rattle.o2_segbus.specs.Settled.{IsSettled, IsSettledAt, descriptor_at}
use Rattle.o2_store.specs.Shelf.{Shelf}
use Rattle.o2_service.specs.Told.{IsHeldWell, OnlyTables}
use Rattle.o2_service.specs.Trials.{IsUnheld}

none_some : (h : Held) → ◌≡◌ {A = Option Held} None (Some h) → ⊥
none_some h z = cc

pub unheld_well : (s : Shelf) (m : Maps) → IsUnheld m → IsHeldWell s m
unheld_well s m u = record {
  live = λ pid i h e. absurd (none_some h (sym (u.none pid i) ∙ e));
  inside = λ pid i h e. absurd (none_some h (sym (u.none pid i) ∙ e));
}

pub unheld_settled : (s : Shelf) (m : Maps) → IsUnheld m → IsSettled s m
unheld_settled s m u pid i = subst (λ (o : Option Held). IsSettledAt s o (descriptor_at m pid i)) (sym (u.none pid i)) (u.empty pid i)

pub unheld_after : (t : Shelf) (m n : Maps) → OnlyTables m n → IsSettled t n → IsUnheld m → IsUnheld n
unheld_after t m n o s u = record { none = none; empty = λ pid i. subst (λ (x : Option Held). IsSettledAt t x (descriptor_at n pid i)) (none pid i) (s pid i) }
  where
    none : (pid i : ℕ) → held_at n pid i ≡ None
    none pid i = ap (λ (z : Maps). held_at z pid i) o.rest ∙ u.none pid i

empties : (m j : ℕ) → get_or (replicate m empty) j empty ≡ empty
empties zero j = refl
empties (suc m) zero = refl
empties (suc m) (suc j) = empties m j

rows_empty : (n m k j : ℕ) → get_or (get_or (replicate n (replicate m empty)) k []) j empty ≡ empty
rows_empty zero m k j = refl
rows_empty (suc n) m zero j = empties m j
rows_empty (suc n) m (suc k) j = rows_empty n m k j

first_empty : (n m k j : ℕ) → get_or (get_or ([] ∷ replicate n (replicate m empty)) k []) j empty ≡ empty
first_empty n m zero j = refl
first_empty n m (suc k) j = rows_empty n m k j

pub unheld_new : (m : Maps) (n : ℕ) → m ≡ nothing n → ((pid i : ℕ) → held_at m pid i ≡ None) → IsUnheld m
unfolding nothing
unheld_new m n e f = record { none = f; empty = λ pid i. ap (λ (z : Maps). descriptor_at z pid i) e ∙ first_empty n 8192 pid i }
