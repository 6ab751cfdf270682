-- Members of a run, one by one.
use Rattle.std.proofs.Common.{◌≡◌, ℕ, zero, suc, ◌+◌, ◌/◌, ◌<◌, ◌≤◌, ◌==◌, ◌&&◌, ◌||◌, inl, inr, nat_le, nat_lt, not, Bool, true, false, Option, Some, None, is_some, refl, sym, ap, ◌∙◌, subst, arith}
use Rattle.std.proofs.lemmas.Bool.{cases_eq, false≢true}
use Rattle.std.proofs.lemmas.Bool.Decides.{nat_tests}
use Rattle.o2_isa.specs.View.{is_local, is_null}
use Rattle.o2_world.specs.HugeRulings.{names_one}
use Rattle.o2_world.specs.Rulings.{indexes, is_index}
use Rattle.o2_regions.specs.declared.held.Held.{Held}
use Rattle.o2_regions.specs.declared.held.Region.{Region}
use Rattle.o2_regions.specs.Maps.{Maps, held_at, is_held, is_reserved, region_of, some_holds}
use Rattle.o2_regions.specs.Kept.{AreKept}
use Rattle.o2_regions.proofs.Reserves.{holder_in, is_private, unheld_shared}
use Rattle.o2_huge.specs.Growth.{AreMembers, AreVacant, IsMemberAt, IsVacant}
use Rattle.o2_huge.specs.Resized.{is_member, is_member_in}

pub member_at : (m : Maps) (pid first i : ℕ) → is_member_in m pid first i ≡ true → IsMemberAt m pid first i
member_at m pid first i e = go (held_at m pid i) refl e
  where
    go : (o : Option Held) → held_at m pid i ≡ o → is_member first o ≡ true → IsMemberAt m pid first i
    go None is e = absurd (false≢true e)
    go (Some h) is e = record { held = h; there = is; run = e }

pub members_none : (m : Maps) (pid first : ℕ) → AreMembers m pid first first (first + 0)
members_none m pid first i low high = absurd (omega (arith, low, high))

pub members_next : (m : Maps) (pid first k : ℕ) → AreMembers m pid first first (first + k) → is_member_in m pid first (first + k) ≡ true → AreMembers m pid first first (first + (k + 1))
members_next m pid first k all e i low high = elim (cases_eq i (first + k)) [
  | inl same ↦ subst (IsMemberAt m pid first) (sym same) (member_at m pid first (first + k) e)
  | inr other ↦ all i low (below i (first + k) (first + (k + 1)) high (omega arith) other)
]
  where
    below : (x y z : ℕ) → x < z → z ≡ y + 1 → (x ≡ y → ⊥) → x < y
    below x y z l e other = elim (cases_eq x y) [ inl same ↦ absurd (other same) | inr apart ↦ grind arith ]

-- Vacant indexes.

pub vacant_low : (m : Maps) (pid i : ℕ) → i < 4096 → is_reserved m (region_of pid i) i ≡ true → held_at m pid i ≡ None → IsVacant m pid i
vacant_low m pid i low reserved none = record {
  reserved = reserved;
  free = λ q one. elim one [
    | inl same ↦ ap (λ (x : ℕ). held_at m x i) same ∙ none
    | inr high ↦ absurd (omega (arith, low, high))
  ];
}

pub vacant_high : (m : Maps) (pid i : ℕ) → AreKept m → 4096 ≤ i → is_reserved m (region_of pid i) i ≡ true → some_holds m i m.processes ≡ false → IsVacant m pid i
vacant_high m pid i kept high reserved none = record { reserved = reserved; free = λ q one. nobody q (held_at m q i) refl }
  where
    nobody : (q : ℕ) (o : Option Held) → held_at m q i ≡ o → held_at m q i ≡ None
    nobody q None e = e
    nobody q (Some h) e =
        (let there = holder_in m q i h kept e in
        absurd (false≢true (sym (unheld_shared m i m.processes q none there.0.0 there.0.1) ∙ ap is_some e)))

pub held_low : (m : Maps) (pid i : ℕ) → i < 4096 → is_held m (region_of pid i) i ≡ is_some (held_at m pid i)
held_low m pid i low = ap (λ (g : Region). is_held m g i) (is_private pid i low)

pub vacant_none : (m : Maps) (pid from : ℕ) → AreVacant m pid from (from + 0)
vacant_none m pid from i low high = absurd (omega (arith, low, high))

pub vacant_next : (m : Maps) (pid from k : ℕ) → AreVacant m pid from (from + k) → IsVacant m pid (from + k) → AreVacant m pid from (from + (k + 1))
vacant_next m pid from k all one i low high = elim (cases_eq i (from + k)) [
  | inl same ↦ subst (IsVacant m pid) (sym same) one
  | inr other ↦ all i low (below i (from + k) (from + (k + 1)) high (omega arith) other)
]
  where
    below : (x y z : ℕ) → x < z → z ≡ y + 1 → (x ≡ y → ⊥) → x < y
    below x y z l e other = elim (cases_eq x y) [ inl same ↦ absurd (other same) | inr apart ↦ grind arith ]

pub turned : (b : Bool) → not b ≡ true → b ≡ false
turned true e = absurd (false≢true e)
turned false e = refl

pub upright : (b : Bool) → not b ≡ false → b ≡ true
upright true e = refl
upright false e = absurd (false≢true (sym e))

pub none_held : (o : Option Held) (b : Bool) → is_some o ≡ not b → b ≡ true → o ≡ None
none_held None b is e = refl
none_held (Some h) b is e = absurd (false≢true (sym (is ∙ ap not e)))

-- Selectors of so many indexes.

none_between : (a x : ℕ) → (nat_le a x && nat_lt x (a + 0)) ≡ false
none_between a x = grind (arith, nat_tests)

more_between : (a n x : ℕ) → ((x == a) || (nat_le (a + 1) x && nat_lt x (a + 1 + n))) ≡ (nat_le a x && nat_lt x (a + suc n))
more_between a n x = grind (arith, nat_tests)

spread : (b c d e : Bool) → ((b && (c && d)) || (b && (c && e))) ≡ (b && (c && (d || e)))
spread true true d e = refl
spread true false d e = refl
spread false c d e = refl

both_false : (b c : Bool) → (b && (c && false)) ≡ false
both_false true true = refl
both_false true false = refl
both_false false c = refl

pub one_between : (s a n : ℕ) → names_one s (indexes a n) ≡ (not (is_null s) && (is_local s && (nat_le a (s / 8) && nat_lt (s / 8) (a + n))))
one_between s a zero = sym (ap (λ (b : Bool). not (is_null s) && (is_local s && b)) (none_between a (s / 8)) ∙ both_false (not (is_null s)) (is_local s))
one_between s a (suc n) =
    ap (λ (b : Bool). is_index s a || b) (one_between s (a + 1) n)
    ∙ spread (not (is_null s)) (is_local s) (s / 8 == a) (nat_le (a + 1) (s / 8) && nat_lt (s / 8) (a + 1 + n))
    ∙ ap (λ (b : Bool). not (is_null s) && (is_local s && b)) (more_between a n (s / 8))
