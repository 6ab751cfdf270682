-- So many holds less, one by one.
use Rattle.std.proofs.Common.{◌≡◌, ℕ, ◌+◌, ◌-◌, ◌<◌, ◌&&◌, false, cond, eqb, Option, Some, None, IsSome, is_some, refl, sym, ap, ◌∙◌, arith}
use Rattle.std.proofs.lemmas.Bool.{cond-true, cond-false, eq-eqb, ne_eqb}
use Rattle.o2_regions.specs.declared.held.Held.{Held}
use Rattle.o2_regions.specs.Maps.{Maps, held_at, less_of}
use Rattle.o2_changes.specs.Holding.{Takes, TakesSome, less_by}
use Rattle.o2_changes.proofs.Settling.{Here, Other, pair_is}

less_one : (o : Option Held) → less_of o ≡ less_by 1 o
less_one None = refl
less_one (Some was) = refl

pub takes_some : (m n : Maps) (pid i : ℕ) → Takes m n pid i → TakesSome m n pid i 1
takes_some m n pid i t = record {
  processes = t.processes;
  held = λ q j. t.held q j ∙ ap (λ (o : Option Held). cond (eqb q pid && eqb j i) o (held_at m q j)) (less_one (held_at m pid i));
  rights = t.rights;
}

none_less : (h : Held) → 0 < h.holds → less_by 0 (Some h) ≡ Some h
none_less h some =
    let e : h.holds - 0 ≡ h.holds = omega arith in
    ap (λ (x : ℕ). cond (eqb x 0) None (Some (record h { holds = x }))) e
    ∙ cond-false (eqb h.holds 0) None (Some h) (ne_eqb h.holds 0 (λ z. absurd (omega (arith, some, z))))

pub takes_none : (m : Maps) (pid i : ℕ) (h : Held) → held_at m pid i ≡ Some h → 0 < h.holds → TakesSome m m pid i 0
takes_none m pid i h there some = record {
  processes = refl;
  held = λ q j. elim (pair_is q j pid i) [
    | Other _ u ↦ sym (cond-false (eqb q pid && eqb j i) (less_by 0 (held_at m pid i)) (held_at m q j) u)
    | Here a b u ↦
        ap (λ (c : ℕ). held_at m c j) a ∙ ap (held_at m pid) b
        ∙ there ∙ sym (none_less h some) ∙ ap (less_by 0) (sym there)
        ∙ sym (cond-true (eqb q pid && eqb j i) (less_by 0 (held_at m pid i)) (held_at m q j) u)
  ];
  rights = λ q j s. refl;
}

less_more : (h : Held) (k : ℕ) → k < h.holds → less_of (less_by k (Some h)) ≡ less_by (k + 1) (Some h)
less_more h k l =
    let z : eqb (h.holds - k) 0 ≡ false = ne_eqb (h.holds - k) 0 (λ e. absurd (omega (arith, l, e))) in
    let e : h.holds - k - 1 ≡ h.holds - (k + 1) = omega arith in
    ap less_of (cond-false (eqb (h.holds - k) 0) None (Some (record h { holds = h.holds - k })) z)
    ∙ ap (λ (x : ℕ). cond (eqb x 0) None (Some (record h { holds = x }))) e

-- there is one left to take
pub one_left : (h : Held) (k : ℕ) → k < h.holds → IsSome (less_by k (Some h))
one_left h k l =
    ap is_some (cond-false (eqb (h.holds - k) 0) None (Some (record h { holds = h.holds - k })) (ne_eqb (h.holds - k) 0 (λ e. absurd (omega (arith, l, e)))))

some_before : (o : Option Held) → IsSome (less_of o) → IsSome o
some_before None some = some
some_before (Some h) some = refl

pub held_yet : (m n : Maps) (pid i k : ℕ) (h : Held) → TakesSome m n pid i k → held_at m pid i ≡ Some h → held_at n pid i ≡ less_by k (Some h)
held_yet m n pid i k h t there =
    t.held pid i ∙ cond-true (eqb pid pid && eqb i i) (less_by k (held_at m pid i)) (held_at m pid i) (rw (eq-eqb pid pid refl, eq-eqb i i refl) refl) ∙ ap (less_by k) there

pub takes_more : (m n o : Maps) (pid i k : ℕ) (h : Held) → held_at m pid i ≡ Some h → k < h.holds → TakesSome m n pid i k → Takes n o pid i → TakesSome m o pid i (k + 1)
takes_more m n o pid i k h there l a b = record {
  processes = b.processes ∙ a.processes;
  held = λ q j. b.held q j ∙ elim (pair_is q j pid i) [
    | Other _ u ↦ cond-false (eqb q pid && eqb j i) (less_of (held_at n pid i)) (held_at n q j) u
        ∙ a.held q j ∙ cond-false (eqb q pid && eqb j i) (less_by k (held_at m pid i)) (held_at m q j) u
        ∙ sym (cond-false (eqb q pid && eqb j i) (less_by (k + 1) (held_at m pid i)) (held_at m q j) u)
    | Here c d u ↦ cond-true (eqb q pid && eqb j i) (less_of (held_at n pid i)) (held_at n q j) u
        ∙ ap less_of (held_yet m n pid i k h a there) ∙ less_more h k l ∙ ap (less_by (k + 1)) (sym there)
        ∙ sym (cond-true (eqb q pid && eqb j i) (less_by (k + 1) (held_at m pid i)) (held_at m q j) u)
  ];
  rights = λ q j s. b.rights q j s ∙ a.rights q j (before q j s);
}
  where
    before : (q j : ℕ) → IsSome (held_at o q j) → IsSome (held_at n q j)
    before q j s = elim (pair_is q j pid i) [
      | Other _ u ↦ sym (ap is_some (b.held q j ∙ cond-false (eqb q pid && eqb j i) (less_of (held_at n pid i)) (held_at n q j) u)) ∙ s
      | Here c d u ↦
          ap (λ (x : ℕ). is_some (held_at n x j)) c ∙ ap (λ (x : ℕ). is_some (held_at n pid x)) d
          ∙ some_before (held_at n pid i) (sym (ap is_some (b.held q j ∙ cond-true (eqb q pid && eqb j i) (less_of (held_at n pid i)) (held_at n q j) u)) ∙ s)
    ]
