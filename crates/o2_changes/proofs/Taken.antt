-- Which indexes may not be chosen, where what is held changes at one index.
use Rattle.std.proofs.Common.{◌≡◌, ℕ, zero, suc, ◌+◌, ◌<◌, ◌≤◌, ◌&&◌, ◌||◌, inl, inr, Bool, true, false, eqb, is_some, refl, sym, ap, ◌∙◌, subst, arith}
use Rattle.std.proofs.lemmas.Bool.{cases_lt, and_parts, eqb-true}
use Rattle.o2_regions.specs.declared.held.Region.{Region}
use Rattle.o2_regions.specs.declared.held.Region.TheVariants.{Private, Shared}
use Rattle.o2_regions.specs.Maps.{Maps, IsProcess, end_of, first_of, held_at, is_held, region_of, same_region, some_holds}
use Rattle.o2_regions.proofs.Reserves.{is_private, is_shared, unheld_shared}

pub some_pointwise : (m n : Maps) (j c : ℕ) → ((q : ℕ) → is_some (held_at n q j) ≡ is_some (held_at m q j)) → some_holds n j c ≡ some_holds m j c
unfolding some_holds
some_pointwise m n j zero same = refl
some_pointwise m n j (suc c) same = ap (λ (b : Bool). b || some_holds n j c) (same (c + 1)) ∙ ap (λ (b : Bool). is_some (held_at m (c + 1) j) || b) (some_pointwise m n j c same)

-- it is held by somebody of its region
pub held_region : (m : Maps) (pid i : ℕ) → IsProcess m pid → is_some (held_at m pid i) ≡ true → is_held m (region_of pid i) i ≡ true
held_region m pid i p held = elim (cases_lt i 4096) [
  | inl low ↦ subst (λ (g : Region). is_held m g i ≡ true) (sym (is_private pid i low)) held
  | inr high ↦ subst (λ (g : Region). is_held m g i ≡ true) (sym (is_shared pid i high)) (go (some_holds m i m.processes) refl)
]
  where
    go : (b : Bool) → some_holds m i m.processes ≡ b → some_holds m i m.processes ≡ true
    go true e = e
    go false e = absurd (let z : false ≡ true = sym (unheld_shared m i m.processes pid e p.0 p.1) ∙ held in cc)

-- what is held elsewhere stays
pub held_apart : (m n : Maps) (pid i : ℕ) → n.processes ≡ m.processes → ((q j : ℕ) → (eqb q pid && eqb j i) ≡ false → is_some (held_at n q j) ≡ is_some (held_at m q j))
    → (g : Region) (j : ℕ) → first_of g ≤ j → j < end_of g → (same_region g (region_of pid i) && eqb j i) ≡ false → is_held n g j ≡ is_held m g j
held_apart m n pid i count same (Private q) j a b other = same q j (go (eqb q pid) refl (eqb j i) refl)
  where
    go : (s : Bool) → eqb q pid ≡ s → (t : Bool) → eqb j i ≡ t → (s && t) ≡ false
    go false e t f = refl
    go true e false f = refl
    go true e true f =
        let z : i < 4096 = omega (arith, b, eqb-true j i f) in
        let r : same_region (Private q) (region_of pid i) ≡ true = ap (same_region (Private q)) (is_private pid i z) ∙ e in
        let y : true ≡ false = sym (rw (r, f) refl) ∙ other in
        absurd (cc)
held_apart m n pid i count same Shared j a b other = some_pointwise m n j n.processes (λ q. same q j (go q (eqb j i) refl)) ∙ ap (some_holds m j) count
  where
    go : (q : ℕ) (t : Bool) → eqb j i ≡ t → (eqb q pid && t) ≡ false
    go q false f = never (eqb q pid)
      where
        never : (s : Bool) → (s && false) ≡ false
        never true = refl
        never false = refl
    go q true f =
        let z : 4096 ≤ i = omega (arith, a, eqb-true j i f) in
        let r : same_region Shared (region_of pid i) ≡ true = ap (same_region Shared) (is_shared pid i z) in
        let y : true ≡ false = sym (rw (r, f) refl) ∙ other in
        absurd (cc)

pub same_is : (g h : Region) → same_region g h ≡ true → g ≡ h
same_is (Private p) (Private q) e = ap Private (eqb-true p q e)
same_is (Private p) Shared e = absurd (cc)
same_is Shared (Private q) e = absurd (cc)
same_is Shared Shared e = refl

pub pair_hit : (r : Region) (pid i j : ℕ) → (same_region r (region_of pid i) && eqb j i) ≡ true → (r ≡ region_of pid i) × (j ≡ i)
pair_hit r pid i j e = (let t = and_parts (same_region r (region_of pid i)) (eqb j i) e in (same_is r (region_of pid i) t.0, eqb-true j i t.1))
