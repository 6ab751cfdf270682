-- Whether somebody holds an index, in two maps.
use Rattle.std.proofs.Common.{◌≡◌, ℕ, zero, suc, ◌+◌, Bool, true, false, ◌||◌, Option, is_some, refl, sym, ap, ◌∙◌}
use Rattle.std.proofs.lemmas.Bool.{false≢true}
use Rattle.o2_regions.specs.declared.held.Held.{Held}
use Rattle.o2_regions.specs.Maps.{Maps, held_at, some_holds}

-- the same hold an index
pub some_as : (m n : Maps) (i k : ℕ) → ((q : ℕ) → held_at n q i ≡ held_at m q i) → some_holds n i k ≡ some_holds m i k
unfolding some_holds
some_as m n i zero same = refl
some_as m n i (suc k) same =
    ap (λ (o : Option Held). is_some o || some_holds n i k) (same (k + 1))
    ∙ ap (λ (b : Bool). is_some (held_at m (k + 1) i) || b) (some_as m n i k same)

pub some_all : (m n : Maps) (i : ℕ) → n.processes ≡ m.processes → ((q : ℕ) → held_at n q i ≡ held_at m q i) → some_holds n i n.processes ≡ some_holds m i m.processes
some_all m n i processes same = ap (some_holds n i) processes ∙ some_as m n i m.processes same

-- where fewer hold it
pub some_fewer : (m n : Maps) (i : ℕ) → n.processes ≡ m.processes → ((q : ℕ) → is_some (held_at n q i) ≡ true → is_some (held_at m q i) ≡ true) → some_holds m i m.processes ≡ false → some_holds n i n.processes ≡ false
unfolding some_holds
some_fewer m n i processes fewer none = ap (some_holds n i) processes ∙ by m.processes none
  where
    left : (a b : Bool) → (a || b) ≡ false → (a ≡ false) × (b ≡ false)
    left true b e = absurd (false≢true (sym e))
    left false b e = (refl, e)

    no : (a b : Bool) → (a ≡ true → b ≡ true) → b ≡ false → a ≡ false
    no true b f e = absurd (false≢true (sym e ∙ f refl))
    no false b f e = refl

    by : (k : ℕ) → some_holds m i k ≡ false → some_holds n i k ≡ false
    by zero e = refl
    by (suc k) e =
        let x = left (is_some (held_at m (k + 1) i)) (some_holds m i k) e in
        ap (λ (b : Bool). b || some_holds n i k) (no (is_some (held_at n (k + 1) i)) (is_some (held_at m (k + 1) i)) (fewer (k + 1)) x.0) ∙ by k x.1
