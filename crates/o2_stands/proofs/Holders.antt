-- Who holds a run beside its caller.
use Rattle.std.proofs.Common.{◌≡◌, ℕ, zero, suc, ◌+◌, ◌<◌, ◌≤◌, ◌==◌, ◌||◌, nat_le, Bool, true, false, List, [], ◌∷◌, ◌++◌, Option, Some, None, is_some, refl, sym, ap, ◌∙◌, subst, arith, if◌then◌else◌}
use Rattle.std.specs.Prelude.{flat_map}
use Rattle.std.proofs.lemmas.Bool.{eq-eqb, false≢true}
use Rattle.o2_world.specs.Holders.{process_at}
use Rattle.o2_world.specs.HugeRulings.{is_first, other_shares, share_of}
use Rattle.o2_world.specs.Known.{Known}
use Rattle.o2_world.specs.Rulings.{indexes}
use Rattle.o2_world.specs.SharedRulings.{shared_from}
use Rattle.o2_world.specs.World.{Held, Process}
use Rattle.o2_stands.proofs.NewMembers.{AreEachOnce, AreThere, is_holder, often_of}

number : (a b : ℕ) → (a == b) ≡ true → a ≡ b
number a b e = grind arith

or_right : (a b : Bool) → b ≡ true → (a || b) ≡ true
or_right true b e = refl
or_right false b e = e

-- each holder of a list is there
pub all_there : (qs : List Process) (ps : List (ℕ × ℕ)) → ((q : ℕ) → is_holder ps q ≡ true → is_some (process_at qs q) ≡ true) → AreThere qs ps
all_there qs [] there = tt
all_there qs (p ∷ ps) there =
    (there p.0 (ap (λ (b : Bool). b || is_holder ps p.0) (eq-eqb p.0 p.0 refl)), all_there qs ps (λ q e. there q (or_right (p.0 == q) (is_holder ps q) e)))

-- Holders by how often they hold.

abbrev entry : ℕ → Option ℕ → List (ℕ × ℕ)
entry m None = []
entry m (Some t) = (m, t) ∷ []

abbrev listed : (ℕ → Option ℕ) → (lo c : ℕ) → List (ℕ × ℕ)
listed g lo zero = []
listed g lo (suc c) = entry lo (g lo) ++ listed g (lo + 1) c

-- those of a list are the processes that hold, each as often as it does
pub record AreHolding (g : ℕ → Option ℕ) (lo c : ℕ) (ps : List (ℕ × ℕ)) : Type 0 where
  pub found : (q : ℕ) → is_holder ps q ≡ true → (lo ≤ q) × ((q < lo + c) × (g q ≡ Some (often_of ps q)))
  pub has : (q t : ℕ) → lo ≤ q → q < lo + c → g q ≡ Some t → is_holder ps q ≡ true
  pub once : AreEachOnce ps

all_listed : (g : ℕ → Option ℕ) (c lo : ℕ) → AreHolding g lo c (listed g lo c)
all_listed g zero lo = record { found = λ q e. absurd (false≢true e); has = λ q t low high e. absurd (omega (arith, low, high)); once = tt }
all_listed g (suc c) lo = add (g lo) refl (listed g (lo + 1) c) (all_listed g c (lo + 1))
  where
    none_some : (t : ℕ) → ◌≡◌ {A = Option ℕ} None (Some t) → ⊥
    none_some t e = cc

    later : (q : ℕ) → lo ≤ q → (lo == q) ≡ false → lo + 1 ≤ q
    later q l e = grind arith

    add : (o : Option ℕ) → g lo ≡ o → (ps : List (ℕ × ℕ)) → AreHolding g (lo + 1) c ps → AreHolding g lo (suc c) (entry lo o ++ ps)
    add None e ps a = record {
      found = λ q h. let f = a.found q h in let low = f.0 in let high = f.1.0 in (omega (arith, low), (omega (arith, high), f.1.1));
      has = λ q t low high h. other q t low high h (lo == q) refl;
      once = a.once;
    }
      where
        other : (q t : ℕ) → lo ≤ q → q < lo + suc c → g q ≡ Some t → (b : Bool) → (lo == q) ≡ b → is_holder ps q ≡ true
        other q t low high h true same = absurd (none_some t (sym e ∙ (ap g (number lo q same) ∙ h)))
        other q t low high h false same = a.has q t (later q low same) (omega (arith, high)) h
    add (Some x) e ps a = record {
      found = λ q h. found q (lo == q) refl h;
      has = λ q t low high h. has q t low high h (lo == q) refl;
      once = (not_in (is_holder ps lo) refl, a.once);
    }
      where
        found : (q : ℕ) (b : Bool) → (lo == q) ≡ b → (b || is_holder ps q) ≡ true → (lo ≤ q) × ((q < lo + suc c) × (g q ≡ Some (if lo == q then x else often_of ps q)))
        found q true same h =
            let is : lo ≡ q = number lo q same in
            (omega (arith, is), (omega (arith, is), sym (ap g is) ∙ (e ∙ ap (λ (b : Bool). Some (if b then x else often_of ps q)) (sym same))))
        found q false same h =
            let f = a.found q h in
            let low = f.0 in
            let high = f.1.0 in
            (omega (arith, low), (omega (arith, high), f.1.1 ∙ ap (λ (b : Bool). Some (if b then x else often_of ps q)) (sym same)))

        has : (q t : ℕ) → lo ≤ q → q < lo + suc c → g q ≡ Some t → (b : Bool) → (lo == q) ≡ b → ((lo == q) || is_holder ps q) ≡ true
        has q t low high h true same = ap (λ (b : Bool). b || is_holder ps q) same
        has q t low high h false same = or_right (lo == q) (is_holder ps q) (a.has q t (later q low same) (omega (arith, high)) h)

        not_in : (b : Bool) → is_holder ps lo ≡ b → is_holder ps lo ≡ false
        not_in false f = f
        not_in true f = (let l = (a.found lo f).0 in absurd (omega (arith, l)))

-- The other holders of a run.
module _ (k : Known) (n first : ℕ) where
  abbrev pub times_of : Option Held → Option ℕ
  times_of None = None
  times_of (Some h) = if is_first first h then Some h.holds else None

  -- how often another process holds the run
  abbrev pub times : ℕ → Option ℕ
  times m = if m == n then None else times_of (k.held m first)

  abbrev share : ℕ → List (ℕ × ℕ)
  share m = if m == n then [] else share_of first m (k.held m first)

  one_share : (m : ℕ) → share m ≡ entry m (times m)
  one_share m = own (m == n)
    where
      other : (o : Option Held) → share_of first m o ≡ entry m (times_of o)
      other None = refl
      other (Some h) = by (is_first first h)
        where
          by : (b : Bool) → (if b then (m, h.holds) ∷ [] else []) ≡ entry m (if b then Some h.holds else None)
          by true = refl
          by false = refl

      own : (b : Bool) → (if b then [] else share_of first m (k.held m first)) ≡ entry m (if b then None else times_of (k.held m first))
      own true = refl
      own false = other (k.held m first)

  all_shares : (c lo : ℕ) → flat_map share (indexes lo c) ≡ listed times lo c
  all_shares zero lo = refl
  all_shares (suc c) lo = ap (λ (xs : List (ℕ × ℕ)). xs ++ flat_map share (indexes (lo + 1) c)) (one_share lo) ∙ ap (λ (xs : List (ℕ × ℕ)). entry lo (times lo) ++ xs) (all_shares c (lo + 1))

  pub others_hold : nat_le shared_from first ≡ true → AreHolding times 1 k.processes (other_shares k n first)
  others_hold high = subst (AreHolding times 1 k.processes) (sym (ap (λ (b : Bool). if b then flat_map share (indexes 1 k.processes) else []) high ∙ all_shares k.processes 1)) (all_listed times k.processes 1)

  pub no_others : nat_le shared_from first ≡ false → other_shares k n first ≡ []
  no_others low = ap (λ (b : Bool). if b then flat_map share (indexes 1 k.processes) else []) low

  -- such a process is another one, and holds the run's first member so often
  pub times_are : (q t : ℕ) → times q ≡ Some t → (h : Held) × (((q == n) ≡ false) × ((k.held q first ≡ Some h) × ((is_first first h ≡ true) × (h.holds ≡ t))))
  times_are q t e = own (q == n) refl e
    where
      none_some : ◌≡◌ {A = Option ℕ} None (Some t) → ⊥
      none_some e = cc

      other : (q == n) ≡ false → (o : Option Held) → k.held q first ≡ o → times_of o ≡ Some t → (h : Held) × (((q == n) ≡ false) × ((k.held q first ≡ Some h) × ((is_first first h ≡ true) × (h.holds ≡ t))))
      other f None at g = absurd (none_some g)
      other f (Some h) at g = by (is_first first h) refl g
        where
          by : (b : Bool) → is_first first h ≡ b → (if b then Some h.holds else None) ≡ Some t → (h : Held) × (((q == n) ≡ false) × ((k.held q first ≡ Some h) × ((is_first first h ≡ true) × (h.holds ≡ t))))
          by true is g = (h, (f, (at, (is, let z : h.holds ≡ t = cc in z))))
          by false is g = absurd (none_some g)

      own : (b : Bool) → (q == n) ≡ b → (if b then None else times_of (k.held q first)) ≡ Some t → (h : Held) × (((q == n) ≡ false) × ((k.held q first ≡ Some h) × ((is_first first h ≡ true) × (h.holds ≡ t))))
      own true f g = absurd (none_some g)
      own false f g = other f (k.held q first) refl g

  pub times_some : (q : ℕ) (h : Held) → (q == n) ≡ false → k.held q first ≡ Some h → is_first first h ≡ true → times q ≡ Some h.holds
  times_some q h other at is =
      ap (λ (b : Bool). if b then None else times_of (k.held q first)) other ∙ (ap times_of at ∙ ap (λ (b : Bool). if b then Some h.holds else None) is)
