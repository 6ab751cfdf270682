-- What the drops of a run's members come to.
use Rattle.std.proofs.Common.{◌≡◌, ℕ, zero, suc, ◌+◌, ◌-◌, ◌<◌, ◌≤◌, ◌==◌, ◌&&◌, nat_le, nat_lt, Bool, true, false, List, [], ◌∷◌, Option, Some, None, is_some, refl, sym, ap, ◌∙◌, subst, arith, if◌then◌else◌}
use Rattle.std.specs.Prelude.{option_map}
use Rattle.std.proofs.lemmas.Bool.{false≢true}
use Rattle.o2_world.specs.declared.types.State.{State}
use Rattle.o2_world.specs.Changes.{Change, Drops, fewer, with_change, with_changes}
use Rattle.o2_world.specs.Holders.{process_at}
use Rattle.o2_world.specs.HugeRulings.{all_dropped, dropped_members}
use Rattle.o2_world.specs.Known.{Known, held_at}
use Rattle.o2_world.specs.Rulings.{indexes}
use Rattle.o2_world.specs.World.{Held, Process, World}
use Rattle.o2_world.proofs.RunsFit.{dropped_are, drops_each, drops_of}
use Rattle.o2_world.proofs.TiedWorld.{with_more}
use Rattle.o2_stands.specs.Tidies.{AreTidyChanges}
use Rattle.o2_stands.proofs.Puts.{held_put, number_kept, put_at}

number : (a b : ℕ) → (a == b) ≡ true → a ≡ b
number a b e = grind arith

no_and : (b : Bool) → (b && false) ≡ false
no_and true = refl
no_and false = refl

drops_names : (n : ℕ) (gs : List (ℕ × ℕ)) (u : World) → (with_changes u (drops_of n gs)).names ≡ u.names
unfolding with_changes
drops_names n [] u = refl
drops_names n (g ∷ gs) u = drops_names n gs (with_change u (Drops n g.0 g.1))

drops_tidy : (n : ℕ) (gs : List (ℕ × ℕ)) (u : World) → AreTidyChanges u (drops_of n gs)
drops_tidy n [] u = tt
drops_tidy n (g ∷ gs) u = (tt, drops_tidy n gs (with_change u (Drops n g.0 g.1)))

module _ (k : Known) (n : ℕ) where
  pub dropped_names : (u : World) (is : List ℕ) → (with_changes u (dropped_members k n is)).names ≡ u.names
  dropped_names u is = ap (λ (cs : List Change). (with_changes u cs).names) (dropped_are k n is) ∙ drops_names n (drops_each k n is) u

  pub dropped_tidy : (u : World) (is : List ℕ) → AreTidyChanges u (dropped_members k n is)
  dropped_tidy u is = subst (AreTidyChanges u) (sym (dropped_are k n is)) (drops_tidy n (drops_each k n is) u)

  the_process : (o : Option Process) → is_some o ≡ true → (x : Process) × (o ≡ Some x)
  the_process None e = absurd (false≢true e)
  the_process (Some x) e = (x, refl)

  -- one of them goes
  one_gone : (u : World) (f : ℕ) (o : Option Held) → is_some (process_at u.processes n) ≡ true → held_at u.processes n f ≡ o → (q j : ℕ)
      → held_at (with_changes u (all_dropped n f o)).processes q j ≡ (if (q == n) && (j == f) then None else held_at u.processes q j)
  unfolding with_changes
  one_gone u f None there at q j = go (q == n) refl (j == f) refl
    where
      go : (a : Bool) → (q == n) ≡ a → (b : Bool) → (j == f) ≡ b → held_at u.processes q j ≡ (if (q == n) && (j == f) then None else held_at u.processes q j)
      go true a true b = rw (a, b) (ap (λ (x : ℕ). held_at u.processes x j) (number q n a) ∙ (ap (held_at u.processes n) (number j f b) ∙ at))
      go true a false b = rw (a, b) refl
      go false a c b = rw a refl
  one_gone u f (Some h) there at q j =
      let x = the_process (process_at u.processes n) there in
      held_put u.processes n q f j (fewer h.holds) x.0 x.1 ∙ ap (λ (o : Option Held). if (q == n) && (j == f) then o else held_at u.processes q j) (ap (fewer h.holds) at ∙ none h (nat_lt h.holds h.holds) refl)
    where
      never : (m : ℕ) → nat_lt m m ≡ false
      never m = grind arith

      none : (h : Held) (b : Bool) → nat_lt h.holds h.holds ≡ b → fewer h.holds (Some h) ≡ None
      none h b e = ap (λ (c : Bool). if c then Some (record h { holds = h.holds - h.holds }) else None) (never h.holds)

  one_there : (u : World) (f : ℕ) (o : Option Held) → is_some (process_at u.processes n) ≡ true → is_some (process_at (with_changes u (all_dropped n f o)).processes n) ≡ true
  unfolding with_changes
  one_there u f None there = there
  one_there u f (Some h) there =
      sym (is_mapped (process_at (with_change u (Drops n f h.holds)).processes n))
      ∙ (ap (λ (o : Option State). is_some o) (number_kept (λ (x : Process). x.state) (put_at f (fewer h.holds)) (λ x. refl) n n u.processes)
      ∙ (is_mapped (process_at u.processes n) ∙ there))
    where
      is_mapped : (o : Option Process) → is_some (option_map (λ (x : Process). x.state) o) ≡ is_some o
      is_mapped None = refl
      is_mapped (Some x) = refl

  -- all of them go
  pub dropped_gone : (c f : ℕ) (u : World) → is_some (process_at u.processes n) ≡ true → ((j : ℕ) → f ≤ j → j < f + c → held_at u.processes n j ≡ k.held n j) → (q j : ℕ)
      → held_at (with_changes u (dropped_members k n (indexes f c))).processes q j ≡ (if (q == n) && (nat_le f j && nat_lt j (f + c)) then None else held_at u.processes q j)
  unfolding with_changes
  dropped_gone zero f u there same q j =
      sym (ap (λ (b : Bool). if (q == n) && b then None else held_at u.processes q j) (empty f j) ∙ ap (λ (b : Bool). if b then None else held_at u.processes q j) (no_and (q == n)))
    where
      empty : (k j : ℕ) → (nat_le k j && nat_lt j (k + 0)) ≡ false
      empty k j = grind arith
  dropped_gone (suc c) f u there same q j =
      ap (λ (x : World). held_at x.processes q j) (with_more u (all_dropped n f (k.held n f)) (dropped_members k n (indexes (f + 1) c)))
      ∙ (dropped_gone c (f + 1) (with_changes u (all_dropped n f (k.held n f))) (one_there u f (k.held n f) there) later q j
      ∙ go (q == n) refl (j == f) refl)
    where
      one : (a b : ℕ) → held_at (with_changes u (all_dropped n f (k.held n f))).processes a b ≡ (if (a == n) && (b == f) then None else held_at u.processes a b)
      one a b = one_gone u f (k.held n f) there (same f (omega arith) (omega arith)) a b

      apart : (j f : ℕ) → f + 1 ≤ j → (j == f) ≡ false
      apart j f l = grind arith

      later : (b : ℕ) → f + 1 ≤ b → b < f + 1 + c → held_at (with_changes u (all_dropped n f (k.held n f))).processes n b ≡ k.held n b
      later b low high =
          one n b
          ∙ (ap (λ (t : Bool). if (n == n) && t then None else held_at u.processes n b) (apart b f low)
          ∙ (ap (λ (t : Bool). if t then None else held_at u.processes n b) (no_and (n == n)) ∙ same b (omega (arith, low)) (omega (arith, high))))

      passed : (j k n : ℕ) → (j == k) ≡ true → (nat_le (k + 1) j && nat_lt j (k + 1 + n)) ≡ false
      passed j k n e = grind arith

      first_in : (j k n : ℕ) → (j == k) ≡ true → (nat_le k j && nat_lt j (k + suc n)) ≡ true
      first_in j k n e = grind arith

      same_test : (j k n : ℕ) → (j == k) ≡ false → (nat_le (k + 1) j && nat_lt j (k + 1 + n)) ≡ (nat_le k j && nat_lt j (k + suc n))
      same_test j k n e = grind arith

      go : (a : Bool) → (q == n) ≡ a → (b : Bool) → (j == f) ≡ b
          → (if (q == n) && (nat_le (f + 1) j && nat_lt j (f + 1 + c)) then None else held_at (with_changes u (all_dropped n f (k.held n f))).processes q j)
          ≡ (if (q == n) && (nat_le f j && nat_lt j (f + suc c)) then None else held_at u.processes q j)
      go false a b e =
          let here : held_at (with_changes u (all_dropped n f (k.held n f))).processes q j ≡ held_at u.processes q j = one q j ∙ rw a refl in
          rw a here
      go true a true e =
          let here : held_at (with_changes u (all_dropped n f (k.held n f))).processes q j ≡ None = one q j ∙ (rw (a, e) refl) in
          rw (a, passed j f c e, first_in j f c e) here
      go true a false e =
          let here : held_at (with_changes u (all_dropped n f (k.held n f))).processes q j ≡ held_at u.processes q j = one q j ∙ rw (a, e) refl in
          rw (a, same_test j f c e) (ap (λ (o : Option Held). if nat_le f j && nat_lt j (f + suc c) then None else o) here)
