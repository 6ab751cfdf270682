-- The last members of a run go with all holds of its only holder, by look-ups of what processes hold.
use Rattle.std.proofs.Common.{◌≡◌, inl, inr, ℕ, ◌+◌, ◌<◌, ◌≤◌, ◌==◌, ◌&&◌, nat_le, nat_lt, Bool, true, false, Option, Some, None, is_some, IsSome, refl, sym, ap, ◌∙◌, subst, arith, if◌then◌else◌}
use Rattle.std.proofs.lemmas.Bool.{eq-eqb, false≢true}
use Rattle.o2_world.specs.Map.{Map}
use Rattle.o2_world.specs.World.{Held, Segment}
use Rattle.o2_stands.specs.Runs.{AreInOne, HasFullMembers, HasRunFlags, HasRuns, IsInStretch, IsMemberOf, IsOneFor, IsSoOften}
use Rattle.o2_stands.proofs.Reserved.{and_parts}
use Rattle.o2_stands.proofs.RunsKept.{stretches_kept}

none_some : (h : Held) → ◌≡◌ {A = Option Held} None (Some h) → ⊥
none_some h e = cc

-- A process holds a member of a run that nobody else holds, and lets go of its members from an index on.
pub record IsCutRun (held now : ℕ → ℕ → Option Held) (p i from : ℕ) (x : Held) : Type 0 where
  pub member : IsMemberOf held p i x
  pub alone : (q j : ℕ) (k : Held) → IsMemberOf held q j k → IsOneFor p q j → AreInOne x k → q ≡ p
  pub is : (q j : ℕ) → now q j ≡ (if (q == p) && (nat_le from j && nat_lt j (x.first + x.reserved)) then None else held q j)
  pub inside : x.first ≤ from

module _ (held now : ℕ → ℕ → Option Held) (p a from : ℕ) (x : Held) (cut : IsCutRun held now p a from x) (runs : HasRuns held) where
  abbrev hit : ℕ → ℕ → Bool
  hit q j = (q == p) && (nat_le from j && nat_lt j (x.first + x.reserved))

  number : (a b : ℕ) → (a == b) ≡ true → a ≡ b
  number a b e = grind arith

  le_of : (a b : ℕ) → nat_le a b ≡ true → a ≤ b
  le_of a b e = grind arith

  lt_of : (a b : ℕ) → nat_lt a b ≡ true → a < b
  lt_of a b e = grind arith

  -- what is held was held, where none goes
  was : (q j : ℕ) (h : Held) → now q j ≡ Some h → (hit q j ≡ false) × (held q j ≡ Some h)
  was q j h e = go (hit q j) refl (sym (cut.is q j) ∙ e)
    where
      go : (b : Bool) → hit q j ≡ b → (if b then None else held q j) ≡ Some h → (hit q j ≡ false) × (held q j ≡ Some h)
      go true f g = absurd (none_some h g)
      go false f g = (f, g)

  still : (q j : ℕ) → hit q j ≡ false → now q j ≡ held q j
  still q j f = cut.is q j ∙ ap (λ (b : Bool). if b then None else held q j) f

  gone : (q j : ℕ) → hit q j ≡ true → now q j ≡ None
  gone q j f = cut.is q j ∙ ap (λ (b : Bool). if b then None else held q j) f

  before : (q i : ℕ) (h : Held) → IsMemberOf now q i h → IsMemberOf held q i h
  before q i h m = record { there = (was q i h m.there).1; run = m.run }

  -- an index that goes lies in the stretch
  in_cut : (q j : ℕ) → hit q j ≡ true → (q ≡ p) × (IsInStretch x j)
  in_cut q j f =
      let y = and_parts (q == p) _ f in
      let z = and_parts (nat_le from j) (nat_lt j (x.first + x.reserved)) y.1 in
      let low = le_of from j z.0 in
      let inside = cut.inside in
      (number q p y.0, (omega (arith, low, inside), lt_of j (x.first + x.reserved) z.1))

  -- a member behind one that goes goes too, and it is of that run
  goes_behind : (j i : ℕ) → hit p j ≡ true → j ≤ i → i < x.first + x.reserved → hit p i ≡ true
  goes_behind j i f up less =
      let y = and_parts (p == p) _ f in
      let z = and_parts (nat_le from j) (nat_lt j (x.first + x.reserved)) y.1 in
      let low = le_of from j z.0 in
      rw (eq-eqb p p refl) (within from i (x.first + x.reserved) (omega (arith, low, up)) less)
    where
      within : (a j b : ℕ) → a ≤ j → j < b → (nat_le a j && nat_lt j b) ≡ true
      within a j b u v = grind arith

  front_cut : (q i : ℕ) (h : Held) → IsMemberOf now q i h → (j : ℕ) → h.first ≤ j → j ≤ i → IsSoOften now q j h.holds
  front_cut q i h m j low up = record { hold = o.hold; there = still q j (stays (hit q j) refl) ∙ o.there; often = o.often }
    where
      n : IsMemberOf held q i h
      n = before q i h m

      o : IsSoOften held q j h.holds
      o = runs.fronts.front q i h n j low up

      s : IsInStretch h i
      s = runs.stretches.inside q i h n

      in_h : IsInStretch h j
      in_h = (let t = s.1 in (low, omega (arith, t, up)))

      stays : (b : Bool) → hit q j ≡ b → hit q j ≡ false
      stays false f = f
      stays true f =
          let y = in_cut q j f in
          let one = runs.stretches.apart q i h n p a x cut.member j in_h y.1 (inl (sym y.0)) in
          let first = one.0 in
          let count = one.1 in
          let t = s.1 in
          let less : i < x.first + x.reserved = omega (arith, first, count, t) in
          let g : hit p i ≡ true = goes_behind j i (subst (λ (z : ℕ). hit z j ≡ true) y.0 f) up less in
          absurd (false≢true (sym (was q i h m.there).0 ∙ subst (λ (z : ℕ). hit z i ≡ true) (sym y.0) g))

  all_cut : (q i : ℕ) (h : Held) → IsMemberOf now q i h → (other j : ℕ) (k : Held) → IsMemberOf now other j k → IsOneFor q other i → AreInOne h k → IsSome (now other i)
  all_cut q i h m other j k mk one same = go (hit other i) refl
    where
      some : IsSome (held other i)
      some = runs.fronts.all q i h (before q i h m) other j k (before other j k mk) one same

      turned : (c : ℕ) → other ≡ c → IsOneFor q other i → IsOneFor c q i
      turned c e (inl f) = inl (sym f ∙ e)
      turned c e (inr f) = inr f

      back : (c : ℕ) → other ≡ c → IsOneFor q other i → IsOneFor q c i
      back c e (inl f) = inl (sym e ∙ f)
      back c e (inr f) = inr f

      go : (b : Bool) → hit other i ≡ b → IsSome (now other i)
      go false f = subst (λ (o : Option Held). IsSome o) (sym (still other i f)) some
      go true f =
          let y = in_cut other i f in
          let run = runs.stretches.apart q i h (before q i h m) p a x cut.member i (runs.stretches.inside q i h (before q i h m)) y.1 (back p y.0 one) in
          let own : q ≡ p = cut.alone q i h (before q i h m) (turned p y.0 one) (sym run.0, sym run.1) in
          absurd (none_some h (sym (gone q i (subst (λ (z : ℕ). hit z i ≡ true) (y.0 ∙ sym own) f)) ∙ m.there))

  pub runs_cut : HasRuns now
  runs_cut = record {
    stretches = stretches_kept held now runs.stretches
        (λ q j h e. record { process = q; old = h; there = (was q j h e).1; one = inl refl; name = refl; first = refl; reserved = refl; called = λ c. c });
    fronts = record { front = front_cut; all = all_cut };
  }

  pub flags_cut : (names : Map Segment) → HasRunFlags held names → HasRunFlags now names
  flags_cut names flags = record { each = λ q i h m. flags.each q i h (before q i h m) }

  pub full_cut : (names : Map Segment) → HasFullMembers held names → HasFullMembers now names
  full_cut names full = record { each = λ q i h m s some. full.each q i h (before q i h m) s (next q (i + 1) (now q (i + 1)) refl some) }
    where
      next : (q j : ℕ) (o : Option Held) → now q j ≡ o → IsSome o → IsSome (held q j)
      next q j None e t = absurd (false≢true t)
      next q j (Some k) e t = ap is_some (was q j k e).1
