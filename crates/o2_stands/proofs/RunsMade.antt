-- A run that a process makes, by look-ups of what processes hold.
use Rattle.std.proofs.Common.{◌≡◌, ◌≢◌, inl, inr, ℕ, ◌+◌, ◌<◌, ◌≤◌, ◌==◌, ◌&&◌, nat_le, nat_lt, Bool, true, false, Option, Some, None, is_some, IsSome, refl, sym, ap, ◌∙◌, subst, arith, if◌then◌else◌}
use Rattle.std.proofs.lemmas.Bool.{cases_lt, eq-eqb, false≢true}
use Rattle.o2_world.specs.HugeRulings.{held_in_run}
use Rattle.o2_world.specs.Map.{Map, get}
use Rattle.o2_world.specs.Rulings.{is_in_run}
use Rattle.o2_world.specs.World.{ByCall, Held, Segment}
use Rattle.o2_stands.specs.Runs.{AreInOne, HasFullMembers, HasRunFlags, HasRuns, IsInStretch, IsMemberOf, IsOneFor, IsSoOften, is_full, may_be_member, region_end}
use Rattle.o2_stands.proofs.Reserved.{and_parts}
use Rattle.o2_stands.proofs.RunsKept.{low_end}

none_some : (h : Held) → ◌≡◌ {A = Option Held} None (Some h) → ⊥
none_some h e = cc

-- A process holds so many members of a new run once, of which each has another name, and nobody for whom the indexes of its stretch are
-- the same held anything there, nor has a stretch with one of them.
pub record IsNewRun (held now : ℕ → ℕ → Option Held) (p first count n : ℕ) (name : ℕ → ℕ) : Type 0 where
  pub some : 0 < n
  pub most : n ≤ count
  pub low : 0 < first
  pub end : first + count ≤ region_end first
  pub is : (q j : ℕ) → now q j ≡ (if (q == p) && (nat_le first j && nat_lt j (first + n)) then Some (held_in_run (name j) first count 1) else held q j)
  pub free : (q j : ℕ) → first ≤ j → j < first + count → IsOneFor p q j → held q j ≡ None
  pub apart : (q i : ℕ) (h : Held) → IsMemberOf held q i h → (l : ℕ) → IsInStretch h l → first ≤ l → l < first + count → IsOneFor p q l → ⊥
  pub fresh : (q j i : ℕ) (h : Held) → held q j ≡ Some h → h.name ≢ name i
  pub once : (i j : ℕ) → first ≤ i → first ≤ j → name i ≡ name j → i ≡ j

-- what is held is a new member, or was held
data Came (o : Option Held) (hits : Bool) (q p first j last : ℕ) (mine h : Held) : Type 0 where
  New : q ≡ p → first ≤ j → j < last → mine ≡ h → Came o hits q p first j last mine h
  Old : hits ≡ false → o ≡ Some h → Came o hits q p first j last mine h

module _ (held now : ℕ → ℕ → Option Held) (p first count n : ℕ) (name : ℕ → ℕ) (new : IsNewRun held now p first count n name) (runs : HasRuns held) where
  abbrev mine : ℕ → Held
  mine j = held_in_run (name j) first count 1

  number : (a b : ℕ) → (a == b) ≡ true → a ≡ b
  number a b e = grind arith

  le_of : (a b : ℕ) → nat_le a b ≡ true → a ≤ b
  le_of a b e = grind arith

  lt_of : (a b : ℕ) → nat_lt a b ≡ true → a < b
  lt_of a b e = grind arith

  within : (a j b : ℕ) → a ≤ j → j < b → (nat_le a j && nat_lt j b) ≡ true
  within a j b x y = grind arith

  abbrev CameAt : ℕ → ℕ → Held → Type 0
  CameAt q j h = Came (held q j) ((q == p) && (nat_le first j && nat_lt j (first + n))) q p first j (first + n) (mine j) h

  came : (q j : ℕ) (h : Held) → now q j ≡ Some h → CameAt q j h
  came q j h e = go ((q == p) && (nat_le first j && nat_lt j (first + n))) refl (sym (new.is q j) ∙ e)
    where
      go : (b : Bool) → ((q == p) && (nat_le first j && nat_lt j (first + n))) ≡ b → (if b then Some (mine j) else held q j) ≡ Some h → CameAt q j h
      go false f g = Old f g
      go true f g =
          let x = and_parts (q == p) _ f in
          let y = and_parts (nat_le first j) (nat_lt j (first + n)) x.1 in
          New (number q p x.0) (le_of first j y.0) (lt_of j (first + n) y.1) (let z : mine j ≡ h = cc in z)

  now_new : (j : ℕ) → first ≤ j → j < first + n → now p j ≡ Some (mine j)
  now_new j a b = new.is p j ∙ ap (λ (c : Bool). if c then Some (mine j) else held p j) (ap (λ (c : Bool). c && (nat_le first j && nat_lt j (first + n))) (eq-eqb p p refl) ∙ within first j (first + n) a b)

  -- what was held is held still
  now_old : (q j : ℕ) (h : Held) → held q j ≡ Some h → now q j ≡ Some h
  now_old q j h e = go ((q == p) && (nat_le first j && nat_lt j (first + n))) refl
    where
      go : (b : Bool) → ((q == p) && (nat_le first j && nat_lt j (first + n))) ≡ b → now q j ≡ Some h
      go false f = new.is q j ∙ (ap (λ (c : Bool). if c then Some (mine j) else held q j) f ∙ e)
      go true f =
          let x = and_parts (q == p) _ f in
          let y = and_parts (nat_le first j) (nat_lt j (first + n)) x.1 in
          let a = le_of first j y.0 in
          let b = lt_of j (first + n) y.1 in
          let most = new.most in
          absurd (none_some h (sym (new.free q j a (omega (arith, b, most)) (inl (number q p x.0))) ∙ e))

  still_some : (q j : ℕ) → IsSome (held q j) → IsSome (now q j)
  still_some q j s = go (held q j) refl s
    where
      go : (o : Option Held) → held q j ≡ o → IsSome o → IsSome (now q j)
      go None e t = absurd (false≢true t)
      go (Some h) e t = ap is_some (now_old q j h e)

  turned : (a b l : ℕ) → IsOneFor a b l → IsOneFor b a l
  turned a b l (inl e) = inl (sym e)
  turned a b l (inr e) = inr e

  -- an index of the new stretch that is shared makes its first one shared
  high_first : (i : ℕ) → first ≤ i → i < first + count → 4096 ≤ i → 4096 ≤ first
  high_first i a b high = elim (cases_lt first 4096) [
    | inr e ↦ e
    | inl low ↦ (let e = low_end first first (first + count) (omega arith) low new.end in absurd (omega (arith, b, high, e)))
  ]

  one_first : (a b i : ℕ) → first ≤ i → i < first + count → IsOneFor a b i → IsOneFor a b first
  one_first a b i x y (inl e) = inl e
  one_first a b i x y (inr e) = inr (high_first i x y e)

  old_member : (q i : ℕ) (h : Held) → held q i ≡ Some h → is_in_run h ≡ true → IsMemberOf held q i h
  old_member q i h e r = record { there = e; run = r }

  new_index : (i : ℕ) → i < first + n → i < first + count
  new_index i e = (let most = new.most in omega (arith, e, most))

  -- the stretch of a new member
  in_new : (i l : ℕ) (h : Held) → mine i ≡ h → IsInStretch h l → (first ≤ l) × (l < first + count)
  in_new i l h e s = (let a : first ≡ h.first = ap (λ (x : Held). x.first) e in let b : count ≡ h.reserved = ap (λ (x : Held). x.reserved) e in let c = s.0 in let d = s.1 in (omega (arith, a, c), omega (arith, a, b, d)))

  new_in_one : (i j : ℕ) (h k : Held) → mine i ≡ h → mine j ≡ k → AreInOne h k
  new_in_one i j h k e f = (sym (ap (λ (x : Held). x.first) f) ∙ ap (λ (x : Held). x.first) e, sym (ap (λ (x : Held). x.reserved) f) ∙ ap (λ (x : Held). x.reserved) e)

  inside_now : (q i : ℕ) (h : Held) → IsMemberOf now q i h → IsInStretch h i
  inside_now q i h m = by (came q i h m.there)
    where
      by : CameAt q i h → IsInStretch h i
      by (Old f e) = runs.stretches.inside q i h (old_member q i h e m.run)
      by (New same a b e) = subst (λ (x : Held). IsInStretch x i) e (a, new_index i b)

  first_now : (q i : ℕ) (h : Held) → IsMemberOf now q i h → 0 < h.first
  first_now q i h m = by (came q i h m.there)
    where
      by : CameAt q i h → 0 < h.first
      by (Old f e) = runs.stretches.first q i h (old_member q i h e m.run)
      by (New same a b e) = subst (λ (x : Held). 0 < x.first) e new.low

  end_now : (q i : ℕ) (h : Held) → IsMemberOf now q i h → h.first + h.reserved ≤ region_end h.first
  end_now q i h m = by (came q i h m.there)
    where
      by : CameAt q i h → h.first + h.reserved ≤ region_end h.first
      by (Old f e) = runs.stretches.end q i h (old_member q i h e m.run)
      by (New same a b e) = subst (λ (x : Held). x.first + x.reserved ≤ region_end x.first) e new.end

  whole_now : (q i : ℕ) (h : Held) → IsMemberOf now q i h → (other j : ℕ) (k : Held) → now other j ≡ Some k → IsInStretch h j → IsOneFor q other j → AreInOne h k
  whole_now q i h m other j k there s one = by (came q i h m.there) (came other j k there)
    where
      by : CameAt q i h → CameAt other j k → AreInOne h k
      by (Old f e) (Old g d) = runs.stretches.whole q i h (old_member q i h e m.run) other j k d s one
      by (New same a b e) (New also c d g) = new_in_one i j h k e g
      by (New same a b e) (Old g d) =
          let l = in_new i j h e s in
          absurd (none_some k (sym (new.free other j l.0 l.1 (subst (λ (x : ℕ). IsOneFor x other j) same one)) ∙ d))
      by (Old f e) (New also c d g) = absurd (new.apart q i h (old_member q i h e m.run) j s c (new_index j d) (turned q p j (subst (λ (x : ℕ). IsOneFor q x j) also one)))

  apart_now : (q i : ℕ) (h : Held) → IsMemberOf now q i h → (other j : ℕ) (k : Held) → IsMemberOf now other j k → (l : ℕ) → IsInStretch h l → IsInStretch k l → IsOneFor q other l → AreInOne h k
  apart_now q i h m other j k mk l s t one = by (came q i h m.there) (came other j k mk.there)
    where
      by : CameAt q i h → CameAt other j k → AreInOne h k
      by (Old f e) (Old g d) = runs.stretches.apart q i h (old_member q i h e m.run) other j k (old_member other j k d mk.run) l s t one
      by (New same a b e) (New also c d g) = new_in_one i j h k e g
      by (New same a b e) (Old g d) =
          let x = in_new i l h e s in
          absurd (new.apart other j k (old_member other j k d mk.run) l t x.0 x.1 (subst (λ (y : ℕ). IsOneFor y other l) same one))
      by (Old f e) (New also c d g) =
          let x = in_new j l k g t in
          absurd (new.apart q i h (old_member q i h e m.run) l s x.0 x.1 (turned q p l (subst (λ (y : ℕ). IsOneFor q y l) also one)))

  only_now : (q i : ℕ) (h : Held) → IsMemberOf now q i h → (other j : ℕ) (k : Held) → now other j ≡ Some k → k.name ≡ h.name → (j ≡ i) × AreInOne h k
  only_now q i h m other j k there same_name = by (came q i h m.there) (came other j k there)
    where
      by : CameAt q i h → CameAt other j k → (j ≡ i) × AreInOne h k
      by (Old f e) (Old g d) = runs.stretches.only q i h (old_member q i h e m.run) other j k d same_name
      by (New same a b e) (New also c d g) = (new.once j i c a (ap (λ (x : Held). x.name) g ∙ (same_name ∙ sym (ap (λ (x : Held). x.name) e))), new_in_one i j h k e g)
      by (New same a b e) (Old g d) = absurd (new.fresh other j i k d (same_name ∙ sym (ap (λ (x : Held). x.name) e)))
      by (Old f e) (New also c d g) = absurd (new.fresh q i j h e (sym same_name ∙ sym (ap (λ (x : Held). x.name) g)))

  own_now : (q i : ℕ) (h : Held) → IsMemberOf now q i h → (other j : ℕ) (k : Held) → now other j ≡ Some k → k.name ≡ h.name → IsOneFor q other i
  own_now q i h m other j k there same_name = by (came q i h m.there) (came other j k there)
    where
      by : CameAt q i h → CameAt other j k → IsOneFor q other i
      by (Old f e) (Old g d) = runs.stretches.own q i h (old_member q i h e m.run) other j k d same_name
      by (New same a b e) (New also c d g) = inl (also ∙ sym same)
      by (New same a b e) (Old g d) = absurd (new.fresh other j i k d (same_name ∙ sym (ap (λ (x : Held). x.name) e)))
      by (Old f e) (New also c d g) = absurd (new.fresh q i j h e (sym same_name ∙ sym (ap (λ (x : Held). x.name) g)))

  front_now : (q i : ℕ) (h : Held) → IsMemberOf now q i h → (j : ℕ) → h.first ≤ j → j ≤ i → IsSoOften now q j h.holds
  front_now q i h m j low up = by (came q i h m.there)
    where
      by : CameAt q i h → IsSoOften now q j h.holds
      by (Old f e) = (let o = runs.fronts.front q i h (old_member q i h e m.run) j low up in record { hold = o.hold; there = now_old q j o.hold o.there; often = o.often })
      by (New same a b e) =
          let c : first ≡ h.first = ap (λ (x : Held). x.first) e in
          record { hold = mine j; there = ap (λ (x : ℕ). now x j) same ∙ now_new j (omega (arith, c, low)) (omega (arith, b, up)); often = ap (λ (x : Held). x.holds) e }

  all_now : (q i : ℕ) (h : Held) → IsMemberOf now q i h → (other j : ℕ) (k : Held) → IsMemberOf now other j k → IsOneFor q other i → AreInOne h k → IsSome (now other i)
  all_now q i h m other j k mk one same_run = by (came q i h m.there) (came other j k mk.there)
    where
      -- the first index of the new stretch lies in that of a member of a run with the same one
      first_in : (x y : Held) → x.first ≡ first → x.reserved ≡ count → IsInStretch x first
      first_in x y a b = (let s = new.some in let t = new.most in (omega (arith, a), omega (arith, a, b, s, t)))

      first_below : first < first + count
      first_below = (let s = new.some in let t = new.most in omega (arith, s, t))

      by : CameAt q i h → CameAt other j k → IsSome (now other i)
      by (Old f e) (Old g d) = still_some other i (runs.fronts.all q i h (old_member q i h e m.run) other j k (old_member other j k d mk.run) one same_run)
      by (New same a b e) (New also c d g) = ap is_some (ap (λ (x : ℕ). now x i) also ∙ now_new i a b)
      by (New same a b e) (Old g d) =
          let x : k.first ≡ first = same_run.0 ∙ sym (ap (λ (y : Held). y.first) e) in
          let y : k.reserved ≡ count = same_run.1 ∙ sym (ap (λ (z : Held). z.reserved) e) in
          absurd (new.apart other j k (old_member other j k d mk.run) first (first_in k h x y) (omega arith) first_below
          (one_first p other i a (new_index i b) (subst (λ (z : ℕ). IsOneFor z other i) same one)))
      by (Old f e) (New also c d g) =
          let x : h.first ≡ first = sym same_run.0 ∙ sym (ap (λ (y : Held). y.first) g) in
          let y : h.reserved ≡ count = sym same_run.1 ∙ sym (ap (λ (z : Held). z.reserved) g) in
          let s = runs.stretches.inside q i h (old_member q i h e m.run) in
          let u = s.0 in
          let v = s.1 in
          absurd (new.apart q i h (old_member q i h e m.run) first (first_in h k x y) (omega arith) first_below
          (turned q p first (one_first q p i (omega (arith, x, u)) (omega (arith, x, y, v)) (subst (λ (z : ℕ). IsOneFor q z i) also one))))

  pub runs_made : HasRuns now
  runs_made = record {
    stretches = record {
      inside = inside_now;
      first = first_now;
      end = end_now;
      called = λ q i h m. called q i h m (came q i h m.there);
      whole = whole_now;
      apart = apart_now;
      only = only_now;
      own = own_now;
    };
    fronts = record { front = front_now; all = all_now };
  }
    where
      called : (q i : ℕ) (h : Held) → IsMemberOf now q i h → CameAt q i h → h.cause ≡ ByCall
      called q i h m (Old f e) = runs.stretches.called q i h (old_member q i h e m.run)
      called q i h m (New same a b e) = sym (ap (λ (x : Held). x.cause) e)

  -- flags and sizes of members, where those that were keep theirs
  pub flags_made : (names old : Map Segment) → HasRunFlags held old → ((q j : ℕ) (h : Held) → held q j ≡ Some h → get names h.name ≡ get old h.name)
      → ((j : ℕ) → first ≤ j → j < first + n → may_be_member j (get names (name j)) ≡ true) → HasRunFlags now names
  flags_made names old flags same fit = record { each = λ q i h m. by q i h m (came q i h m.there) }
    where
      by : (q i : ℕ) (h : Held) → IsMemberOf now q i h → CameAt q i h → may_be_member i (get names h.name) ≡ true
      by q i h m (Old f e) = ap (may_be_member i) (same q i h e) ∙ flags.each q i h (old_member q i h e m.run)
      by q i h m (New there a b e) = subst (λ (x : Held). may_be_member i (get names x.name) ≡ true) e (fit i a b)

  pub full_made : (names old : Map Segment) → HasFullMembers held old → ((q j : ℕ) (h : Held) → held q j ≡ Some h → get names h.name ≡ get old h.name)
      → ((j : ℕ) → first ≤ j → j + 1 < first + n → is_full (get names (name j)) ≡ true) → HasFullMembers now names
  full_made names old full same fit = record { each = λ q i h m s some. by q i h m s some (came q i h m.there) }
    where
      next : (q i : ℕ) (h : Held) → IsMemberOf now q i h → held q i ≡ Some h → IsInStretch h (i + 1) → IsSome (now q (i + 1)) → (o : Option Held) → now q (i + 1) ≡ o → IsSome (held q (i + 1))
      next q i h m e s some None f = absurd (false≢true (sym (ap is_some f) ∙ some))
      next q i h m e s some (Some k) f = step (came q (i + 1) k f)
        where
          step : CameAt q (i + 1) k → IsSome (held q (i + 1))
          step (Old g d) = ap is_some d
          step (New also c d g) = absurd (new.apart q i h (old_member q i h e m.run) (i + 1) s c (new_index (i + 1) d) (inl also))

      by : (q i : ℕ) (h : Held) → IsMemberOf now q i h → IsInStretch h (i + 1) → IsSome (now q (i + 1)) → CameAt q i h → is_full (get names h.name) ≡ true
      by q i h m s some (Old f e) = ap is_full (same q i h e) ∙ full.each q i h (old_member q i h e m.run) s (next q i h m e s some (now q (i + 1)) refl)
      by q i h m s some (New there a b e) =
          let l = in_new i (i + 1) h e s in
          subst (λ (x : Held). is_full (get names x.name) ≡ true) e (fit i a (below (now q (i + 1)) refl))
        where
          below : (o : Option Held) → now q (i + 1) ≡ o → i + 1 < first + n
          below None f = absurd (false≢true (sym (ap is_some f) ∙ some))
          below (Some k) f = step (came q (i + 1) k f)
            where
              step : CameAt q (i + 1) k → i + 1 < first + n
              step (New also c d g) = d
              step (Old g d) =
                  let l = in_new i (i + 1) h e s in
                  absurd (none_some k (sym (new.free q (i + 1) l.0 l.1 (inl there)) ∙ d))
