-- A run gets new members, which each of its holders holds as often as its first one, by look-ups of what processes hold.
use Rattle.std.proofs.Common.{◌≡◌, ◌≢◌, inl, inr, ℕ, ◌+◌, ◌<◌, ◌≤◌, ◌&&◌, nat_le, nat_lt, Bool, true, false, Option, Some, None, is_some, IsSome, refl, sym, ap, ◌∙◌, subst, arith, if◌then◌else◌}
use Rattle.std.proofs.lemmas.Bool.{cases_lt, false≢true}
use Rattle.o2_world.specs.HugeRulings.{held_in_run}
use Rattle.o2_world.specs.Rulings.{is_in_run}
use Rattle.o2_world.specs.Map.{Map, get}
use Rattle.o2_world.specs.World.{ByCall, Held, Segment}
use Rattle.o2_stands.specs.Runs.{AreInOne, HasFullMembers, HasRunFlags, HasRuns, IsInStretch, IsMemberOf, IsOneFor, IsSoOften, is_full, may_be_member, region_end}
use Rattle.o2_stands.proofs.Reserved.{and_parts}
use Rattle.o2_stands.proofs.RunsKept.{low_end}

none_some : (h : Held) → ◌≡◌ {A = Option Held} None (Some h) → ⊥
none_some h e = cc

some_is : (h k : Held) (o : Option Held) → o ≡ Some h → o ≡ Some k → h ≡ k
some_is h k o e f = cc

-- A process holds a run whose members lie below an index. All who hold it, and who have its first index in their region, hold all these
-- members and nothing else of the stretch, and hold so many members more behind it, each of a name that nobody held.
pub record IsGrownRun (held now : ℕ → ℕ → Option Held) (p from n : ℕ) (x : Held) (holder : ℕ → Bool) (often name : ℕ → ℕ) : Type 0 where
  pub member : IsMemberOf held p x.first x
  pub from_first : x.first < from
  pub most : from + n ≤ x.first + x.reserved
  pub is : (q j : ℕ) → now q j ≡ (if holder q && (nat_le from j && nat_lt j (from + n)) then Some (held_in_run (name j) x.first x.reserved (often q)) else held q j)
  -- who holds the run
  pub holders : (q : ℕ) → holder q ≡ true → IsOneFor p q x.first
  pub holds : (q j : ℕ) → holder q ≡ true → x.first ≤ j → j < from → (k : Held) × ((held q j ≡ Some k) × (AreInOne x k × (k.holds ≡ often q)))
  pub all : (q j : ℕ) (k : Held) → IsMemberOf held q j k → AreInOne x k → IsOneFor p q j → holder q ≡ true
  pub free : (q j : ℕ) → from ≤ j → j < x.first + x.reserved → IsOneFor p q j → held q j ≡ None
  pub fresh : (q j i : ℕ) (h : Held) → held q j ≡ Some h → h.name ≢ name i
  pub once : (i j : ℕ) → from ≤ i → from ≤ j → name i ≡ name j → i ≡ j

-- what is held is a new member, or was held
data Came (o : Option Held) (hits holds : Bool) (from j last : ℕ) (mine h : Held) : Type 0 where
  New : holds ≡ true → from ≤ j → j < last → mine ≡ h → Came o hits holds from j last mine h
  Old : hits ≡ false → o ≡ Some h → Came o hits holds from j last mine h

module _ (held now : ℕ → ℕ → Option Held) (p from n : ℕ) (x : Held) (holder : ℕ → Bool) (often name : ℕ → ℕ) (g : IsGrownRun held now p from n x holder often name) (runs : HasRuns held) where
  abbrev mine : ℕ → ℕ → Held
  mine q j = held_in_run (name j) x.first x.reserved (often q)

  abbrev CameAt : ℕ → ℕ → Held → Type 0
  CameAt q j h = Came (held q j) (holder q && (nat_le from j && nat_lt j (from + n))) (holder q) from j (from + n) (mine q j) h

  le_of : (a b : ℕ) → nat_le a b ≡ true → a ≤ b
  le_of a b e = grind arith

  lt_of : (a b : ℕ) → nat_lt a b ≡ true → a < b
  lt_of a b e = grind arith

  within : (a j b : ℕ) → a ≤ j → j < b → (nat_le a j && nat_lt j b) ≡ true
  within a j b u v = grind arith

  came : (q j : ℕ) (h : Held) → now q j ≡ Some h → CameAt q j h
  came q j h e = go (holder q && (nat_le from j && nat_lt j (from + n))) refl (sym (g.is q j) ∙ e)
    where
      go : (b : Bool) → (holder q && (nat_le from j && nat_lt j (from + n))) ≡ b → (if b then Some (mine q j) else held q j) ≡ Some h → CameAt q j h
      go false f u = Old f u
      go true f u =
          let y = and_parts (holder q) _ f in
          let z = and_parts (nat_le from j) (nat_lt j (from + n)) y.1 in
          New y.0 (le_of from j z.0) (lt_of j (from + n) z.1) (let v : mine q j ≡ h = cc in v)

  now_new : (q j : ℕ) → holder q ≡ true → from ≤ j → j < from + n → now q j ≡ Some (mine q j)
  now_new q j h a b = g.is q j ∙ ap (λ (c : Bool). if c then Some (mine q j) else held q j) (ap (λ (c : Bool). c && (nat_le from j && nat_lt j (from + n))) h ∙ within from j (from + n) a b)

  some_reserved : 0 < x.reserved
  some_reserved = above x.reserved g.member.run
    where
      above : (n : ℕ) → is_in_run (record x { reserved = n }) ≡ true → 0 < n
      above n e = grind arith

  -- an index of the stretch that is shared makes its first one shared
  high_first : (i : ℕ) → x.first ≤ i → i < x.first + x.reserved → 4096 ≤ i → 4096 ≤ x.first
  high_first i a b high = elim (cases_lt x.first 4096) [
    | inr e ↦ e
    | inl low ↦ (let e = low_end x.first x.first (x.first + x.reserved) (omega arith) low (runs.stretches.end p x.first x g.member) in absurd (omega (arith, b, high, e)))
  ]

  -- and the first one makes each of them shared
  up : (q i : ℕ) → x.first ≤ i → IsOneFor p q x.first → IsOneFor p q i
  up q i a (inl e) = inl e
  up q i a (inr e) = inr (omega (arith, a, e))

  first_in : IsInStretch x x.first
  first_in = (let s = some_reserved in (omega arith, omega (arith, s)))

  new_in : (j : ℕ) → from ≤ j → j < from + n → IsInStretch x j
  new_in j a b = (let f = g.from_first in let m = g.most in (omega (arith, f, a), omega (arith, b, m)))

  now_old : (q j : ℕ) (h : Held) → held q j ≡ Some h → now q j ≡ Some h
  now_old q j h e = go (holder q && (nat_le from j && nat_lt j (from + n))) refl
    where
      go : (b : Bool) → (holder q && (nat_le from j && nat_lt j (from + n))) ≡ b → now q j ≡ Some h
      go false f = g.is q j ∙ (ap (λ (c : Bool). if c then Some (mine q j) else held q j) f ∙ e)
      go true f =
          let y = and_parts (holder q) _ f in
          let z = and_parts (nat_le from j) (nat_lt j (from + n)) y.1 in
          let s = new_in j (le_of from j z.0) (lt_of j (from + n) z.1) in
          absurd (none_some h (sym (g.free q j (le_of from j z.0) s.1 (up q j s.0 (g.holders q y.0))) ∙ e))

  still_some : (q j : ℕ) → IsSome (held q j) → IsSome (now q j)
  still_some q j s = go (held q j) refl s
    where
      go : (o : Option Held) → held q j ≡ o → IsSome o → IsSome (now q j)
      go None e t = absurd (false≢true t)
      go (Some h) e t = ap is_some (now_old q j h e)

  old_member : (q i : ℕ) (h : Held) → held q i ≡ Some h → is_in_run h ≡ true → IsMemberOf held q i h
  old_member q i h e r = record { there = e; run = r }

  -- a new member is of the run
  new_one : (q j : ℕ) (h : Held) → mine q j ≡ h → AreInOne x h
  new_one q j h e = (sym (ap (λ (y : Held). y.first) e), sym (ap (λ (y : Held). y.reserved) e))

  both_one : (h k : Held) → AreInOne x h → AreInOne x k → AreInOne h k
  both_one h k a b = (b.0 ∙ sym a.0, b.1 ∙ sym a.1)

  in_stretch : (h : Held) (l : ℕ) → AreInOne x h → IsInStretch h l → IsInStretch x l
  in_stretch h l one s = (let a = one.0 in let b = one.1 in let c = s.0 in let d = s.1 in (omega (arith, a, c), omega (arith, a, b, d)))

  -- for the first holder and another one an index is one, where it is for one of them and a third
  third : (a b l : ℕ) → x.first ≤ l → l < x.first + x.reserved → IsOneFor p a x.first → IsOneFor a b l → IsOneFor p b l
  third a b l u v (inl e) (inl f) = inl (f ∙ e)
  third a b l u v (inr e) f = inr (omega (arith, e, u))
  third a b l u v (inl e) (inr f) = inr f

  turned : (a b l : ℕ) → IsOneFor a b l → IsOneFor b a l
  turned a b l (inl e) = inl (sym e)
  turned a b l (inr e) = inr e

  -- who holds an old member of another stretch that has an index of the run's is of the run
  by_index : (q i : ℕ) (h : Held) → IsMemberOf held q i h → (l : ℕ) → IsInStretch h l → IsInStretch x l → IsOneFor p q l → AreInOne x h
  by_index q i h m l s t one = runs.stretches.apart p x.first x g.member q i h m l t s one

  inside_now : (q i : ℕ) (h : Held) → IsMemberOf now q i h → IsInStretch h i
  inside_now q i h m = by (came q i h m.there)
    where
      by : CameAt q i h → IsInStretch h i
      by (Old f e) = runs.stretches.inside q i h (old_member q i h e m.run)
      by (New o a b e) = subst (λ (y : Held). IsInStretch y i) e (new_in i a b)

  first_now : (q i : ℕ) (h : Held) → IsMemberOf now q i h → 0 < h.first
  first_now q i h m = by (came q i h m.there)
    where
      by : CameAt q i h → 0 < h.first
      by (Old f e) = runs.stretches.first q i h (old_member q i h e m.run)
      by (New o a b e) = subst (λ (y : Held). 0 < y.first) e (runs.stretches.first p x.first x g.member)

  end_now : (q i : ℕ) (h : Held) → IsMemberOf now q i h → h.first + h.reserved ≤ region_end h.first
  end_now q i h m = by (came q i h m.there)
    where
      by : CameAt q i h → h.first + h.reserved ≤ region_end h.first
      by (Old f e) = runs.stretches.end q i h (old_member q i h e m.run)
      by (New o a b e) = subst (λ (y : Held). y.first + y.reserved ≤ region_end y.first) e (runs.stretches.end p x.first x g.member)

  whole_now : (q i : ℕ) (h : Held) → IsMemberOf now q i h → (other j : ℕ) (k : Held) → now other j ≡ Some k → IsInStretch h j → IsOneFor q other j → AreInOne h k
  whole_now q i h m other j k there s one = by (came q i h m.there) (came other j k there)
    where
      by : CameAt q i h → CameAt other j k → AreInOne h k
      by (Old f e) (Old u d) = runs.stretches.whole q i h (old_member q i h e m.run) other j k d s one
      by (New o a b e) (New w c d u) = both_one h k (new_one q i h e) (new_one other j k u)
      by (New o a b e) (Old u d) =
          let t = in_stretch h j (new_one q i h e) s in
          both_one h k (new_one q i h e) (runs.stretches.whole p x.first x g.member other j k d t (third q other j t.0 t.1 (g.holders q o) one))
      by (Old f e) (New w c d u) =
          let t = new_in j c d in
          both_one h k (by_index q i h (old_member q i h e m.run) j s t (third other q j t.0 t.1 (g.holders other w) (turned q other j one))) (new_one other j k u)

  apart_now : (q i : ℕ) (h : Held) → IsMemberOf now q i h → (other j : ℕ) (k : Held) → IsMemberOf now other j k → (l : ℕ) → IsInStretch h l → IsInStretch k l → IsOneFor q other l → AreInOne h k
  apart_now q i h m other j k mk l s t one = by (came q i h m.there) (came other j k mk.there)
    where
      by : CameAt q i h → CameAt other j k → AreInOne h k
      by (Old f e) (Old u d) = runs.stretches.apart q i h (old_member q i h e m.run) other j k (old_member other j k d mk.run) l s t one
      by (New o a b e) (New w c d u) = both_one h k (new_one q i h e) (new_one other j k u)
      by (New o a b e) (Old u d) =
          let v = in_stretch h l (new_one q i h e) s in
          both_one h k (new_one q i h e) (by_index other j k (old_member other j k d mk.run) l t v (third q other l v.0 v.1 (g.holders q o) one))
      by (Old f e) (New w c d u) =
          let v = in_stretch k l (new_one other j k u) t in
          both_one h k (by_index q i h (old_member q i h e m.run) l s v (third other q l v.0 v.1 (g.holders other w) (turned q other l one))) (new_one other j k u)

  only_now : (q i : ℕ) (h : Held) → IsMemberOf now q i h → (other j : ℕ) (k : Held) → now other j ≡ Some k → k.name ≡ h.name → (j ≡ i) × AreInOne h k
  only_now q i h m other j k there same_name = by (came q i h m.there) (came other j k there)
    where
      by : CameAt q i h → CameAt other j k → (j ≡ i) × AreInOne h k
      by (Old f e) (Old u d) = runs.stretches.only q i h (old_member q i h e m.run) other j k d same_name
      by (New o a b e) (New w c d u) = (g.once j i c a (ap (λ (y : Held). y.name) u ∙ (same_name ∙ sym (ap (λ (y : Held). y.name) e))), both_one h k (new_one q i h e) (new_one other j k u))
      by (New o a b e) (Old u d) = absurd (g.fresh other j i k d (same_name ∙ sym (ap (λ (y : Held). y.name) e)))
      by (Old f e) (New w c d u) = absurd (g.fresh q i j h e (sym same_name ∙ sym (ap (λ (y : Held). y.name) u)))

  both_holders : (a b i : ℕ) → x.first ≤ i → IsOneFor p a x.first → IsOneFor p b x.first → IsOneFor a b i
  both_holders a b i low (inl e) (inl f) = inl (f ∙ sym e)
  both_holders a b i low (inr e) f = inr (omega (arith, e, low))
  both_holders a b i low (inl e) (inr f) = inr (omega (arith, f, low))

  own_now : (q i : ℕ) (h : Held) → IsMemberOf now q i h → (other j : ℕ) (k : Held) → now other j ≡ Some k → k.name ≡ h.name → IsOneFor q other i
  own_now q i h m other j k there same_name = by (came q i h m.there) (came other j k there)
    where
      by : CameAt q i h → CameAt other j k → IsOneFor q other i
      by (Old f e) (Old u d) = runs.stretches.own q i h (old_member q i h e m.run) other j k d same_name
      by (New o a b e) (New w c d u) = both_holders q other i (new_in i a b).0 (g.holders q o) (g.holders other w)
      by (New o a b e) (Old u d) = absurd (g.fresh other j i k d (same_name ∙ sym (ap (λ (y : Held). y.name) e)))
      by (Old f e) (New w c d u) = absurd (g.fresh q i j h e (sym same_name ∙ sym (ap (λ (y : Held). y.name) u)))

  front_now : (q i : ℕ) (h : Held) → IsMemberOf now q i h → (j : ℕ) → h.first ≤ j → j ≤ i → IsSoOften now q j h.holds
  front_now q i h m j low high = by (came q i h m.there)
    where
      by : CameAt q i h → IsSoOften now q j h.holds
      by (Old f e) = (let o = runs.fronts.front q i h (old_member q i h e m.run) j low high in record { hold = o.hold; there = now_old q j o.hold o.there; often = o.often })
      by (New o a b e) = elim (cases_lt j from) [
        | inl below ↦
            (let c = (new_one q i h e).0 in
            let y = g.holds q j o (omega (arith, c, low)) below in
            record { hold = y.0; there = now_old q j y.0 y.1.0; often = y.1.1.1 ∙ ap (λ (z : Held). z.holds) e })
        | inr past ↦ record { hold = mine q j; there = now_new q j o past (omega (arith, b, high)); often = ap (λ (z : Held). z.holds) e }
      ]

  all_now : (q i : ℕ) (h : Held) → IsMemberOf now q i h → (other j : ℕ) (k : Held) → IsMemberOf now other j k → IsOneFor q other i → AreInOne h k → IsSome (now other i)
  all_now q i h m other j k mk one same = by (came q i h m.there) (came other j k mk.there)
    where
      -- who holds the run holds each index that one of its members has
      holder_has : holder other ≡ true → IsInStretch x i → CameAt q i h → IsSome (now other i)
      holder_has o s (New w a b e) = ap is_some (now_new other i o a b)
      holder_has o s (Old f e) = elim (cases_lt i from) [
        | inl below ↦ (let y = g.holds other i o s.0 below in ap is_some (now_old other i y.0 y.1.0))
        | inr past ↦ absurd (none_some h (sym (g.free q i past s.1 (third other q i s.0 s.1 (g.holders other o) (turned q other i one))) ∙ e))
      ]

      by : CameAt q i h → CameAt other j k → IsSome (now other i)
      by (Old f e) (Old u d) = still_some other i (runs.fronts.all q i h (old_member q i h e m.run) other j k (old_member other j k d mk.run) one same)
      by (New o a b e) (New w c d u) = ap is_some (now_new other i w a b)
      by (New o a b e) (Old u d) =
          let one_x : AreInOne x k = (same.0 ∙ (new_one q i h e).0, same.1 ∙ (new_one q i h e).1) in
          let s = new_in i a b in
          let t = in_stretch k j one_x (runs.stretches.inside other j k (old_member other j k d mk.run)) in
          let near = third q other i s.0 s.1 (g.holders q o) one in
          holder_has (g.all other j k (old_member other j k d mk.run) one_x (moved s t near)) s (New o a b e)
        where
          -- in a stretch, one index is one for both where another is
          moved : IsInStretch x i → IsInStretch x j → IsOneFor p other i → IsOneFor p other j
          moved s t (inl e) = inl e
          moved s t (inr e) = up other j t.0 (inr (high_first i s.0 s.1 e))
      by (Old f e) (New w c d u) =
          let one_h : AreInOne x h = (sym same.0 ∙ (new_one other j k u).0, sym same.1 ∙ (new_one other j k u).1) in
          let s = in_stretch h i one_h (runs.stretches.inside q i h (old_member q i h e m.run)) in
          holder_has w s (Old f e)

  pub runs_grown : HasRuns now
  runs_grown = record {
    stretches = record {
      inside = inside_now;
      first = first_now;
      end = end_now;
      called = λ q i h m. called q i h m (came q i h m.there);
      whole = whole_now;
      apart = apart_now;
      only = only_now;
      own = own_now;
    };
    fronts = record { front = front_now; all = all_now };
  }
    where
      called : (q i : ℕ) (h : Held) → IsMemberOf now q i h → CameAt q i h → h.cause ≡ ByCall
      called q i h m (Old f e) = runs.stretches.called q i h (old_member q i h e m.run)
      called q i h m (New o a b e) = sym (ap (λ (y : Held). y.cause) e)

  -- flags and sizes of members
  pub flags_grown : (names : Map Segment) → HasRunFlags held names → ((j : ℕ) → from ≤ j → j < from + n → may_be_member j (get names (name j)) ≡ true) → HasRunFlags now names
  flags_grown names flags fit = record { each = λ q i h m. by q i h m (came q i h m.there) }
    where
      by : (q i : ℕ) (h : Held) → IsMemberOf now q i h → CameAt q i h → may_be_member i (get names h.name) ≡ true
      by q i h m (Old f e) = flags.each q i h (old_member q i h e m.run)
      by q i h m (New o a b e) = subst (λ (y : Held). may_be_member i (get names y.name) ≡ true) e (fit i a b)

  pub full_grown : (names : Map Segment) → ((q i : ℕ) (h : Held) → IsMemberOf held q i h → IsInStretch h (i + 1) → IsSome (now q (i + 1)) → is_full (get names h.name) ≡ true)
      → ((j : ℕ) → from ≤ j → j + 1 < from + n → is_full (get names (name j)) ≡ true) → HasFullMembers now names
  full_grown names old new = record { each = λ q i h m s some. by q i h m s some (came q i h m.there) }
    where
      by : (q i : ℕ) (h : Held) → IsMemberOf now q i h → IsInStretch h (i + 1) → IsSome (now q (i + 1)) → CameAt q i h → is_full (get names h.name) ≡ true
      by q i h m s some (Old f e) = old q i h (old_member q i h e m.run) s some
      by q i h m s some (New o a b e) = subst (λ (y : Held). is_full (get names y.name) ≡ true) e (new i a (below (now q (i + 1)) refl))
        where
          below : (c : Option Held) → now q (i + 1) ≡ c → i + 1 < from + n
          below None f = absurd (false≢true (sym (ap is_some f) ∙ some))
          below (Some k) f = step (came q (i + 1) k f)
            where
              step : CameAt q (i + 1) k → i + 1 < from + n
              step (New w c d u) = d
              step (Old u d) =
                  let t = in_stretch h (i + 1) (new_one q i h e) s in
                  absurd (none_some k (sym (g.free q (i + 1) (omega (arith, a)) t.1 (up q (i + 1) t.0 (g.holders q o))) ∙ d))

  -- what is held at a new index is a new member
  pub new_at : (q j : ℕ) → from ≤ j → IsInStretch x j → IsOneFor p q j → IsSome (now q j) → (holder q ≡ true) × (j < from + n)
  new_at q j low s one some = go (now q j) refl
    where
      go : (o : Option Held) → now q j ≡ o → (holder q ≡ true) × (j < from + n)
      go None e = absurd (false≢true (sym (ap is_some e) ∙ some))
      go (Some k) e = by (came q j k e)
        where
          by : CameAt q j k → (holder q ≡ true) × (j < from + n)
          by (New w c d u) = (w, d)
          by (Old u d) = absurd (none_some k (sym (g.free q j low s.1 one) ∙ d))
