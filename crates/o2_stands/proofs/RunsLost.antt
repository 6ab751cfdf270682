-- The stretch of a run goes with the last hold of its members.
use Rattle.std.proofs.Common.{◌≡◌, ◌⊎◌, inl, inr, ℕ, ◌+◌, ◌<◌, ◌≤◌, ◌==◌, ◌&&◌, ◌||◌, nat_le, nat_lt, not, Bool, true, false, cond, List, [], ◌∷◌, filter, Some, refl, sym, ap, ◌∙◌, subst, arith, if◌then◌else◌}
use Rattle.std.specs.List.{list_any}
use Rattle.std.proofs.lemmas.Bool.{false≢true}
use Rattle.o2_world.specs.Changes.{is_used, used}
use Rattle.o2_world.specs.Known.{held_at, reserves}
use Rattle.o2_world.specs.Rulings.{is_in_run}
use Rattle.o2_world.specs.World.{Held, Process, Reserve}
use Rattle.o2_stands.specs.Runs.{HasRuns, IsInStretch, IsMemberOf}
use Rattle.o2_stands.specs.Stands.{AllDisjoint, AllStay, AreDisjoint, IsDisjointFrom, is_placed, is_stretch, region_at, stays_or_is_held}
use Rattle.o2_stands.proofs.Reserved.{and_parts, any_left_false, none_of_both, or_parts, used_all}
use Rattle.o2_stands.proofs.RunsKept.{low_end}
use Rattle.o2_stands.proofs.RunSteps.{high_region, low_region}
use Rattle.o2_stands.proofs.Used.{IsUsedBy, used_by, used_found}

equal_number : (a b : ℕ) → (a == b) ≡ true → a ≡ b
equal_number a b e = grind arith

equal : (a : ℕ) → (a == a) ≡ true
equal a = grind arith

abbrev pub AllFit : (Reserve → Bool) → List Reserve → Type 0
AllFit fits [] = Unit {0}
AllFit fits (r ∷ rs) = (fits r ≡ true) × AllFit fits rs

-- One stretch among those that are reserved.
module _ (region first count : ℕ) (some : 0 < count) where
  abbrev is_it : Reserve → Bool
  is_it = is_stretch region first count

  -- it has its indexes
  it_reserves : (r : Reserve) (j : ℕ) → is_it r ≡ true → first ≤ j → j < first + count → (r.stays ≡ false) × ((r.region ≡ region) × (reserves region j r ≡ true))
  it_reserves r j e low high =
      let x = and_parts (not r.stays) _ e in
      let y = and_parts (r.region == region) _ x.1 in
      let z = and_parts (r.first == first) (r.count == count) y.1 in
      let a : r.first ≡ first = equal_number r.first first z.0 in
      let b : r.count ≡ count = equal_number r.count count z.1 in
      (goes r.stays x.0, (equal_number r.region region y.0, (rw (y.0, a, b, test first j (first + count) low high) refl)))
    where
      goes : (b : Bool) → not b ≡ true → b ≡ false
      goes true e = absurd (false≢true e)
      goes false e = refl

      test : (a j b : ℕ) → a ≤ j → j < b → (nat_le a j && nat_lt j b) ≡ true
      test a j b x y = grind arith

  -- what is disjoint from it doesn't have them
  apart_from : (r q : Reserve) (j : ℕ) → AreDisjoint r q → is_it q ≡ true → first ≤ j → j < first + count → reserves region j r ≡ false
  apart_from r q j apart e low high = go (reserves region j r) refl
    where
      it : (q.stays ≡ false) × ((q.region ≡ region) × (reserves region j q ≡ true))
      it = it_reserves q j e low high

      both : (a b : Bool) → b ≡ false → (a && b) ≡ true → ⊥
      both true b e f = false≢true (sym e ∙ f)
      both false b e f = false≢true f

      use_it : r.region ≡ region → reserves region j r ≡ true → AreDisjoint r q → ⊥
      use_it same has (inl stay) = both r.stays q.stays it.0 stay
      use_it same has (inr none) =
          false≢true (sym (none j (ap (λ (g : ℕ). reserves g j r) same ∙ has)) ∙ (ap (λ (g : ℕ). reserves g j q) same ∙ it.1.1))

      go : (b : Bool) → reserves region j r ≡ b → reserves region j r ≡ false
      go false f = f
      go true f = absurd (use_it (equal_number r.region region (and_parts (r.region == region) _ f).0) f apart)

  -- nor does what lies behind it in the list
  behind_it : (r q : Reserve) (j : ℕ) → AreDisjoint r q → is_it r ≡ true → first ≤ j → j < first + count → reserves region j q ≡ false
  behind_it r q j apart e low high = by apart
    where
      it : (r.stays ≡ false) × ((r.region ≡ region) × (reserves region j r ≡ true))
      it = it_reserves r j e low high

      both : (a b : Bool) → a ≡ false → (a && b) ≡ true → ⊥
      both true b e f = false≢true (sym e)
      both false b e f = false≢true f

      by : AreDisjoint r q → reserves region j q ≡ false
      by (inl stay) = absurd (both r.stays q.stays it.0 stay)
      by (inr none) = sym (ap (λ (g : ℕ). reserves g j q) it.1.0) ∙ none j (ap (λ (g : ℕ). reserves g j r) it.1.0 ∙ it.1.1)

  all_behind_it : (r : Reserve) (rs : List Reserve) (j : ℕ) → IsDisjointFrom r rs → is_it r ≡ true → first ≤ j → j < first + count → list_any (reserves region j) rs ≡ false
  all_behind_it r [] j apart e low high = refl
  all_behind_it r (q ∷ qs) j apart e low high = none_of_both (reserves region j q) (list_any (reserves region j) qs) (behind_it r q j apart.0 e low high) (all_behind_it r qs j apart.1 e low high)

  before_it : (r : Reserve) (rs : List Reserve) (j : ℕ) → IsDisjointFrom r rs → list_any is_it rs ≡ true → first ≤ j → j < first + count → reserves region j r ≡ false
  before_it r [] j apart e low high = absurd (false≢true e)
  before_it r (q ∷ qs) j apart e low high = go (λ g. before_it r qs j apart.1 g low high) (is_it q) refl e
    where
      go : (list_any is_it qs ≡ true → reserves region j r ≡ false) → (b : Bool) → is_it q ≡ b → (b || list_any is_it qs) ≡ true → reserves region j r ≡ false
      go rest true f g = apart_from r q j apart.0 f low high
      go rest false f g = rest g

  -- where it goes, none of its indexes is reserved
  pub none_left : (keeps : Reserve → Bool) → ((r : Reserve) → is_it r ≡ true → keeps r ≡ false) → (rs : List Reserve) → AllDisjoint rs → list_any is_it rs ≡ true → (j : ℕ) → first ≤ j → j < first + count
      → list_any (reserves region j) (filter keeps rs) ≡ false
  none_left keeps goes [] apart e j low high = absurd (false≢true e)
  none_left keeps goes (r ∷ rs) apart e j low high = go (λ g. none_left keeps goes rs apart.1 g j low high) (is_it r) refl e
    where
      go : (list_any is_it rs ≡ true → list_any (reserves region j) (filter keeps rs) ≡ false) → (b : Bool) → is_it r ≡ b → (b || list_any is_it rs) ≡ true → list_any (reserves region j) (filter keeps (r ∷ rs)) ≡ false
      go rest true f g = rw (goes r f) (any_left_false (reserves region j) keeps rs (all_behind_it r rs j apart.0 f low high))
      go rest false f g = by (keeps r) (before_it r rs j apart.0 g low high) (rest g)
        where
          by : (b : Bool) → reserves region j r ≡ false → list_any (reserves region j) (filter keeps rs) ≡ false → list_any (reserves region j) (cond b (r ∷ filter keeps rs) (filter keeps rs)) ≡ false
          by true none rest = none_of_both (reserves region j r) (list_any (reserves region j) (filter keeps rs)) none rest
          by false none rest = rest

  -- and no other one goes: what goes begins where it does, so that it is that one, or has no index
  abbrev begins_there : Reserve → Bool
  begins_there r = not r.stays && ((r.region == region) && (r.first == first))

  only_it : (r : Reserve) (g j : ℕ) → begins_there r ≡ true → reserves region first r ≡ false ⊎ (is_it r ≡ true) → ((g == region) && (nat_le first j && nat_lt j (first + count))) ≡ false → reserves g j r ≡ false
  only_it r g j e (inl none) out = go (reserves g j r) refl
    where
      x : (not r.stays ≡ true) × (((r.region == region) && (r.first == first)) ≡ true)
      x = and_parts (not r.stays) _ e

      y : ((r.region == region) ≡ true) × ((r.first == first) ≡ true)
      y = and_parts (r.region == region) (r.first == first) x.1

      counted : (f j c : ℕ) → (nat_le f j && nat_lt j (f + c)) ≡ true → (nat_le f f && nat_lt f (f + c)) ≡ true
      counted f j c e = grind arith

      go : (b : Bool) → reserves g j r ≡ b → reserves g j r ≡ false
      go false f = f
      go true f =
          let z = (and_parts (r.region == g) _ f).1 in
          let a : r.first ≡ first = equal_number r.first first y.1 in
          absurd (false≢true (sym none ∙ (rw y.0 (subst (λ (k : ℕ). (nat_le r.first k && nat_lt k (r.first + r.count)) ≡ true) a (counted r.first j r.count z)))))
  only_it r g j e (inr it) out = go (reserves g j r) refl
    where
      x : (not r.stays ≡ true) × (((r.region == region) && ((r.first == first) && (r.count == count))) ≡ true)
      x = and_parts (not r.stays) _ it

      y : ((r.region == region) ≡ true) × (((r.first == first) && (r.count == count)) ≡ true)
      y = and_parts (r.region == region) _ x.1

      z : ((r.first == first) ≡ true) × ((r.count == count) ≡ true)
      z = and_parts (r.first == first) (r.count == count) y.1

      go : (b : Bool) → reserves g j r ≡ b → reserves g j r ≡ false
      go false f = f
      go true f =
          let u = and_parts (r.region == g) _ f in
          let a : r.first ≡ first = equal_number r.first first z.0 in
          let b : r.count ≡ count = equal_number r.count count z.1 in
          let c : g ≡ region = sym (equal_number r.region g u.0) ∙ equal_number r.region region y.0 in
          absurd (false≢true (sym out ∙ (rw (c, equal region) (subst (λ (k : ℕ). (nat_le k j && nat_lt j (k + count)) ≡ true) a (subst (λ (k : ℕ). (nat_le r.first j && nat_lt j (r.first + k)) ≡ true) b u.1)))))

  first_of : (r : Reserve) (rs : List Reserve) → AllDisjoint (r ∷ rs) → (is_it r || list_any is_it rs) ≡ true → (reserves region first r ≡ false) ⊎ (is_it r ≡ true)
  first_of r rs apart e = go (is_it r) refl e
    where
      go : (b : Bool) → is_it r ≡ b → (b || list_any is_it rs) ≡ true → (reserves region first r ≡ false) ⊎ (is_it r ≡ true)
      go true f g = inr f
      go false f g = inl (before_it r rs first apart.0 g (omega arith) (omega (arith, some)))

  -- of other indexes the same are reserved
  pub others_left : (keeps fits : Reserve → Bool) → ((r : Reserve) → fits r ≡ true → keeps r ≡ false → begins_there r ≡ true) → (rs : List Reserve) → AllFit fits rs → AllDisjoint rs
      → (list_any is_it rs ≡ true) ⊎ (list_any (reserves region first) rs ≡ false) → (g j : ℕ)
      → ((g == region) && (nat_le first j && nat_lt j (first + count))) ≡ false → list_any (reserves g j) (filter keeps rs) ≡ list_any (reserves g j) rs
  others_left keeps fits begins [] fit apart e g j out = refl
  others_left keeps fits begins (r ∷ rs) fit apart e g j out = go (λ u. others_left keeps fits begins rs fit.1 apart.1 u g j out) (keeps r) refl
    where
      this : (list_any is_it (r ∷ rs) ≡ true) ⊎ (list_any (reserves region first) (r ∷ rs) ≡ false) → (reserves region first r ≡ false) ⊎ (is_it r ≡ true)
      this (inl has) = first_of r rs apart has
      this (inr none) = inl (or_parts (reserves region first r) _ none).0

      later : (list_any is_it (r ∷ rs) ≡ true) ⊎ (list_any (reserves region first) (r ∷ rs) ≡ false) → (list_any is_it rs ≡ true) ⊎ (list_any (reserves region first) rs ≡ false)
      later (inr none) = inr (or_parts (reserves region first r) _ none).1
      later (inl has) = by (is_it r) refl has
        where
          by : (b : Bool) → is_it r ≡ b → (b || list_any is_it rs) ≡ true → (list_any is_it rs ≡ true) ⊎ (list_any (reserves region first) rs ≡ false)
          by true f h = inr (all_behind_it r rs first apart.0 f (omega arith) (omega (arith, some)))
          by false f h = inl h

      go : ((list_any is_it rs ≡ true) ⊎ (list_any (reserves region first) rs ≡ false) → list_any (reserves g j) (filter keeps rs)
          ≡ list_any (reserves g j) rs) → (b : Bool) → keeps r ≡ b → list_any (reserves g j) (filter keeps (r ∷ rs))
          ≡ (reserves g j r || list_any (reserves g j) rs)
      go rest true f = rw f (ap (λ (b : Bool). reserves g j r || b) (rest (later e)))
      go rest false f = rw f (rest (later e) ∙ sym (ap (λ (b : Bool). b || list_any (reserves g j) rs) (only_it r g j (begins r fit.0 f) (this e) out)))

-- Processes that lose holds of the members of one run alone, as the one of this member.

module _ (ps qs : List Process) (rs : List Reserve) (n i : ℕ) (h : Held) (member : IsMemberOf (held_at ps) n i h) (runs : HasRuns (held_at ps))
    (kept : (q j : ℕ) (k : Held) → held_at ps q j ≡ Some k → (held_at qs q j ≡ Some k) ⊎ ((q ≡ n) × IsInStretch h j)) where
  -- the region of the run, by its first index
  low_run : h.first < 4096 → region_at n i ≡ n
  low_run low =
      let e = low_end h.first h.first (h.first + h.reserved) (omega arith) low (runs.stretches.end n i h member) in
      let z = (runs.stretches.inside n i h member).1 in
      low_region n i (omega (arith, e, z))

  high_run : 4096 ≤ h.first → region_at n i ≡ 0
  high_run high = (let z = (runs.stretches.inside n i h member).0 in high_region n i (omega (arith, high, z)))

  -- each stretch that is used goes on to be so, but for that of the run
  pub still_used : (r : Reserve) → r.stays ≡ false → is_placed r ≡ true → is_used ps r ≡ true → (is_used qs r ≡ true) ⊎ ((r.region ≡ region_at n i) × (r.first ≡ h.first))
  still_used r goes placed e = by (kept u.number u.index u.hold u.there)
    where
      u : IsUsedBy ps r.region r.first
      u = used_by ps r goes e

      x : ((u.hold.first == r.first) ≡ true) × (is_in_run u.hold ≡ true)
      x = and_parts (u.hold.first == r.first) (is_in_run u.hold) u.runs

      region_is : u.number ≡ n → r.first ≡ h.first → (b : Bool) → (r.region == 0) ≡ b → (if b then nat_le 4096 r.first else nat_lt r.first 4096) ≡ true → r.region ≡ region_at n i
      region_is own first true f g = equal_number r.region 0 f ∙ sym (high_run (above h.first (ap (λ (k : ℕ). nat_le 4096 k) (sym first) ∙ g)))
        where
          above : (k : ℕ) → nat_le 4096 k ≡ true → 4096 ≤ k
          above k e = grind arith
      region_is own first false f g = sym (u.own f) ∙ own ∙ sym (low_run (below h.first (ap (λ (k : ℕ). nat_lt k 4096) (sym first) ∙ g)))
        where
          below : (k : ℕ) → nat_lt k 4096 ≡ true → k < 4096
          below k e = grind arith

      by : (held_at qs u.number u.index ≡ Some u.hold) ⊎ ((u.number ≡ n) × IsInStretch h u.index) → (is_used qs r ≡ true) ⊎ ((r.region ≡ region_at n i) × (r.first ≡ h.first))
      by (inl there) = inl (used_found qs r (record { number = u.number; index = u.index; hold = u.hold; there = there; runs = u.runs; own = u.own }))
      by (inr hit) =
          let one = runs.stretches.whole n i h member u.number u.index u.hold u.there hit.1 (inl hit.0) in
          let first : r.first ≡ h.first = sym (equal_number u.hold.first r.first x.0) ∙ one.0 in
          inr (region_is hit.0 first (r.region == 0) refl placed, first)

  -- where a process of the region holds the run's first index, nothing goes
  pub all_used : AllStay ps rs → IsUsedBy qs (region_at n i) h.first → used qs rs ≡ rs
  all_used stay u = used_all qs rs (stays rs stay)
    where
      as_used : (r : Reserve) → r.region ≡ region_at n i → r.first ≡ h.first → is_used qs r ≡ true
      as_used r a b = used_found qs r (subst (λ (g : ℕ). IsUsedBy qs g r.first) (sym a) (subst (λ (f : ℕ). IsUsedBy qs (region_at n i) f) (sym b) u))

      one : (r : Reserve) → stays_or_is_held ps r ≡ true → stays_or_is_held qs r ≡ true
      one r e = go ((r.region == 0) && r.stays) r.stays refl (is_placed r) refl e
        where
          either : (is_used qs r ≡ true) ⊎ ((r.region ≡ region_at n i) × (r.first ≡ h.first)) → is_used qs r ≡ true
          either (inl f) = f
          either (inr same) = as_used r same.0 same.1

          go : (a s : Bool) → r.stays ≡ s → (b : Bool) → is_placed r ≡ b → (a || (not s && (b && is_used ps r))) ≡ true → (a || (not s && (b && is_used qs r))) ≡ true
          go true s is b at e = refl
          go false true is b at e = e
          go false false is false at e = e
          go false false is true at e = either (still_used r is at e)

      stays : (rs : List Reserve) → AllStay ps rs → AllStay qs rs
      stays [] all = tt
      stays (r ∷ rs) all = (one r all.0, stays rs all.1)

  -- where nobody of the region holds a member any more, its stretch goes
  module _ (none : (q j : ℕ) (k : Held) → held_at qs q j ≡ Some k → is_in_run k ≡ true → k.first ≡ h.first → ((region_at n i == 0) ≡ false → q ≡ region_at n i) → ⊥) where
    abbrev it : Reserve → Bool
    it = is_stretch (region_at n i) h.first h.reserved

    pub it_goes : (r : Reserve) → it r ≡ true → is_used qs r ≡ false
    it_goes r e = go (is_used qs r) refl
      where
        x : (not r.stays ≡ true) × (((r.region == region_at n i) && ((r.first == h.first) && (r.count == h.reserved))) ≡ true)
        x = and_parts (not r.stays) _ e

        y : ((r.region == region_at n i) ≡ true) × (((r.first == h.first) && (r.count == h.reserved)) ≡ true)
        y = and_parts (r.region == region_at n i) _ x.1

        goes : (b : Bool) → not b ≡ true → b ≡ false
        goes true e = absurd (false≢true e)
        goes false e = refl

        go : (b : Bool) → is_used qs r ≡ b → is_used qs r ≡ false
        go false f = f
        go true f =
            let u = used_by qs r (goes r.stays x.0) f in
            let z = and_parts (u.hold.first == r.first) (is_in_run u.hold) u.runs in
            let region : r.region ≡ region_at n i = equal_number r.region (region_at n i) y.0 in
            absurd (none u.number u.index u.hold u.there z.1 (equal_number u.hold.first r.first z.0 ∙ equal_number r.first h.first (and_parts (r.first == h.first) _ y.1).0)
            (λ other. u.own (ap (λ (g : ℕ). g == 0) region ∙ other) ∙ region))

    -- what goes begins where the run does
    pub begins : (r : Reserve) → stays_or_is_held ps r ≡ true → is_used qs r ≡ false → (not r.stays && ((r.region == region_at n i) && (r.first == h.first))) ≡ true
    begins r e gone = go ((r.region == 0) && r.stays) refl r.stays refl (is_placed r) refl e
      where
        fixed : ((r.region == 0) && r.stays) ≡ true → is_used qs r ≡ true
        fixed is = (let x = and_parts (r.region == 0) r.stays is in rw (x.0, x.1) refl)

        there : (is_used qs r ≡ true) ⊎ ((r.region ≡ region_at n i) × (r.first ≡ h.first)) → r.stays ≡ false → (not r.stays && ((r.region == region_at n i) && (r.first == h.first))) ≡ true
        there (inl f) goes = absurd (false≢true (sym gone ∙ f))
        there (inr same) goes = rw (goes, same.0, same.1, equal (region_at n i), equal h.first) refl

        go : (a : Bool) → ((r.region == 0) && r.stays) ≡ a → (s : Bool) → r.stays ≡ s → (b : Bool) → is_placed r ≡ b → (a || (not s && (b && is_used ps r))) ≡ true
            → (not r.stays && ((r.region == region_at n i) && (r.first == h.first))) ≡ true
        go true is s stays b at e = absurd (false≢true (sym gone ∙ fixed is))
        go false is true stays b at e = absurd (false≢true e)
        go false is false stays false at e = absurd (false≢true e)
        go false is false stays true at e = there (still_used r stays at e) stays
