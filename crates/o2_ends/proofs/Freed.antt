-- What is reserved as a process lets go of what it held, index by index, comes to what is reserved behind its end.
use Rattle.std.proofs.Common.{◌≡◌, ◌≢◌, ◌⊎◌, inl, inr, ℕ, zero, suc, ◌+◌, ◌-◌, ◌<◌, ◌≤◌, Bool, true, false, cond, not, ◌&&◌, Option, Some, None, is_some, IsSome, min, refl, sym, ap, ◌∙◌, subst, arith}
use Rattle.std.specs.Prelude.{nat_le, nat_lt, ◌==◌, if◌then◌else◌}
use Rattle.std.proofs.lemmas.Bool.{cases_eq, cases_lt, eq-eqb, false≢true, ne_eqb}
use Rattle.o2_regions.specs.declared.held.Held.{Held}
use Rattle.o2_regions.specs.declared.held.Region.TheVariants.{Private, Shared}
use Rattle.o2_regions.specs.Maps.{Maps, end_of, held_at, is_reserved, region_of, some_holds}
use Rattle.o2_stands.specs.Runs.{AreOfOne, AreRuns, Covers, IsMember}
use Rattle.o2_stands.specs.Stands.{IsIndex}
use Rattle.o2_stands.proofs.Moves.{index_same}
use Rattle.o2_ends.specs.LetsGo.{FreesAll, FreesAt, FreesOwn, IsAloneLeft, IsRunLeft, LetsGo, end_in, goes_with, is_last_member, is_left, is_left_of, is_loaded}
use Rattle.o2_ends.proofs.Somes.{some_all, some_fewer}

less_of : (a b : ℕ) → nat_lt a b ≡ true → a < b
less_of a b e = grind arith

none_some : (h : Held) → ◌≡◌ {A = Option Held} None (Some h) → ⊥
none_some h e = cc

some_is : (h k : Held) (o : Option Held) → o ≡ Some h → o ≡ Some k → h ≡ k
some_is h k o e f = cc

-- what a process held at an index is the last member of its run that it held
pub record IsLast (m : Maps) (pid i : ℕ) (h : Held) : Type 0 where
  pub member : IsMember m pid i h
  pub last : i + 1 < end_in h → held_at m pid (i + 1) ≡ None

-- What is reserved behind all indexes below one, where the maps were l before.
pub record FreesBelow (l m : Maps) (pid from : ℕ) : Type 0 where
  pub own : (q i : ℕ) → IsIndex l (Private q) i → is_reserved m (Private q) i ≡ is_reserved l (Private q) i
  pub alone : (j : ℕ) → j < from → IsIndex l Shared j → IsAloneLeft l m pid j → is_reserved m Shared j ≡ false
  pub run : AreRuns l → (i : ℕ) (h : Held) → i < from → IsLast l pid i h → (j : ℕ) → IsIndex l Shared j → Covers h j → some_holds m h.first m.processes ≡ false → some_holds m j m.processes ≡ false
      → is_reserved m Shared j ≡ false
  pub fewer : (j : ℕ) → IsIndex l Shared j → is_reserved l Shared j ≡ false → is_reserved m Shared j ≡ false
  pub other : (j : ℕ) → IsIndex l Shared j → (IsAloneLeft l m pid j → ⊥) → (IsRunLeft l m pid j → ⊥) → is_reserved m Shared j ≡ is_reserved l Shared j

-- a stretch ends in its region
region_most : (pid f : ℕ) → end_of (region_of pid f) ≤ 8192
region_most pid f = elim (cases_lt f 4096) [
  | inl low ↦ rw (below f low) (omega arith)
  | inr high ↦ rw (above f high) (omega arith)
]
  where
    below : (i : ℕ) → i < 4096 → nat_lt i 4096 ≡ true
    below i l = grind arith

    above : (i : ℕ) → 4096 ≤ i → nat_lt i 4096 ≡ false
    above i l = grind arith

-- a member of a run with a shared index lies under a shared one
shared_first : (l : Maps) (pid i j : ℕ) (h : Held) → AreRuns l → IsMember l pid i h → Covers h j → 4096 ≤ j → 4096 ≤ h.first
shared_first l pid i j h runs m c high = elim (cases_lt h.first 4096) [
  | inr e ↦ e
  | inl low ↦ (let a = low_end (runs.end pid i h m) low in let b = c.1 in absurd (omega (arith, a, b, high)))
]
  where
    below : (i : ℕ) → i < 4096 → nat_lt i 4096 ≡ true
    below i l = grind arith

    low_end : h.first + h.reserved ≤ end_of (region_of pid h.first) → h.first < 4096 → h.first + h.reserved ≤ 4096
    low_end e low = subst (λ (b : Bool). h.first + h.reserved ≤ end_of (cond b (Private pid) Shared)) (below h.first low) e

-- no member of a run stands behind the last one
nothing_past : (l : Maps) (pid i j : ℕ) (h : Held) → AreRuns l → IsLast l pid i h → Covers h j → i < j → held_at l pid j ≡ None
nothing_past l pid i j h runs last c past = go (held_at l pid j) refl
  where
    within : i + 1 < end_in h
    within = small (h.first + h.reserved) (let a = c.1 in omega (arith, a, past)) (let a = runs.end pid i h last.member in let b = region_most pid h.first in let z = c.1 in omega (arith, a, b, z, past))
      where
        small : (a : ℕ) → i + 1 < a → i + 1 < 8192 → i + 1 < min a 8192
        small a x y = omega (arith, x, y)

    go : (o : Option Held) → held_at l pid j ≡ o → held_at l pid j ≡ None
    go None e = e
    go (Some k) e =
        let one = runs.whole pid i h last.member pid j k e c (inl refl) in
        let run : k.reserved ≢ 0 = (let a = one.1 in let b = last.member.run in λ z. b (sym a ∙ z)) in
        let inside = runs.inside pid i h last.member in
        let first = one.0 in
        let low = inside.0 in
        let f = runs.front pid j k (record { there = e; run = run }) (i + 1) (omega (arith, first, low)) (omega (arith, past)) in
        absurd (none_some f.held (sym (last.last within) ∙ f.there))

module _ (l m n : Maps) (pid from at : ℕ) (h : Held) (before : from ≤ at) (high : at < 8192) (there : held_at m pid at ≡ Some h) (clear : (i : ℕ) → from ≤ i → i < at → held_at m pid i ≡ None)
    (v : LetsGo l m pid (λ i. nat_lt i from)) (w : LetsGo m n pid (λ i. i == at)) (f : FreesBelow l m pid from) (s : FreesAt m n (λ j. goes_with n pid at h j)) where
  is_low : (i from : ℕ) → i < from → nat_lt i from ≡ true
  is_low i from a = grind arith

  not_low : (i from : ℕ) → from ≤ i → nat_lt i from ≡ false
  not_low i from a = grind arith

  and_false : (b : Bool) → (b && false) ≡ false
  and_false true = refl
  and_false false = refl

  -- what the process held from there on it holds still
  same_own : (i : ℕ) → from ≤ i → held_at m pid i ≡ held_at l pid i
  same_own i low = v.held pid i ∙ ap (λ (b : Bool). if b then None else held_at l pid i) (ap (λ (b : Bool). (pid == pid) && b) (not_low i from low) ∙ and_false (pid == pid))

  -- and the step leaves what is held at other indexes
  same_at : (j : ℕ) → j ≢ at → (q : ℕ) → held_at n q j ≡ held_at m q j
  same_at j apart q = w.held q j ∙ ap (λ (b : Bool). if b then None else held_at m q j) (ap (λ (b : Bool). (q == pid) && b) (ne_eqb j at apart) ∙ and_false (q == pid))

  some_same : (j : ℕ) → j ≢ at → some_holds n j n.processes ≡ some_holds m j m.processes
  some_same j apart = some_all m n j w.processes (same_at j apart)

  -- nobody comes
  still_none : (j : ℕ) → some_holds m j m.processes ≡ false → some_holds n j n.processes ≡ false
  still_none j none = some_fewer m n j w.processes (λ q. fewer q) none
    where
      gone : (b : Bool) (o : Option Held) → is_some (if b then None else o) ≡ true → is_some o ≡ true
      gone true o e = absurd (false≢true e)
      gone false o e = e

      fewer : (q : ℕ) → is_some (held_at n q j) ≡ true → is_some (held_at m q j) ≡ true
      fewer q e = gone ((q == pid) && (j == at)) (held_at m q j) (sym (ap is_some (w.held q j)) ∙ e)

  index_m : (j : ℕ) → IsIndex l Shared j → IsIndex m Shared j
  index_m j x = index_same m l Shared j (sym v.processes) x

  -- what is free stays so
  stays_free : (j : ℕ) → IsIndex l Shared j → is_reserved m Shared j ≡ false → is_reserved n Shared j ≡ false
  stays_free j x e = s.shared j (index_m j x) ∙ (ap (λ (r : Bool). if goes_with n pid at h j then false else r) e ∙ same (goes_with n pid at h j))
    where
      same : (b : Bool) → (if b then false else false) ≡ false
      same true = refl
      same false = refl

  at_there : held_at l pid at ≡ Some h
  at_there = sym (same_own at before) ∙ there

  index_high : (i : ℕ) → 4096 ≤ i → nat_lt i 4096 ≡ false
  index_high i a = grind arith

  goes : (j : ℕ) → IsIndex l Shared j → goes_with n pid at h j ≡ true → is_reserved n Shared j ≡ false
  goes j x e = s.shared j (index_m j x) ∙ ap (λ (b : Bool). if b then false else is_reserved m Shared j) e

  alone_now : (j : ℕ) → j < at + 1 → IsIndex l Shared j → IsAloneLeft l n pid j → is_reserved n Shared j ≡ false
  alone_now j low x a = elim (cases_lt j from) [
    | inl below ↦ stays_free j x (f.alone j below x (record { hold = a.hold; there = a.there; alone = a.alone; called = a.called; left = sym (some_same j (λ e. absurd (omega (arith, e, below, before)))) ∙ a.left }))
    | inr past ↦ by past (cases_eq j at)
  ]
    where
      by : from ≤ j → (j ≡ at) ⊎ (j ≢ at) → is_reserved n Shared j ≡ false
      by past (inr apart) = absurd (none_some a.hold (sym (sym (same_own j past) ∙ clear j past (omega (arith, low, apart))) ∙ a.there))
      by past (inl same) =
          let is : h ≡ a.hold = some_is h a.hold (held_at l pid j) (ap (held_at l pid) same ∙ at_there) a.there in
          let alone : h.reserved ≡ 0 = ap (λ (k : Held). k.reserved) is ∙ a.alone in
          let called : is_loaded h.cause ≡ false = ap (λ (k : Held). is_loaded k.cause) is ∙ a.called in
          let left : some_holds n at n.processes ≡ false = ap (λ (i : ℕ). some_holds n i n.processes) (sym same) ∙ a.left in
          let high_at : 4096 ≤ at = (let z = x.from in omega (arith, same, z)) in
          goes j x (rw (index_high at high_at, eq-eqb h.reserved 0 alone, eq-eqb j at same, called, left) refl)

  run_now : AreRuns l → (i : ℕ) (k : Held) → i < at + 1 → IsLast l pid i k → (j : ℕ) → IsIndex l Shared j → Covers k j → some_holds n k.first n.processes ≡ false → some_holds n j n.processes ≡ false
      → is_reserved n Shared j ≡ false
  run_now runs i k low last j x c none free = elim (cases_lt i from) [
    | inl below ↦ stays_free j x (f.run runs i k below last j x c (first_before below) (index_before below))
    | inr past ↦ by past (cases_eq i at)
  ]
    where
      inside : Covers k i
      inside = runs.inside pid i k last.member

      first_before : i < from → some_holds m k.first m.processes ≡ false
      first_before below = sym (some_same k.first (λ e. (let a = inside.0 in absurd (omega (arith, e, a, below, before))))) ∙ none

      index_before : i < from → some_holds m j m.processes ≡ false
      index_before below = elim (cases_eq j at) [
        | inr apart ↦ sym (some_same j apart) ∙ free
        | inl same ↦ absurd (none_some h (sym (nothing_past l pid i j k runs last c (omega (arith, same, below, before))) ∙ (ap (held_at l pid) same ∙ at_there)))
      ]

      by : from ≤ i → (i ≡ at) ⊎ (i ≢ at) → is_reserved n Shared j ≡ false
      by past (inr apart) = absurd (none_some k (sym (sym (same_own i past) ∙ clear i past (omega (arith, low, apart))) ∙ last.member.there))
      by past (inl same) = subst (λ (y : Held). Covers y j → some_holds n y.first n.processes ≡ false → IsLast l pid i y → is_reserved n Shared j ≡ false) is here c none last
        where
          is : h ≡ k
          is = some_is h k (held_at l pid i) (ap (held_at l pid) same ∙ at_there) last.member.there

          here : Covers h j → some_holds n h.first n.processes ≡ false → IsLast l pid i h → is_reserved n Shared j ≡ false
          here c none last =
              let own = runs.inside pid i h last.member in
              let first = shared_first l pid i j h runs last.member c x.from in
              let high_at : 4096 ≤ at = (let a = own.0 in omega (arith, same, a, first)) in
              goes j x (rw (index_high at high_at, ne_eqb h.reserved 0 last.member.run, last_test (let a = own.0 in omega (arith, same, a)) last, covers c x.to, none, free) refl)
            where
              le_is : (a b : ℕ) → a ≤ b → nat_le a b ≡ true
              le_is a b x = grind arith

              lt_is : (a b : ℕ) → a < b → nat_lt a b ≡ true
              lt_is a b x = grind arith

              covers : Covers h j → j < 8192 → (nat_le h.first j && nat_lt j (end_in h)) ≡ true
              covers c small = rw (le_is h.first j c.0, lt_is j (end_in h) (below (h.first + h.reserved) c.1 small)) refl
                where
                  below : (a : ℕ) → j < a → j < 8192 → j < min a 8192
                  below a x y = omega (arith, x, y)

              last_test : h.first ≤ at → IsLast l pid i h → is_last_member n pid at h ≡ true
              last_test low last = rw (le_is h.first at low) (next (nat_lt (at + 1) (end_in h)) refl)
                where
                  held_next : held_at n pid (at + 1) ≡ held_at l pid (at + 1)
                  held_next = same_at (at + 1) (λ e. absurd (omega (arith, e))) pid ∙ same_own (at + 1) (omega (arith, before))

                  next : (b : Bool) → nat_lt (at + 1) (end_in h) ≡ b → not (b && is_some (held_at n pid (at + 1))) ≡ true
                  next false e = refl
                  next true e =
                      let z : i + 1 < end_in h = (let a = less_of (at + 1) (end_in h) e in omega (arith, a, same)) in
                      ap (λ (o : Option Held). not (is_some o)) (held_next ∙ (ap (λ (y : ℕ). held_at l pid (y + 1)) (sym same) ∙ last.last z))

  other_now : (j : ℕ) → IsIndex l Shared j → (IsAloneLeft l n pid j → ⊥) → (IsRunLeft l n pid j → ⊥) → is_reserved n Shared j ≡ is_reserved l Shared j
  other_now j x none_alone none_run =
      s.shared j (index_m j x)
      ∙ (ap (λ (b : Bool). if b then false else is_reserved m Shared j) (stays (goes_with n pid at h j) refl)
      ∙ f.other j x
      (λ a. none_alone (record { hold = a.hold; there = a.there; alone = a.alone; called = a.called; left = still_none j a.left }))
      (λ r. none_run (record { index = r.index; hold = r.hold; member = r.member; covers = r.covers; first = still_none r.hold.first r.first; left = still_none j r.left })))
    where
      parts : (a b : Bool) → (a && b) ≡ true → (a ≡ true) × (b ≡ true)
      parts true b e = (refl, e)
      parts false b e = absurd (false≢true e)

      no : (b : Bool) → not b ≡ true → b ≡ false
      no true e = absurd (false≢true e)
      no false e = refl

      number : (a b : ℕ) → (a == b) ≡ true → a ≡ b
      number a b e = grind arith

      le_of : (a b : ℕ) → nat_le a b ≡ true → a ≤ b
      le_of a b e = grind arith

      lt_of : (a b : ℕ) → nat_lt a b ≡ true → a < b
      lt_of a b e = grind arith

      least : (a j : ℕ) → j < min a 8192 → j < a
      least a j e = omega (arith, e)

      by_alone : h.reserved ≡ 0 → ((j == at) && is_left n at h.cause) ≡ true → ⊥
      by_alone alone e =
          let y = parts (j == at) (is_left n at h.cause) e in
          let z = parts (not (is_loaded h.cause)) _ y.1 in
          let same : j ≡ at = number j at y.0 in
          none_alone (record {
            hold = h;
            there = ap (held_at l pid) same ∙ at_there;
            alone = alone;
            called = no (is_loaded h.cause) z.0;
            left = ap (λ (i : ℕ). some_holds n i n.processes) same ∙ no (some_holds n at n.processes) z.1;
          })

      by_run : h.reserved ≢ 0 → (is_last_member n pid at h && is_left_of n h j) ≡ true → ⊥
      by_run run e =
          let y = parts (is_last_member n pid at h) (is_left_of n h j) e in
          let z = parts (nat_le h.first j && nat_lt j (end_in h)) _ y.1 in
          let c = parts (nat_le h.first j) (nat_lt j (end_in h)) z.0 in
          let u = parts (not (some_holds n h.first n.processes)) _ z.1 in
          none_run (record {
            index = at;
            hold = h;
            member = record { there = at_there; run = run };
            covers = (le_of h.first j c.0, least (h.first + h.reserved) j (lt_of j (end_in h) c.1));
            first = no (some_holds n h.first n.processes) u.0;
            left = no (some_holds n j n.processes) u.1;
          })

      stays : (b : Bool) → goes_with n pid at h j ≡ b → goes_with n pid at h j ≡ false
      stays false e = e
      stays true e = absurd (by (h.reserved == 0) refl (parts (not (nat_lt at 4096)) _ e).1)
        where
          by : (c : Bool) → (h.reserved == 0) ≡ c → (if h.reserved == 0 then (j == at) && is_left n at h.cause else is_last_member n pid at h && is_left_of n h j) ≡ true → ⊥
          by true g z = by_alone (number h.reserved 0 g) (sym (ap (λ (b : Bool). if b then (j == at) && is_left n at h.cause else is_last_member n pid at h && is_left_of n h j) g) ∙ z)
          by false g z = by_run (λ q. absurd (false≢true (sym g ∙ eq-eqb h.reserved 0 q))) (sym (ap (λ (b : Bool). if b then (j == at) && is_left n at h.cause else is_last_member n pid at h && is_left_of n h j) g) ∙ z)

  pub frees_more : FreesBelow l n pid (at + 1)
  frees_more = record {
    own = λ q i x. s.own q i (index_same m l (Private q) i (sym v.processes) x) ∙ f.own q i x;
    alone = alone_now;
    run = run_now;
    fewer = λ j x e. stays_free j x (f.fewer j x e);
    other = other_now;
  }

-- Behind all.

-- what a process held in a run has a last member
record HasLast (l : Maps) (pid : ℕ) (h : Held) : Type 0 where
  index : ℕ
  hold : Held
  last : IsLast l pid index hold
  one : AreOfOne h hold

find_last : (l : Maps) → AreRuns l → (pid k i : ℕ) (h : Held) → IsMember l pid i h → 8192 ≤ i + k → HasLast l pid h
find_last l runs pid zero i h m far = absurd (let a = runs.inside pid i h m in let b = runs.end pid i h m in let c = region_most pid h.first in let d = a.1 in omega (arith, b, c, d, far))
find_last l runs pid (suc k) i h m far = go (λ x n. find_last l runs pid k (i + 1) x n (omega (arith, far))) (held_at l pid (i + 1)) refl
  where
    end_of_it : (n : ℕ) → n < end_in h → n < h.first + h.reserved
    end_of_it n e = least (h.first + h.reserved) e
      where
        least : (a : ℕ) → n < min a 8192 → n < a
        least a x = omega (arith, x)

    go : ((x : Held) → IsMember l pid (i + 1) x → HasLast l pid x) → (o : Option Held) → held_at l pid (i + 1) ≡ o → HasLast l pid h
    go rest None e = record { index = i; hold = h; last = record { member = m; last = λ b. e }; one = (refl, refl) }
    go rest (Some x) e = elim (cases_lt (i + 1) (end_in h)) [
      | inr past ↦ record { index = i; hold = h; last = record { member = m; last = λ b. absurd (omega (arith, b, past)) }; one = (refl, refl) }
      | inl within ↦
          (let c = runs.inside pid i h m in
          let low = c.0 in
          let one = runs.whole pid i h m pid (i + 1) x e (omega (arith, low), end_of_it (i + 1) within) (inl refl) in
          let a = one.1 in
          let r = m.run in
          let n : IsMember l pid (i + 1) x = record { there = e; run = λ z. r (sym a ∙ z) } in
          let y = rest x n in
          record { index = y.index; hold = y.hold; last = y.last; one = (y.one.0 ∙ one.0, y.one.1 ∙ one.1) })
    ]

module _ (l m n : Maps) (pid from : ℕ) (clear : (i : ℕ) → from ≤ i → held_at m pid i ≡ None) (v : LetsGo l m pid (λ i. nat_lt i from)) (f : FreesBelow l m pid from) (o : FreesOwn m n pid) where
  high_own : (i : ℕ) → from ≤ i → held_at l pid i ≡ None
  high_own i low = sym (v.held pid i ∙ ap (λ (b : Bool). if b then None else held_at l pid i) (none (pid == pid) (not_low i from low))) ∙ clear i low
    where
      not_low : (i from : ℕ) → from ≤ i → nat_lt i from ≡ false
      not_low i from a = grind arith

      none : (a : Bool) {b : Bool} → b ≡ false → (a && b) ≡ false
      none true e = e
      none false e = refl

  -- what is held is held below
  low_own : (i : ℕ) (h : Held) → held_at l pid i ≡ Some h → i < from
  low_own i h e = elim (cases_lt i from) [
    | inl low ↦ low
    | inr past ↦ absurd (none_some h (sym (high_own i past) ∙ e))
  ]

  same_some : (j : ℕ) → some_holds n j n.processes ≡ some_holds m j m.processes
  same_some j = some_all m n j (ap (λ (x : Maps). x.processes) o.maps) (λ q. ap (λ (x : Maps). held_at x q j) o.maps)

  index_mid : (j : ℕ) → IsIndex l Shared j → IsIndex m Shared j
  index_mid j x = index_same m l Shared j (sym v.processes) x

  alone_m : (j : ℕ) → IsAloneLeft l n pid j → IsAloneLeft l m pid j
  alone_m j a = record { hold = a.hold; there = a.there; alone = a.alone; called = a.called; left = sym (same_some j) ∙ a.left }

  alone_n : (j : ℕ) → IsAloneLeft l m pid j → IsAloneLeft l n pid j
  alone_n j a = record { hold = a.hold; there = a.there; alone = a.alone; called = a.called; left = same_some j ∙ a.left }

  run_n : (j : ℕ) → IsRunLeft l m pid j → IsRunLeft l n pid j
  run_n j r = record { index = r.index; hold = r.hold; member = r.member; covers = r.covers; first = same_some r.hold.first ∙ r.first; left = same_some j ∙ r.left }

  by_run : AreRuns l → (j : ℕ) → IsIndex l Shared j → IsRunLeft l n pid j → is_reserved m Shared j ≡ false
  by_run runs j x r =
      let y = find_last l runs pid 8192 r.index r.hold r.member (omega arith) in
      let a = y.one.0 in
      let b = y.one.1 in
      let c = r.covers.0 in
      let d = r.covers.1 in
      f.run runs y.index y.hold (low_own y.index y.hold y.last.member.there) y.last j x (omega (arith, a, c), omega (arith, a, b, d))
      (ap (λ (i : ℕ). some_holds m i m.processes) a ∙ (sym (same_some r.hold.first) ∙ r.first)) (sym (same_some j) ∙ r.left)

  pub frees_all : FreesAll l n pid
  frees_all = record {
    own = λ q i x. o.own q i (index_same m l (Private q) i (sym v.processes) x) ∙ ap (λ (r : Bool). if q == pid then false else r) (f.own q i x);
    alone = λ j x a. o.shared j (index_mid j x) ∙ f.alone j (low_own j a.hold a.there) x (alone_m j a);
    run = λ runs j x r. o.shared j (index_mid j x) ∙ by_run runs j x r;
    fewer = λ j x e. o.shared j (index_mid j x) ∙ f.fewer j x e;
    other = λ j x a r. o.shared j (index_mid j x) ∙ f.other j x (λ z. a (alone_n j z)) (λ z. r (run_n j z));
  }

-- the next index that is held is let go
pub frees_next : (l m n : Maps) (pid from at : ℕ) → from ≤ at → at < 8192 → IsSome (held_at m pid at) → ((i : ℕ) → from ≤ i → i < at → held_at m pid i ≡ None) → LetsGo l m pid (λ i. nat_lt i from) → LetsGo m n pid (λ i. i == at)
    → FreesBelow l m pid from → ((h : Held) → held_at m pid at ≡ Some h → FreesAt m n (λ j. goes_with n pid at h j)) → FreesBelow l n pid (at + 1)
frees_next l m n pid from at before high some clear v w f s = go (held_at m pid at) refl some
  where
    go : (o : Option Held) → held_at m pid at ≡ o → IsSome o → FreesBelow l n pid (at + 1)
    go None e t = absurd (false≢true t)
    go (Some h) e t = frees_more l m n pid from at h before high e clear v w f (s h e)

-- nothing is held behind all
pub nothing_held : (l m : Maps) (pid : ℕ) → LetsGo l m pid (λ i. true) → (i : ℕ) → held_at m pid i ≡ None
nothing_held l m pid v i = v.held pid i ∙ ap (λ (b : Bool). if b && true then None else held_at l pid i) (eq-eqb pid pid refl)
