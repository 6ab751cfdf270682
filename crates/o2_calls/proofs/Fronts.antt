-- The members of a run that a process holds are a front of its stretch, as many as are counted.
use Rattle.std.proofs.Common.{◌≡◌, ◌≢◌, inl, ℕ, zero, suc, ◌+◌, ◌-◌, ◌<◌, ◌≤◌, ◌==◌, ◌&&◌, nat_le, nat_lt, not, Bool, true, false, cond, [], ◌∷◌, Option, Some, None, is_some, refl, sym, ap, ◌∙◌, subst, arith}
use Rattle.std.specs.Prelude.{filter, slice_index_or}
use Rattle.std.proofs.lemmas.Bool.{cond-true, cond-false}
use Rattle.o2_regions.specs.declared.held.Held.{Held}
use Rattle.o2_regions.specs.declared.held.Region.TheVariants.{Private, Shared}
use Rattle.o2_regions.specs.Maps.{Maps, end_of, held_at, place, region_of}
use Rattle.o2_world.specs.Rulings.{indexes}
use Rattle.o2_stands.specs.Runs.{AreRuns, Covers, IsMember}
use Rattle.o2_segs.specs.Members.{is_later_in, members_in, run_in}
use Rattle.o2_huge.specs.Growth.{IsMemberAt, is_of_run}
use Rattle.o2_huge.specs.Resized.{is_member, is_member_in}
use Rattle.o2_huge.proofs.Stretch.{fronts}
use Rattle.o2_calls.specs.Noted.{counted_there, members_from}

pub different : false ≡ true → ⊥
different e = cc

-- As many indexes as are counted are those of members, and the next one isn't, where there is one.

module _ (m : Maps) (pid first : ℕ) where
  pub from_most : (j c : ℕ) → members_from m pid first j c ≤ c
  from_most j zero = omega arith
  from_most j (suc c) = go (is_member_in m pid first j) (from_most (j + 1) c)
    where
      go : (b : Bool) → members_from m pid first (j + 1) c ≤ c → cond b (suc (members_from m pid first (j + 1) c)) 0 ≤ suc c
      go true less = omega (arith, less)
      go false less = omega arith

  pub from_all : (j c x : ℕ) → j ≤ x → x < j + members_from m pid first j c → is_member_in m pid first x ≡ true
  from_all j zero x low high = absurd (omega (arith, low, high))
  from_all j (suc c) x low high = go (is_member_in m pid first j) refl (from_all (j + 1) c x) high
    where
      go : (b : Bool) → is_member_in m pid first j ≡ b
          → (j + 1 ≤ x → x < j + 1 + members_from m pid first (j + 1) c → is_member_in m pid first x ≡ true)
          → x < j + cond b (suc (members_from m pid first (j + 1) c)) 0 → is_member_in m pid first x ≡ true
      go false is rest less = absurd (omega (arith, low, less))
      go true is rest less = here (j == x) refl
        where
          same : (a b : ℕ) → (a == b) ≡ true → a ≡ b
          same a b e = grind arith

          other : (a b : ℕ) → (a == b) ≡ false → a ≡ b → ⊥
          other a b e f = grind arith

          here : (b : Bool) → (j == x) ≡ b → is_member_in m pid first x ≡ true
          here true e = subst (λ (y : ℕ). is_member_in m pid first y ≡ true) (same j x e) is
          here false e = let differs = other j x e in rest (omega (arith, low, differs)) (omega (arith, less))

  pub from_last : (j c : ℕ) → members_from m pid first j c < c → is_member_in m pid first (j + members_from m pid first j c) ≡ false
  from_last j zero less = absurd (omega (arith, less))
  from_last j (suc c) less = go (is_member_in m pid first j) refl (from_last (j + 1) c) less
    where
      go : (b : Bool) → is_member_in m pid first j ≡ b
          → (members_from m pid first (j + 1) c < c → is_member_in m pid first (j + 1 + members_from m pid first (j + 1) c) ≡ false)
          → cond b (suc (members_from m pid first (j + 1) c)) 0 < suc c → is_member_in m pid first (j + cond b (suc (members_from m pid first (j + 1) c)) 0) ≡ false
      go false is rest l = let none : j ≡ j + 0 = omega arith in subst (λ (y : ℕ). is_member_in m pid first y ≡ false) none is
      go true is rest l =
          let next : j + 1 + members_from m pid first (j + 1) c ≡ j + suc (members_from m pid first (j + 1) c) = omega arith in
          subst (λ (y : ℕ). is_member_in m pid first y ≡ false) next (rest (omega (arith, l)))

-- What is of a run.

pub record IsOf (first : ℕ) (h : Held) : Type 0 where
  pub run : h.reserved ≢ 0
  pub begins : h.first ≡ first

pub of_run : (first : ℕ) (h : Held) → is_of_run first h ≡ true → IsOf first h
of_run first h is = go (h.reserved == 0) refl (h.first == first) refl is
  where
    some : (a : ℕ) → (a == 0) ≡ false → a ≢ 0
    some a e f = grind arith

    same : (a b : ℕ) → (a == b) ≡ true → a ≡ b
    same a b e = grind arith

    go : (a : Bool) → (h.reserved == 0) ≡ a → (b : Bool) → (h.first == first) ≡ b → (not a && b) ≡ true → IsOf first h
    go true x b y e = absurd (different e)
    go false x false y e = absurd (different e)
    go false x true y e = record { run = some h.reserved x; begins = same h.first first y }

pub is_of : (first : ℕ) (h : Held) → h.reserved ≢ 0 → h.first ≡ first → is_of_run first h ≡ true
is_of first h some same = ap (λ (b : Bool). not b && (h.first == first)) (zero_not h.reserved some) ∙ equal h.first first same
  where
    zero_not : (a : ℕ) → a ≢ 0 → (a == 0) ≡ false
    zero_not a e = grind arith

    equal : (a b : ℕ) → a ≡ b → (a == b) ≡ true
    equal a b e = grind arith

pub member_there : (first : ℕ) (o : Option Held) → is_member first o ≡ true → (h : Held) × ((o ≡ Some h) × (is_of_run first h ≡ true))
member_there first None is = absurd (different is)
member_there first (Some h) is = (h, (refl, is))

-- A run of which a process holds the first one.
module _ (m : Maps) (runs : AreRuns m) (pid first : ℕ) (h : Held) (there : held_at m pid first ≡ Some h) (of : is_of_run first h ≡ true) where
  abbrev end : ℕ
  end = end_of (region_of pid first)

  abbrev pub number : ℕ
  number = members_from m pid first first (end - first)

  is : IsOf first h
  is = of_run first h of

  one : IsMember m pid first h
  one = record { there = there; run = is.run }

  ends : first + h.reserved ≤ end
  ends =
      subst (λ (x : ℕ). x + h.reserved ≤ end_of (region_of pid x)) is.begins (runs.end pid first h one)

  -- a member is in the stretch
  inside : (j : ℕ) → is_member_in m pid first j ≡ true → (first ≤ j) × (j < first + h.reserved)
  inside j member =
      let t = member_there first (held_at m pid j) member in
      let k : Held = t.0 in
      let q = of_run first k t.1.1 in
      let x : IsMember m pid j k = record { there = t.1.0; run = q.run } in
      let c = runs.inside pid j k x in
      let low : first ≤ j = subst (λ (y : ℕ). y ≤ j) q.begins c.0 in
      let high : j < first + k.reserved = subst (λ (y : ℕ). j < y + k.reserved) q.begins c.1 in
      let same = runs.whole pid j k x pid first h there (covers k q high low) (inl refl) in
      (low, subst (λ (y : ℕ). j < first + y) (sym same.1) high)
    where
      covers : (k : Held) → IsOf first k → j < first + k.reserved → first ≤ j → Covers k first
      covers k q high low = (subst (λ (y : ℕ). y ≤ first) (sym q.begins) (omega arith), subst (λ (y : ℕ). first < y + k.reserved) (sym q.begins) (omega (arith, high, low)))

  -- what is held in the stretch is a member
  stretch : (j : ℕ) (k : Held) → first ≤ j → j < first + h.reserved → held_at m pid j ≡ Some k → is_of_run first k ≡ true
  stretch j k low high at =
      let same = runs.whole pid first h one pid j k at (subst (λ (y : ℕ). y ≤ j) (sym is.begins) low, subst (λ (y : ℕ). j < y + h.reserved) (sym is.begins) high) (inl refl) in
      is_of first k (λ z. is.run (sym same.1 ∙ z)) (same.0 ∙ is.begins)

  pub few : number ≤ h.reserved
  few = go (nat_le number h.reserved) refl
    where
      le_of : (a b : ℕ) → nat_le a b ≡ true → a ≤ b
      le_of a b e = grind arith

      more_of : (a b : ℕ) → nat_le a b ≡ false → b < a
      more_of a b e = grind arith

      go : (b : Bool) → nat_le number h.reserved ≡ b → number ≤ h.reserved
      go true e = le_of number h.reserved e
      go false e =
          let more = more_of number h.reserved e in
          let x = inside (first + h.reserved) (from_all m pid first first (end - first) (first + h.reserved) (omega arith) (omega (arith, more))) in
          absurd (let y = x.1 in omega (arith, y))

  pub held_below : (j : ℕ) → first ≤ j → j < first + number → is_some (held_at m pid j) ≡ true
  held_below j low high =
      let t = member_there first (held_at m pid j) (from_all m pid first first (end - first) j low high) in
      ap is_some t.1.0

  pub none_above : (j : ℕ) → first + number ≤ j → j < first + h.reserved → held_at m pid j ≡ None
  none_above j low high = go (held_at m pid j) refl
    where
      go : (o : Option Held) → held_at m pid j ≡ o → held_at m pid j ≡ None
      go None e = e
      go (Some k) e =
          let of_j = stretch j k (omega (arith, low)) high e in
          let q = of_run first k of_j in
          let x : IsMember m pid j k = record { there = e; run = q.run } in
          let before = runs.front pid j k x (first + number) (subst (λ (y : ℕ). y ≤ first + number) (sym q.begins) (omega arith)) low in
          let member : is_member_in m pid first (first + number) ≡ true = ap (is_member first) before.there ∙ stretch (first + number) before.held (omega arith) (omega (arith, low, high)) before.there in
          let room = ends in
          let stranger = from_last m pid first first (end - first) (omega (arith, low, high, room)) in
          absurd (different (sym stranger ∙ member))

  pub run_are : run_in m pid h ≡ indexes first number
  run_are =
      ap (λ (f : ℕ). filter (λ (i : ℕ). is_some (held_at m pid i)) (indexes f h.reserved)) is.begins
      ∙ fronts (λ (i : ℕ). is_some (held_at m pid i)) first number h.reserved few held_below (λ j low high. ap is_some (none_above j low high))

  -- each member is held as often as the first one
  pub member_at : (j : ℕ) → first ≤ j → j < first + number → IsMemberAt m pid first j
  member_at j low high =
      let t = member_there first (held_at m pid j) (from_all m pid first first (end - first) j low high) in
      record { held = t.0; there = t.1.0; run = t.1.1 }

  pub as_often : (j : ℕ) (k : Held) → first ≤ j → j < first + number → held_at m pid j ≡ Some k → k.holds ≡ h.holds
  as_often j k low high at =
      let x = stretch j k low (let a = few in omega (arith, high, a)) at in
      let q = of_run first k x in
      let f = runs.front pid j k (record { there = at; run = q.run }) first (subst (λ (y : ℕ). y ≤ first) (sym q.begins) (omega arith)) low in
      let z : Some f.held ≡ Some h = sym f.there ∙ there in
      let y : f.held ≡ h = cc in
      sym f.often ∙ ap (λ (u : Held). u.holds) y

-- What is counted: the members of a run, or one index.

pub counted_are : (m : Maps) (pid i : ℕ) (h : Held) → AreRuns m → held_at m pid i ≡ Some h → is_later_in i h ≡ false
    → members_in m pid i h ≡ indexes i (counted_there m pid i (Some h)).members
counted_are m pid i h runs there first = go (h.reserved == 0) refl (h.first == i) refl first
  where
    nothing : (a : ℕ) → (a == 0) ≡ true → (not (a == 0)) ≡ false
    nothing a e = ap not e

    go : (a : Bool) → (h.reserved == 0) ≡ a → (b : Bool) → (h.first == i) ≡ b → (not a && not b) ≡ false
        → cond (h.reserved == 0) (i ∷ []) (run_in m pid h) ≡ indexes i (cond (is_of_run i h) (members_from m pid i i (end_of (region_of pid i) - i)) 1)
    go true x b y e =
        cond-true (h.reserved == 0) (i ∷ []) (run_in m pid h) x
        ∙ sym (ap (λ (t : Bool). indexes i (cond (not t && (h.first == i)) (members_from m pid i i (end_of (region_of pid i) - i)) 1)) x)
    go false x false y e = absurd (different (sym e))
    go false x true y e =
        let of : is_of_run i h ≡ true = ap (λ (t : Bool). not t && (h.first == i)) x ∙ y in
        cond-false (h.reserved == 0) (i ∷ []) (run_in m pid h) x
        ∙ (run_are m runs pid i h there of
        ∙ sym (ap (λ (t : Bool). indexes i (cond t (members_from m pid i i (end_of (region_of pid i) - i)) 1)) of))

-- The indexes that are counted lie in the table, are held, and are some.

pub held_low : (m : Maps) (pid i : ℕ) (h : Held) → held_at m pid i ≡ Some h → i < 8192
held_low m pid i h e = go (nat_lt i 8192) refl e
  where
    less : (a b : ℕ) → nat_lt a b ≡ true → a < b
    less a b e = grind arith

    go : (b : Bool) → nat_lt i 8192 ≡ b → cond b (slice_index_or m.held (place pid i) None) None ≡ Some h → i < 8192
    go true is at = less i 8192 is
    go false is at = absurd (cc)

pub region_ends : (pid i : ℕ) → (end_of (region_of pid i) ≤ 8192) × (i < 8192 → i < end_of (region_of pid i))
region_ends pid i = go (nat_lt i 4096) refl
  where
    less : (a b : ℕ) → nat_lt a b ≡ true → a < b
    less a b e = grind arith

    go : (b : Bool) → nat_lt i 4096 ≡ b → (end_of (cond b (Private pid) Shared) ≤ 8192) × (i < 8192 → i < end_of (cond b (Private pid) Shared))
    go true is = (omega arith, λ low. less i 4096 is)
    go false is = (omega arith, λ low. low)

pub same_end : (p q i : ℕ) → end_of (region_of p i) ≡ end_of (region_of q i)
same_end p q i = go (nat_lt i 4096)
  where
    go : (b : Bool) → end_of (cond b (Private p) Shared) ≡ end_of (cond b (Private q) Shared)
    go true = refl
    go false = refl

pub counted_inside : (m : Maps) (pid i : ℕ) (h : Held) → held_at m pid i ≡ Some h → i + (counted_there m pid i (Some h)).members ≤ 8192
counted_inside m pid i h there = go (is_of_run i h)
  where
    low : i < 8192
    low = held_low m pid i h there

    go : (b : Bool) → i + cond b (members_from m pid i i (end_of (region_of pid i) - i)) 1 ≤ 8192
    go true =
        let most = from_most m pid i i (end_of (region_of pid i) - i) in
        let ends = region_ends pid i in
        let below = ends.1 low in
        let end = ends.0 in
        omega (arith, most, below, end)
    go false = let l = low in omega (arith, l)

pub counted_some : (m : Maps) (pid i : ℕ) (h : Held) → held_at m pid i ≡ Some h → 0 < (counted_there m pid i (Some h)).members
counted_some m pid i h there = go (is_of_run i h) refl
  where
    first : (c : ℕ) → 0 < c → is_member_in m pid i i ≡ true → 0 < members_from m pid i i c
    first zero some member = absurd (omega (arith, some))
    first (suc c) some member = subst (λ (b : Bool). 0 < cond b (suc (members_from m pid i (i + 1) c)) 0) (sym member) (omega arith)

    go : (b : Bool) → is_of_run i h ≡ b → 0 < cond b (members_from m pid i i (end_of (region_of pid i) - i)) 1
    go true is =
        let below = (region_ends pid i).1 (held_low m pid i h there) in
        first (end_of (region_of pid i) - i) (omega (arith, below)) (ap (is_member i) there ∙ is)
    go false is = omega arith

pub counted_held : (m : Maps) (pid i : ℕ) (h : Held) → AreRuns m → held_at m pid i ≡ Some h → (j : ℕ) → i ≤ j → j < i + (counted_there m pid i (Some h)).members → is_some (held_at m pid j) ≡ true
counted_held m pid i h runs there j low high = go (is_of_run i h) refl high
  where
    go : (b : Bool) → is_of_run i h ≡ b → j < i + cond b (members_from m pid i i (end_of (region_of pid i) - i)) 1 → is_some (held_at m pid j) ≡ true
    go true is less = held_below m runs pid i h there is j low less
    go false is less = let same : i ≡ j = omega (arith, low, less) in ap (λ (y : ℕ). is_some (held_at m pid y)) (sym same) ∙ ap is_some there
