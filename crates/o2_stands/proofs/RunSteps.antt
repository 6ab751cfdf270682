-- A step keeps the form of runs.
use Rattle.std.proofs.Common.{◌≡◌, ◌≢◌, ◌⊎◌, inl, inr, ℕ, zero, suc, ◌+◌, ◌-◌, ◌<◌, ◌≤◌, ◌==◌, ◌&&◌, ◌||◌, nat_le, nat_lt, not, Bool, true, false, cond, List, [], ◌∷◌}
use Rattle.std.proofs.Common.{map, filter, Option, Some, None, is_some, IsSome, length, if◌then◌else◌, ap, sym, ◌∙◌, refl, arith, subst}
use Rattle.std.specs.List.{list_any}
use Rattle.std.proofs.lemmas.Bool.{cases_lt, eq-eqb, false≢true, ne_eqb}
use Rattle.o2_desc.specs.Bits.{has_bit}
use Rattle.o2_isa.specs.declared.cpu.Cpu.{Cpu}
use Rattle.o2_world.specs.Map.{Map, at_key, get, put}
use Rattle.o2_world.specs.World.{World, Setting, Held, Process, Reserve, Segment}
use Rattle.o2_world.specs.Holders.{process_at}
use Rattle.o2_world.specs.Changes.{Change, Drops, Holds, Makes, at_number, fewer, more, marked, resized, with_change, with_changes}
use Rattle.o2_world.specs.Known.{Known, held_at, reserves, same_text, text_name}
use Rattle.o2_world.specs.Rulings.{full_size, held_as_code, held_by_call, indexes, is_in_run, made_segment}
use Rattle.o2_world.specs.SharedRulings.{each_more, shared_segment}
use Rattle.o2_world.specs.Run.{before}
use Rattle.o2_world.specs.Tied.{AreLive, IsTied, has_no_flags}
use Rattle.o2_world.specs.Moves.{AllMoves, AreApart, AreMembers, Each, IsFreeIndex, IsFreeing, IsHeldAlone, IsOfText, IsShared, IsSharing, AreOfRuling, Moves, NoneMoves, OneAliased, OneLocked, OneMade, OneNamed, OneRemade, OneRun, OneSized, OwnMoves, SomeFreed, SomeShared}
use Rattle.o2_world.proofs.FitFrees.{at_each, is_among}
use Rattle.o2_world.proofs.FitShares.{changes_are, held_each, share, shares_of}
use Rattle.o2_world.proofs.MapLemmas.{get-map, if_no}
use Rattle.o2_world.proofs.SegmentMoves.{members_apart}
use Rattle.o2_stands.specs.Runs.{HasFullMembers, HasRunFlags, HasRuns, IsInStretch, IsMemberOf, IsOneFor, is_full, may_be_member}
use Rattle.o2_stands.specs.Stands.{IsTidy, is_stretch, region_at}
use Rattle.o2_stands.proofs.Puts.{held_put, put_at, there_put, with_map}
use Rattle.o2_stands.proofs.Reserved.{and_parts, or_right}
use Rattle.o2_stands.proofs.RunsKept.{AboutOne, AboutRun, AreCounted, IsAbout, IsBefore, IsFrom, IsOutside, IsWas, before_freed, before_given, before_with_one}
use Rattle.o2_stands.proofs.RunsKept.{flags_written, from_of, full_of, full_same, full_written, in_run_as, low_end, member_was, more_by, runs_freed, runs_given}
use Rattle.o2_stands.proofs.RunsKept.{runs_same, runs_with_one, was}
use Rattle.o2_stands.proofs.Worlds.{to_place}

-- A list of changes of what one process holds, each at another index.

not_both : (b : Bool) → (b && false) ≡ false
not_both true = refl
not_both false = refl

apart_among : (i : ℕ) (is : List ℕ) (j : ℕ) → Each (λ (k : ℕ). i ≢ k) is → (j == i) ≡ true → is_among is j ≡ false
apart_among i [] j apart e = refl
apart_among i (k ∷ is) j apart e =
    let same : j ≡ i = equal j i e in
    rw (ne_eqb k j (λ z. apart.0 (sym (z ∙ same)))) (apart_among i is j apart.1 e)
  where
    equal : (a b : ℕ) → (a == b) ≡ true → a ≡ b
    equal a b e = grind arith

turned : (a b : ℕ) → (a == b) ≡ (b == a)
turned a b = grind arith

equal_number : (a b : ℕ) → (a == b) ≡ true → a ≡ b
equal_number a b e = grind arith

-- one hold of each index goes
held_drops : (v : World) (p : ℕ) (is : List ℕ) (x : Process) → process_at v.processes p ≡ Some x → AreApart is → (q j : ℕ)
    → held_at (with_changes v (map (λ (i : ℕ). Drops p i 1) is)).processes q j ≡ (if (q == p) && is_among is j then fewer 1 (held_at v.processes q j) else held_at v.processes q j)
unfolding with_changes
held_drops v p [] x at apart q j = ap (λ (b : Bool). if b then fewer 1 (held_at v.processes q j) else held_at v.processes q j) (sym (not_both (q == p)))
held_drops v p (i ∷ is) x at apart q j =
    held_drops (with_change v (Drops p i 1)) p is (with_map (put_at i (fewer 1)) x) (there_put v.processes p (put_at i (fewer 1)) x at) apart.1 q j
    ∙ go (q == p) refl (j == i) refl (is_among is j) refl
  where
    put : held_at (with_change v (Drops p i 1)).processes q j ≡ (if (q == p) && (j == i) then fewer 1 (held_at v.processes p i) else held_at v.processes q j)
    put = held_put v.processes p q i j (fewer 1) x at

    go : (a : Bool) → (q == p) ≡ a → (b : Bool) → (j == i) ≡ b → (c : Bool) → is_among is j ≡ c
        → (if (q == p) && is_among is j then fewer 1 (held_at (with_change v (Drops p i 1)).processes q j) else held_at (with_change v (Drops p i 1)).processes q j)
        ≡ (if (q == p) && ((i == j) || is_among is j) then fewer 1 (held_at v.processes q j) else held_at v.processes q j)
    go false a b f c g = rw a (put ∙ rw a refl)
    go true a true f c g =
        let same : j ≡ i = equal_number j i f in
        let own : q ≡ p = equal_number q p a in
        rw (a, apart_among i is j apart.0 f, turned i j ∙ f) (put ∙ rw (a, f) (ap (λ (k : ℕ). fewer 1 (held_at v.processes k i)) (sym own) ∙ ap (λ (k : ℕ). fewer 1 (held_at v.processes q k)) (sym same)))
    go true a false f true g =
        let same : held_at (with_change v (Drops p i 1)).processes q j ≡ held_at v.processes q j = put ∙ rw (a, f) refl in
        rw (a, g, turned i j ∙ f) (ap (fewer 1) same)
    go true a false f false g = rw (a, g, turned i j ∙ f) (put ∙ rw (a, f) refl)

-- holds of what another process holds come
abbrev with_listed : List (ℕ × Held) → ℕ → Option Held → Option Held
with_listed [] j o = o
with_listed (s ∷ ss) j o = if s.0 == j then more (share s.1) o else with_listed ss j o

abbrev firsts : List (ℕ × Held) → List ℕ
firsts [] = []
firsts (s ∷ ss) = s.0 ∷ firsts ss

not_listed : (i : ℕ) (ss : List (ℕ × Held)) (j : ℕ) (o : Option Held) → Each (λ (k : ℕ). i ≢ k) (firsts ss) → (j == i) ≡ true → with_listed ss j o ≡ o
not_listed i [] j o apart e = refl
not_listed i (s ∷ ss) j o apart e =
    let same : j ≡ i = equal_number j i e in
    rw (ne_eqb s.0 j (λ z. apart.0 (sym (z ∙ same)))) (not_listed i ss j o apart.1 e)

held_shares : (v : World) (to : ℕ) (ss : List (ℕ × Held)) (x : Process) → process_at v.processes to ≡ Some x → AreApart (firsts ss) → (q j : ℕ)
    → held_at (with_changes v (shares_of to ss)).processes q j ≡ (if q == to then with_listed ss j (held_at v.processes q j) else held_at v.processes q j)
unfolding with_changes
held_shares v to [] x at apart q j = same (q == to)
  where
    same : (b : Bool) → held_at v.processes q j ≡ (if b then held_at v.processes q j else held_at v.processes q j)
    same true = refl
    same false = refl
held_shares v to (s ∷ ss) x at apart q j =
    held_shares (with_change v (Holds to s.0 (share s.1))) to ss (with_map (put_at s.0 (more (share s.1))) x) (there_put v.processes to (put_at s.0 (more (share s.1))) x at) apart.1 q j
    ∙ go (q == to) refl (j == s.0) refl
  where
    put : held_at (with_change v (Holds to s.0 (share s.1))).processes q j ≡ (if (q == to) && (j == s.0) then more (share s.1) (held_at v.processes to s.0) else held_at v.processes q j)
    put = held_put v.processes to q s.0 j (more (share s.1)) x at

    go : (a : Bool) → (q == to) ≡ a → (b : Bool) → (j == s.0) ≡ b
        → (if q == to then with_listed ss j (held_at (with_change v (Holds to s.0 (share s.1))).processes q j) else held_at (with_change v (Holds to s.0 (share s.1))).processes q j)
        ≡ (if q == to then (if s.0 == j then more (share s.1) (held_at v.processes q j) else with_listed ss j (held_at v.processes q j)) else held_at v.processes q j)
    go false a b f = rw a (put ∙ rw a refl)
    go true a true f =
        let same : j ≡ s.0 = equal_number j s.0 f in
        let own : q ≡ to = equal_number q to a in
        rw (a, turned s.0 j ∙ f)
        (not_listed s.0 ss j (held_at (with_change v (Holds to s.0 (share s.1))).processes q j) apart.0 f
        ∙ (put ∙ rw (a, f) (ap (λ (k : ℕ). more (share s.1) (held_at v.processes k s.0)) (sym own) ∙ ap (λ (k : ℕ). more (share s.1) (held_at v.processes q k)) (sym same))))
    go true a false f =
        let same : held_at (with_change v (Holds to s.0 (share s.1))).processes q j ≡ held_at v.processes q j = put ∙ rw (a, f) refl in
        rw (a, turned s.0 j ∙ f) (ap (with_listed ss j) same)

listed_is : (k : Known) (from : ℕ) (is : List ℕ) (shared : Each (IsShared k from) is) (j : ℕ) (o : Option Held) → with_listed (held_each k from is shared) j o ≡ (if is_among is j then more_by (k.held from j) o else o)
listed_is k from [] shared j o = refl
listed_is k from (i ∷ is) shared j o = go (i == j) refl (listed_is k from is shared.1 j o)
  where
    go : (b : Bool) → (i == j) ≡ b → with_listed (held_each k from is shared.1) j o
        ≡ (if is_among is j then more_by (k.held from j) o else o)
        → (if i == j then more (share shared.0.held) o else with_listed (held_each k from is shared.1) j o)
        ≡ (if (i == j) || is_among is j then more_by (k.held from j) o else o)
    go true e rest = rw e (sym (ap (λ (x : Option Held). more_by x o) (ap (k.held from) (sym (equal_number i j e)) ∙ shared.0.there)))
    go false e rest = rw e rest

firsts_are : (k : Known) (from : ℕ) (is : List ℕ) (shared : Each (IsShared k from) is) → firsts (held_each k from is shared) ≡ is
firsts_are k from [] shared = refl
firsts_are k from (i ∷ is) shared = ap (λ (js : List ℕ). i ∷ js) (firsts_are k from is shared.1)

-- names stay
drops_names : (n : ℕ) (u : World) (is : List ℕ) → (with_changes u (map (λ (i : ℕ). Drops n i 1) is)).names ≡ u.names
unfolding with_changes
drops_names n u [] = refl
drops_names n u (i ∷ is) = drops_names n (with_change u (Drops n i 1)) is

shares_names : (to : ℕ) (u : World) (ss : List (ℕ × Held)) → (with_changes u (shares_of to ss)).names ≡ u.names
unfolding with_changes
shares_names to u [] = refl
shares_names to u (x ∷ ss) = shares_names to (with_change u (Holds to x.0 (share x.1))) ss

-- The indexes of a run that a process holds.

pub among_kept : (f : ℕ → Bool) (a n j : ℕ) → is_among (filter f (indexes a n)) j ≡ (f j && (nat_le a j && nat_lt j (a + n)))
among_kept f a zero j = sym (ap (λ (t : Bool). f j && t) (never a j) ∙ not_both (f j))
  where
    never : (a j : ℕ) → (nat_le a j && nat_lt j (a + 0)) ≡ false
    never a j = grind arith

    none : (b : Bool) (c : ℕ) → false ≡ (f j && (nat_le a j && nat_lt j (a + zero)))
    none b c = sym (ap (λ (t : Bool). f j && t) (never a j) ∙ not_both (f j))
among_kept f a (suc n) j = go (among_kept f (a + 1) n j) (f a) refl (a == j) refl
  where
    here : (a j n : ℕ) → (a == j) ≡ true → (nat_le a j && nat_lt j (a + suc n)) ≡ true
    here a j n e = grind arith

    later : (a j n : ℕ) → (a == j) ≡ false → (nat_le (a + 1) j && nat_lt j (a + 1 + n)) ≡ (nat_le a j && nat_lt j (a + suc n))
    later a j n e = grind arith

    passed : (a j n : ℕ) → (a == j) ≡ true → (nat_le (a + 1) j && nat_lt j (a + 1 + n)) ≡ false
    passed a j n e = grind arith

    go : is_among (filter f (indexes (a + 1) n)) j ≡ (f j && (nat_le (a + 1) j && nat_lt j (a + 1 + n))) → (b : Bool) → f a ≡ b → (c : Bool) → (a == j) ≡ c
        → is_among (cond (f a) (a ∷ filter f (indexes (a + 1) n)) (filter f (indexes (a + 1) n))) j ≡ (f j && (nat_le a j && nat_lt j (a + suc n)))
    go ih true e true g = rw (e, g, sym (ap f (equal_number a j g)) ∙ e, here a j n g) refl
    go ih true e false g = rw (e, g) (ih ∙ ap (λ (t : Bool). f j && t) (later a j n g))
    go ih false e true g = rw e (ih ∙ (ap (λ (t : Bool). f j && t) (passed a j n g) ∙ (not_both (f j) ∙ sym (ap (λ (t : Bool). t && (nat_le a j && nat_lt j (a + suc n))) (sym (ap f (equal_number a j g)) ∙ e)))))
    go ih false e false g = rw e (ih ∙ ap (λ (t : Bool). f j && t) (later a j n g))

in_stretch_of : (h : Held) (j : ℕ) → (nat_le h.first j && nat_lt j (h.first + h.reserved)) ≡ true → IsInStretch h j
in_stretch_of h j e = (let x = and_parts (nat_le h.first j) (nat_lt j (h.first + h.reserved)) e in (le h.first j x.0, lt j (h.first + h.reserved) x.1))
  where
    le : (a b : ℕ) → nat_le a b ≡ true → a ≤ b
    le a b e = grind arith

    lt : (a b : ℕ) → nat_lt a b ≡ true → a < b
    lt a b e = grind arith

stretch_test : (h : Held) (j : ℕ) → IsInStretch h j → (nat_le h.first j && nat_lt j (h.first + h.reserved)) ≡ true
stretch_test h j s = test h.first j (h.first + h.reserved) s.0 s.1
  where
    test : (a j b : ℕ) → a ≤ j → j < b → (nat_le a j && nat_lt j b) ≡ true
    test a j b x y = grind arith

-- all that a process holds under one index
about_members : (k : Known) (n : ℕ) (is : List ℕ) → AreMembers k n is → IsAbout k.held n (is_among is)
about_members k n is m = go (m.held.reserved == 0) refl
  where
    go : (b : Bool) → (m.held.reserved == 0) ≡ b → IsAbout k.held n (is_among is)
    go true e =
        let one : is ≡ m.index ∷ [] = m.are ∙ rw e refl in
        subst (λ (js : List ℕ). IsAbout k.held n (is_among js)) (sym one)
        (AboutOne m.index m.held m.there (ap not e) (λ j f. same m.index j f) (rw (eq-eqb m.index m.index refl) refl))
      where
        same : (i j : ℕ) → ((i == j) || false) ≡ true → j ≡ i
        same i j f = by (i == j) refl f
          where
            by : (b : Bool) → (i == j) ≡ b → (b || false) ≡ true → j ≡ i
            by true e f = sym (equal_number i j e)
            by false e f = absurd (false≢true f)
    go false e =
        let run : is ≡ filter (λ (i : ℕ). is_some (k.held n i)) (indexes m.held.first m.held.reserved) = m.are ∙ rw e refl in
        subst (λ (js : List ℕ). IsAbout k.held n (is_among js)) (sym run)
        (AboutRun m.index m.held (record { there = m.there; run = ap not e })
        (λ j f. let x = and_parts (is_some (k.held n j)) _ (sym (among_kept (λ (i : ℕ). is_some (k.held n i)) m.held.first m.held.reserved j) ∙ f) in (in_stretch_of m.held j x.1, x.0))
        (λ j s some. among_kept (λ (i : ℕ). is_some (k.held n i)) m.held.first m.held.reserved j ∙ rw (some, stretch_test m.held j s) refl))

-- A free index lies in no stretch.

pub stretch_reserves : (g first count i : ℕ) (rs : List Reserve) → list_any (is_stretch g first count) rs ≡ true → first ≤ i → i < first + count → list_any (reserves g i) rs ≡ true
stretch_reserves g first count i [] e low high = absurd (false≢true e)
stretch_reserves g first count i (r ∷ rs) e low high = go (λ f. stretch_reserves g first count i rs f low high) (is_stretch g first count r) refl e
  where
    test : (a j b : ℕ) → a ≤ j → j < b → (nat_le a j && nat_lt j b) ≡ true
    test a j b x y = grind arith

    or_left : (a b : Bool) → a ≡ true → (a || b) ≡ true
    or_left true b e = refl
    or_left false b e = absurd (false≢true e)

    go : (list_any (is_stretch g first count) rs ≡ true → list_any (reserves g i) rs ≡ true) → (b : Bool) → is_stretch g first count r ≡ b → (b || list_any (is_stretch g first count) rs) ≡ true → (reserves g i r || list_any (reserves g i) rs) ≡ true
    go rest true is f =
        let x = and_parts (not r.stays) _ is in
        let y = and_parts (r.region == g) _ x.1 in
        let z = and_parts (r.first == first) (r.count == count) y.1 in
        let a : r.first ≡ first = equal_number r.first first z.0 in
        let b : r.count ≡ count = equal_number r.count count z.1 in
        or_left (reserves g i r) (list_any (reserves g i) rs) (rw (y.0, a, b, test first i (first + count) low high) refl)
    go rest false is f = or_right (reserves g i r) (list_any (reserves g i) rs) (rest f)

pub low_region : (n i : ℕ) → i < 4096 → region_at n i ≡ n
low_region n i low = rw (below i low) refl
  where
    below : (i : ℕ) → i < 4096 → nat_lt i 4096 ≡ true
    below i l = grind arith

pub high_region : (n i : ℕ) → 4096 ≤ i → region_at n i ≡ 0
high_region n i high = rw (above i high) refl
  where
    above : (i : ℕ) → 4096 ≤ i → nat_lt i 4096 ≡ false
    above i h = grind arith

-- the region of a member is that of the indexes of its stretch
pub member_region : (held : ℕ → ℕ → Option Held) → HasRuns held → (q j : ℕ) (h : Held) → IsMemberOf held q j h → (p i : ℕ) → IsInStretch h i → IsOneFor q p i → region_at q j ≡ region_at p i
member_region held runs q j h m p i s one = elim (cases_lt i 4096) [
  | inl low ↦ (let e = low_end h.first i (h.first + h.reserved) s.0 low (runs.stretches.end q j h m) in
      let z = (runs.stretches.inside q j h m).1 in
      low_region q j (omega (arith, e, z)) ∙ (own low one ∙ sym (low_region p i low)))
  | inr high ↦ high_region q j (upper high (cases_lt j 4096)) ∙ sym (high_region p i high)
]
  where
    own : i < 4096 → (p ≡ q) ⊎ (4096 ≤ i) → q ≡ p
    own low (inl e) = sym e
    own low (inr e) = absurd (omega (arith, low, e))

    upper : 4096 ≤ i → (j < 4096) ⊎ (4096 ≤ j) → 4096 ≤ j
    upper high (inr e) = e
    upper high (inl e) =
        (let t = runs.stretches.inside q j h m in
        let z = low_end h.first j (h.first + h.reserved) t.0 e (runs.stretches.end q j h m) in
        let u = s.1 in
        absurd (omega (arith, z, u, high)))

-- The name of a text has no flags.
text_flags : (names : Map Segment) (ts : List (List ℕ × ℕ)) (t : List ℕ) (q : ℕ) → AreLive names ts → text_name ts t ≡ Some q → has_no_flags (get names q) ≡ true
text_flags names [] t q live e = absurd (none_is q e)
  where
    none_is : (q : ℕ) → ◌≡◌ {A = Option ℕ} None (Some q) → ⊥
    none_is q e = cc
text_flags names (x ∷ ts) t q live e = go (λ f. text_flags names ts t q live.1 f) (same_text x.0 t) e
  where
    go : (text_name ts t ≡ Some q → has_no_flags (get names q) ≡ true) → (b : Bool) → (if b then Some x.1 else text_name ts t) ≡ Some q → has_no_flags (get names q) ≡ true
    go rest true f = (let z : x.1 ≡ q = cc in subst (λ (y : ℕ). has_no_flags (get names y) ≡ true) z live.0)
    go rest false f = rest f

-- no member under a shared index is the segment of a text
no_member : (i : ℕ) (o : Option Segment) → 4096 ≤ i → has_no_flags o ≡ true → may_be_member i o ≡ true → ⊥
no_member i None high none may = false≢true none
no_member i (Some s) high none may =
    let x = and_parts (not (has_bit s.flags 2)) _ may in
    false≢true (sym (rw (not_low i high, none) refl) ∙ x.1)
  where
    not_low : (i : ℕ) → 4096 ≤ i → nat_lt i 4096 ≡ false
    not_low i h = grind arith

pub record AreBehind (u : World) : Type 0 where
  pub runs : HasRuns (held_at u.processes)
  pub flags : HasRunFlags (held_at u.processes) u.names
  pub full : HasFullMembers (held_at u.processes) u.names

-- What a call changes, over a world `v` whose processes hold what those of the tidy world `w` hold.
module _ (s : Setting) (w v : World) (n : ℕ) (p : Process) (same : (q j : ℕ) → held_at v.processes q j ≡ held_at w.processes q j)
    (flagged : HasRunFlags (held_at w.processes) v.names) (fulled : HasFullMembers (held_at w.processes) v.names) (fresh : (q j : ℕ) (h : Held) → held_at w.processes q j ≡ Some h → h.name ≢ w.next_name) (next : v.next_name ≡ w.next_name)
    (texts : AreLive w.names w.texts) (exists : (m : ℕ) → (m ≡ n) ⊎ ((before s w n p).known.lives m ≡ true) → (x : Process) × (process_at v.processes m ≡ Some x))
    (unreserved : (i : ℕ) → IsFreeIndex (before s w n p).known n i → list_any (reserves (region_at n i) i) w.reserved ≡ false)
    (unheld : (i : ℕ) → IsFreeIndex (before s w n p).known n i → held_at w.processes n i ≡ None) (tidy : IsTidy w.processes w.names w.reserved) where
  abbrev held : ℕ → ℕ → Option Held
  held = held_at w.processes

  -- a segment alone at a free index
  outside : (i : ℕ) (h : Held) → IsFreeIndex (before s w n p).known n i → is_in_run h ≡ false → ((q j : ℕ) (k : Held) → IsMemberOf held q j k → h.name ≡ k.name → ⊥) → IsOutside held n i h
  outside i h free alone new = record {
    alone = alone;
    far = λ q j k m stretch one. false≢true (sym (unreserved i free)
        ∙ (ap (λ (g : ℕ). list_any (reserves g i) w.reserved) (sym (member_region held tidy.runs q j k m n i stretch one))
        ∙ stretch_reserves (region_at q j) k.first k.reserved i w.reserved (tidy.run q j k m.there m.run) stretch.0 stretch.1));
    new = new;
  }

  module _ (i : ℕ) (h : Held) (free : IsFreeIndex (before s w n p).known n i) (alone : is_in_run h ≡ false) (new : (q j : ℕ) (k : Held) → IsMemberOf held q j k → h.name ≡ k.name → ⊥) where
    abbrev now : ℕ → ℕ → Option Held
    now = held_at (at_number n (with_map (put_at i (more h))) v.processes)

    at : process_at v.processes n ≡ Some (exists n (inl refl)).0
    at = (exists n (inl refl)).1

    now_is : (q j : ℕ) → now q j ≡ (if (q == n) && (j == i) then more h (held_at v.processes n i) else held_at v.processes q j)
    now_is q j = held_put v.processes n q i j (more h) (exists n (inl refl)).0 at

    now_here : now n i ≡ Some h
    now_here = now_is n i ∙ (rw (eq-eqb n n refl, eq-eqb i i refl) (ap (more h) (same n i ∙ unheld i free)))

    now_else : (q j : ℕ) → (now q j ≡ held q j) ⊎ ((q ≡ n) × (j ≡ i))
    now_else q j = go ((q == n) && (j == i)) refl
      where
        go : (b : Bool) → ((q == n) && (j == i)) ≡ b → (now q j ≡ held q j) ⊎ ((q ≡ n) × (j ≡ i))
        go true e = (let x = and_parts (q == n) (j == i) e in inr (equal_number q n x.0, equal_number j i x.1))
        go false e = inl (now_is q j ∙ (rw e (same q j)))

    pub new_runs : HasRuns now
    new_runs = runs_with_one held now n i h (unheld i free) now_here now_else (outside i h free alone new) tidy.runs

    -- members are those that were
    pub new_member : (q j : ℕ) (k : Held) → IsMemberOf now q j k → IsMemberOf held q j k
    new_member = member_was held now n i h (unheld i free) now_here now_else (outside i h free alone new) tidy.runs

    pub new_before : (q j : ℕ) (k : Held) → IsMemberOf now q j k → IsInStretch k (j + 1) → IsSome (now q (j + 1)) → IsBefore held q j k
    new_before = before_with_one held now n i h (unheld i free) now_here now_else (outside i h free alone new) tidy.runs

  -- the next name is no member's
  not_next : (q j : ℕ) (k : Held) → IsMemberOf held q j k → w.next_name ≡ k.name → ⊥
  not_next q j k m e = fresh q j k m.there (sym e)

  made_flags : (seg : Segment) (i : ℕ) (free : IsFreeIndex (before s w n p).known n i)
      → HasRunFlags (held_at (at_number n (with_map (put_at i (more (held_by_call w.next_name)))) v.processes)) (put v.next_name (Some seg) v.names)
  made_flags seg i free = record { each = λ q j k m. one q j k (new_member i (held_by_call w.next_name) free refl not_next q j k m) }
    where
      one : (q j : ℕ) (k : Held) → IsMemberOf held q j k → may_be_member j (get (put v.next_name (Some seg) v.names) k.name) ≡ true
      one q j k m =
          ap (may_be_member j) (if_no (v.next_name == k.name) (Some seg) (get v.names k.name) (ne_eqb v.next_name k.name (λ e. fresh q j k m.there (sym e ∙ next))))
          ∙ flagged.each q j k m

  made_full : (seg : Segment) (i : ℕ) (free : IsFreeIndex (before s w n p).known n i)
      → HasFullMembers (held_at (at_number n (with_map (put_at i (more (held_by_call w.next_name)))) v.processes)) (put v.next_name (Some seg) v.names)
  made_full seg i free = record { each = λ q j k m t some. one q j k (new_before i (held_by_call w.next_name) free refl not_next q j k m t some) }
    where
      one : (q j : ℕ) (k : Held) → IsBefore held q j k → is_full (get (put v.next_name (Some seg) v.names) k.name) ≡ true
      one q j k b =
          ap is_full (if_no (v.next_name == k.name) (Some seg) (get v.names k.name) (ne_eqb v.next_name k.name (λ e. fresh b.process j b.old b.member.there (sym b.name ∙ (sym e ∙ next)))))
          ∙ full_of held v.names fulled q j k b

  -- members go on to be full where a segment changes that is none, or that keeps its size
  segment_full : (name : ℕ) (f : Segment → Segment) → ((q j : ℕ) (k : Held) → IsMemberOf held q j k → k.name ≡ name → (x : Segment) → length (f x).bytes ≡ length x.bytes)
      → HasFullMembers (held_at v.processes) (at_key name f v.names)
  segment_full name f sizes = record {
    each = λ q j k m t some. one q j k (record { there = sym (same q j) ∙ m.there; run = m.run }) t (subst (λ (o : Option Held). IsSome o) (same q (j + 1)) some);
  }
    where
      one : (q j : ℕ) (k : Held) → IsMemberOf held q j k → IsInStretch k (j + 1) → IsSome (held q (j + 1)) → is_full (get (at_key name f v.names) k.name) ≡ true
      one q j k m t some =
          full_written (λ (x : Segment). if k.name == name then f x else x) (get v.names k.name)
          (get-map (λ (q : ℕ) (x : Segment). if q == name then f x else x) v.names k.name) (λ x there. by (k.name == name) refl x) (fulled.each q j k m t some)
        where
          by : (b : Bool) → (k.name == name) ≡ b → (x : Segment) → length (if b then f x else x).bytes ≡ length x.bytes
          by true e x = sizes q j k m (equal_number k.name name e) x
          by false e x = refl

  -- and the same of names behind other changes
  flags_in : (names : Map Segment) (name : ℕ) (f : Segment → Segment) → ((x : Segment) → (f x).flags ≡ x.flags) → HasRunFlags (held_at v.processes) names
      → HasRunFlags (held_at v.processes) (at_key name f names)
  flags_in names name f flags has = record { each = λ q j k m. one q j k m }
    where
      one : (q j : ℕ) (k : Held) → IsMemberOf (held_at v.processes) q j k → may_be_member j (get (at_key name f names) k.name) ≡ true
      one q j k m =
          flags_written (λ (x : Segment). if k.name == name then f x else x) j (get names k.name)
          (get-map (λ (q : ℕ) (x : Segment). if q == name then f x else x) names k.name) (λ x. by (k.name == name) x) (has.each q j k m)
        where
          by : (b : Bool) (x : Segment) → (if b then f x else x).flags ≡ x.flags
          by true x = flags x
          by false x = refl

  full_in : (names : Map Segment) (name : ℕ) (f : Segment → Segment) → ((q j : ℕ) (k : Held) → IsMemberOf held q j k → k.name ≡ name → (x : Segment) → length (f x).bytes ≡ length x.bytes)
      → HasFullMembers (held_at v.processes) names → HasFullMembers (held_at v.processes) (at_key name f names)
  full_in names name f sizes has = record { each = λ q j k m t some. one q j k m t some }
    where
      one : (q j : ℕ) (k : Held) → IsMemberOf (held_at v.processes) q j k → IsInStretch k (j + 1) → IsSome (held_at v.processes q (j + 1)) → is_full (get (at_key name f names) k.name) ≡ true
      one q j k m t some =
          full_written (λ (x : Segment). if k.name == name then f x else x) (get names k.name)
          (get-map (λ (q : ℕ) (x : Segment). if q == name then f x else x) names k.name) (λ x there. by (k.name == name) refl x) (has.each q j k m t some)
        where
          by : (b : Bool) → (k.name == name) ≡ b → (x : Segment) → length (if b then f x else x).bytes ≡ length x.bytes
          by true e x = sizes q j k (record { there = sym (same q j) ∙ m.there; run = m.run }) (equal_number k.name name e) x
          by false e x = refl

  -- a segment that is held alone is no member
  alone_is_none : (name : ℕ) → IsHeldAlone (before s w n p).known n name → (q j : ℕ) (k : Held) → IsMemberOf held q j k → k.name ≡ name → ⊥
  alone_is_none name a q j k m e =
      let one = (tidy.runs.stretches.only q j k m n a.index a.held a.there (a.named ∙ sym e)).1 in
      false≢true (sym a.alone ∙ (ap (λ (c : ℕ). not (c == 0)) one.1 ∙ m.run))

  segment_flags : (name : ℕ) (f : Segment → Segment) → ((x : Segment) → (f x).flags ≡ x.flags) → HasRunFlags (held_at v.processes) (at_key name f v.names)
  segment_flags name f flags = record { each = λ q j k m. one q j k (record { there = sym (same q j) ∙ m.there; run = m.run }) }
    where
      one : (q j : ℕ) (k : Held) → IsMemberOf held q j k → may_be_member j (get (at_key name f v.names) k.name) ≡ true
      one q j k m =
          flags_written (λ (x : Segment). if k.name == name then f x else x) j (get v.names k.name)
          (get-map (λ (q : ℕ) (x : Segment). if q == name then f x else x) v.names k.name) (λ x. by (k.name == name) x) (flagged.each q j k m)
        where
          by : (b : Bool) (x : Segment) → (if b then f x else x).flags ≡ x.flags
          by true x = flags x
          by false x = refl

  unchanged : AreBehind v
  unchanged = record {
    runs = runs_same held (held_at v.processes) same tidy.runs;
    flags = record { each = λ q j k m. flagged.each q j k (record { there = sym (same q j) ∙ m.there; run = m.run }) };
    full = full_same held (held_at v.processes) v.names same fulled;
  }

  made : (seg : Segment) (i : ℕ) → IsFreeIndex (before s w n p).known n i → AreBehind (with_change (with_change v (Makes seg)) (Holds n i (held_by_call w.next_name)))
  made seg i free = record { runs = new_runs i (held_by_call w.next_name) free refl not_next; flags = made_flags seg i free; full = made_full seg i free }

  aliased : (index i : ℕ) (h : Held) → held n index ≡ Some h → is_in_run h ≡ false → IsFreeIndex (before s w n p).known n i → AreBehind (with_change v (Holds n i (held_as_code h.name)))
  aliased index i h there alone free =
      record {
        runs = new_runs i (held_as_code h.name) free refl other;
        flags = record { each = λ q j k m. flagged.each q j k (new_member i (held_as_code h.name) free refl other q j k m) };
        full = record { each = λ q j k m t some. full_of held v.names fulled q j k (new_before i (held_as_code h.name) free refl other q j k m t some) };
      }
    where
      other : (q j : ℕ) (k : Held) → IsMemberOf held q j k → h.name ≡ k.name → ⊥
      other q j k m e =
          let one = (tidy.runs.stretches.only q j k m n index h there e).1 in
          false≢true (sym alone ∙ (ap (λ (c : ℕ). not (c == 0)) one.1 ∙ m.run))

  freed : (cpu : Cpu) (xs : List ℕ) (frees : IsFreeing (before s w n p) cpu xs) → IsTied (with_changes v (map (λ (i : ℕ). Drops n i 1) xs))
      → AreBehind (with_changes v (map (λ (i : ℕ). Drops n i 1) xs))
  freed cpu xs frees tied = record {
    runs = runs_freed held now n (is_among xs) about is counted tidy.runs;
    flags = record { each = λ q j k m. one q j k m (was held now n (is_among xs) about is counted tidy.runs q j k m.there) };
    full = record {
      each = λ q j k m t some. ap (λ (ns : Map Segment). is_full (get ns k.name)) (drops_names n v xs) ∙ full_of held v.names fulled q j k (before_freed held now n (is_among xs) about is counted tidy.runs q j k m t some);
    };
  }
    where
      now : ℕ → ℕ → Option Held
      now = held_at (with_changes v (map (λ (i : ℕ). Drops n i 1) xs)).processes

      about : IsAbout held n (is_among xs)
      about = about_members (before s w n p).known n xs frees.members

      is : (q j : ℕ) → now q j ≡ (if (q == n) && is_among xs j then fewer 1 (held q j) else held q j)
      is q j =
          held_drops v n xs (exists n (inl refl)).0 (exists n (inl refl)).1 frees.apart q j
          ∙ ap (λ (o : Option Held). if (q == n) && is_among xs j then fewer 1 o else o) (same q j)

      counted : AreCounted now
      counted q j h e = (tied.held (q - 1) j h (to_place (with_changes v (map (λ (i : ℕ). Drops n i 1) xs)).processes q j h e)).1

      one : (q j : ℕ) (k : Held) → IsMemberOf now q j k → IsWas (held q j) ((q == n) && is_among xs j) k → may_be_member j (get (with_changes v (map (λ (i : ℕ). Drops n i 1) xs)).names k.name) ≡ true
      one q j k m x =
          ap (λ (ns : Map Segment). may_be_member j (get ns k.name)) (drops_names n v xs)
          ∙ (ap (λ (y : ℕ). may_be_member j (get v.names y)) x.name ∙ flagged.each q j x.old (record { there = x.there; run = in_run_as k x.old x.reserved m.run }))

  shared : (from to : ℕ) (xs : List ℕ) → IsSharing (before s w n p) from to xs → AreBehind (with_changes v (each_more (before s w n p).known from to xs))
  shared from to xs shares =
      subst (λ (cs : List Change). AreBehind (with_changes v cs)) (sym (changes_are (before s w n p).known from to xs shares.shared))
      (record {
        runs = runs_given held now from to (is_among xs) about high is tidy.runs;
        flags = record { each = λ q j k m. one q j k m (from_of held now from to (is_among xs) about high is tidy.runs q j k m.there) };
        full = record {
          each = λ q j h m t some. ap (λ (ns : Map Segment). is_full (get ns h.name)) (shares_names to v ss) ∙ full_of held v.names fulled q j h (before_given held now from to (is_among xs) about high is tidy.runs q j h m t some);
        };
      })
    where
      k : Known
      k = (before s w n p).known

      ss : List (ℕ × Held)
      ss = held_each k from xs shares.shared

      now : ℕ → ℕ → Option Held
      now = held_at (with_changes v (shares_of to ss)).processes

      high : (j : ℕ) → is_among xs j ≡ true → 4096 ≤ j
      high j e = (at_each (IsShared k from) xs j shares.shared e).high

      about_text : IsOfText k from xs → IsAbout held from (is_among xs)
      about_text t = subst (λ (js : List ℕ). IsAbout held from (is_among js)) (sym t.are) (AboutOne t.index t.held t.there (alone (is_in_run t.held) refl) (λ j f. only t.index j f) (rw (eq-eqb t.index t.index refl) refl))
        where
          only : (i j : ℕ) → ((i == j) || false) ≡ true → j ≡ i
          only i j f = go (i == j) refl f
            where
              go : (b : Bool) → (i == j) ≡ b → (b || false) ≡ true → j ≡ i
              go true e f = sym (equal_number i j e)
              go false e f = absurd (false≢true f)

          high_index : 4096 ≤ t.index
          high_index = high t.index (ap (λ (js : List ℕ). is_among js t.index) t.are ∙ (rw (eq-eqb t.index t.index refl) refl))

          alone : (b : Bool) → is_in_run t.held ≡ b → is_in_run t.held ≡ false
          alone false e = e
          alone true e =
              absurd (no_member t.index (get w.names t.held.name) high_index (text_flags w.names w.texts t.text t.held.name texts t.named) (tidy.flags.each from t.index t.held (record { there = t.there; run = e })))

      about_of : AreMembers k from xs ⊎ IsOfText k from xs → IsAbout held from (is_among xs)
      about_of (inl all) = about_members k from xs all
      about_of (inr text) = about_text text

      about : IsAbout held from (is_among xs)
      about = about_of shares.whole

      apart_of : AreMembers k from xs ⊎ IsOfText k from xs → AreApart xs
      apart_of (inl all) = subst AreApart (sym all.are) (members_apart k from all.index all.held)
      apart_of (inr text) = subst AreApart (sym text.are) (tt, tt)

      to_there : (x : Process) × (process_at v.processes to ≡ Some x)
      to_there = exists to shares.lives

      is : (q j : ℕ) → now q j ≡ (if (q == to) && is_among xs j then more_by (held from j) (held q j) else held q j)
      is q j =
          held_shares v to ss to_there.0 to_there.1 (subst AreApart (sym (firsts_are k from xs shares.shared)) (apart_of shares.whole)) q j
          ∙ (ap (λ (o : Option Held). if q == to then with_listed ss j o else o) (same q j)
          ∙ (ap (λ (o : Option Held). if q == to then o else held q j) (listed_is k from xs shares.shared j (held q j)) ∙ joined (q == to) (is_among xs j) (more_by (held from j) (held q j)) (held q j)))
        where
          joined : (a b : Bool) (x y : Option Held) → (if a then (if b then x else y) else y) ≡ (if a && b then x else y)
          joined true b x y = refl
          joined false b x y = refl

      one : (q j : ℕ) (h : Held) → IsMemberOf now q j h → IsFrom held q j h → may_be_member j (get (with_changes v (shares_of to ss)).names h.name) ≡ true
      one q j h m x =
          ap (λ (ns : Map Segment). may_be_member j (get ns h.name)) (shares_names to v ss)
          ∙ (ap (λ (y : ℕ). may_be_member j (get v.names y)) x.name ∙ flagged.each x.process j x.old (record { there = x.there; run = in_run_as h x.old x.reserved m.run }))

  moves_behind : (cpu : Cpu) (cs : List Change) → Moves (before s w n p) cpu cs → IsTied (with_changes v cs) → AreBehind (with_changes v cs)
  unfolding with_changes
  moves_behind cpu cs (NoneMoves is) tied = subst (λ (xs : List Change). AreBehind (with_changes v xs)) (sym is) unchanged
  moves_behind cpu cs (OneMade size flags i free is) tied = subst (λ (xs : List Change). AreBehind (with_changes v xs)) (sym is) (made (made_segment size flags) i free)
  moves_behind cpu cs (OneSized name size alone is) tied =
      subst (λ (xs : List Change). AreBehind (with_changes v xs)) (sym is)
      (record {
        runs = unchanged.runs;
        flags = segment_flags name (λ (x : Segment). record x { bytes = resized (full_size size) x.bytes }) (λ x. refl);
        full = segment_full name (λ (x : Segment). record x { bytes = resized (full_size size) x.bytes }) (λ q j k m e x. absurd (alone_is_none name alone q j k m e));
      })
  moves_behind cpu cs (OneRemade name size alone is) tied =
      subst (λ (xs : List Change). AreBehind (with_changes v xs)) (sym is)
      (record {
        runs = unchanged.runs;
        flags = flags_in (at_key name size_of (at_key name (marked false) v.names)) name locked (λ x. refl) (flags_in (at_key name (marked false) v.names) name size_of (λ x. refl) (flags_in v.names name (marked false) (λ x. refl) unchanged.flags));
        full = full_in (at_key name size_of (at_key name (marked false) v.names)) name locked (λ q j k m e x. refl)
            (full_in (at_key name (marked false) v.names) name size_of (λ q j k m e x. absurd (alone_is_none name alone q j k m e)) (full_in v.names name (marked false) (λ q j k m e x. refl) unchanged.full));
      })
    where
      size_of : Segment → Segment
      size_of x = record x { bytes = resized (full_size size) x.bytes }

      locked : Segment → Segment
      locked x = record x { lock = 1 }
  moves_behind cpu cs (OneLocked name count lockable is) tied =
      subst (λ (xs : List Change). AreBehind (with_changes v xs)) (sym is)
      (record { runs = unchanged.runs; flags = segment_flags name (λ (x : Segment). record x { lock = count }) (λ x. refl); full = segment_full name (λ (x : Segment). record x { lock = count }) (λ q j k m e x. refl) })
  moves_behind cpu cs (OneAliased index i h there alone free is) tied = subst (λ (xs : List Change). AreBehind (with_changes v xs)) (sym is) (aliased index i h there alone free)
  moves_behind cpu cs (SomeFreed xs frees is) tied = subst (λ (ys : List Change). AreBehind (with_changes v ys)) (sym is) (freed cpu xs frees (subst (λ (ys : List Change). IsTied (with_changes v ys)) is tied))

  -- for a run it goes by its ruling
  pub all_behind : ((cs : List Change) → AreOfRuling (before s w n p) cs → AreBehind (with_changes v cs)) → (cpu : Cpu) (cs : List Change) → AllMoves (before s w n p) cpu cs → IsTied (with_changes v cs) → AreBehind (with_changes v cs)
  unfolding with_changes
  all_behind runs cpu cs (OwnMoves moves) tied = moves_behind cpu cs moves tied
  all_behind runs cpu cs (OneNamed size i name free is) tied =
      subst (λ (xs : List Change). AreBehind (with_changes v xs)) (sym is) (let b = made (shared_segment size) i free in record { runs = b.runs; flags = b.flags; full = b.full })
  all_behind runs cpu cs (SomeShared from to xs shares is) tied = subst (λ (ys : List Change). AreBehind (with_changes v ys)) (sym is) (shared from to xs shares)
  all_behind runs cpu cs (OneRun moves ruled) tied = runs cs ruled
