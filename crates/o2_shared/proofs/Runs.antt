-- A process gets what another one holds at each index of a stretch, one index after the other.
use Rattle.std.proofs.Common.{◌≡◌, inl, inr, ℕ, zero, suc, ◌+◌, ◌-◌, ◌<◌, ◌≤◌, ◌==◌, ◌&&◌, ◌||◌, nat_le, nat_lt, Bool, true, false, cond, List, [], ◌∷◌, ◌++◌, filter}
use Rattle.std.proofs.Common.{get_or, min, Option, Some, None, IsSome, is_some, option_map, if◌then◌else◌, refl, sym, ap, ◌∙◌, subst, arith}
use Rattle.std.specs.Prelude.{IfSome}
use Rattle.std.specs.List.{list_all, list_any}
use Rattle.std.proofs.lemmas.Bool.{cases_eq, cases_lt, cond-false, eq-eqb, eqb-true, false≢true, ne_eqb}
use Rattle.std.proofs.lemmas.Bool.Decides.{nat_tests}
use Rattle.std.proofs.lemmas.List.{append-nil}
use Rattle.std.proofs.lemmas.List.Elements.{filter-append}
use Rattle.std.proofs.lemmas.List.Folds.{list_all-append}
use Rattle.o2_place.specs.declared.seg_id.SegId.{SegId}
use Rattle.o2_regions.specs.declared.held.Cause.TheVariants.{Loaded}
use Rattle.o2_regions.specs.declared.held.Held.{Held as HeldThere}
use Rattle.o2_regions.specs.Maps.{Maps, held_at as held_there, holds_of, place}
use Rattle.o2_segbus.specs.Seen.{AreNamed, key_of}
use Rattle.o2_segbus.specs.Settled.{descriptor_at}
use Rattle.o2_store.specs.Shelf.{Shelf}
use Rattle.o2_changes.specs.Holding.{Grants}
use Rattle.o2_changes.specs.Worlds.{MatchesHold, held_as}
use Rattle.o2_changes.proofs.Settling.{Here, Other, pair_is}
use Rattle.o2_world.specs.Changes.{Change, Holds, more, with_changes}
use Rattle.o2_world.specs.Holders.{process_at}
use Rattle.o2_world.specs.Known.{Known}
use Rattle.o2_world.specs.Rulings.{indexes}
use Rattle.o2_world.specs.SharedRulings.{each_more, one_more}
use Rattle.o2_world.specs.World.{ByCall, Held, Process, World}
use Rattle.o2_world.proofs.TiedWorld.{with_more}
use Rattle.o2_stands.specs.Knows.{Others, known_in}
use Rattle.o2_stands.specs.Parts.{Parts, held_in, held_of}
use Rattle.o2_stands.specs.Stands.{Matches}
use Rattle.o2_stands.proofs.Puts.{put_at, there_put, with_map}
use Rattle.o2_segs.specs.Limits.{KeepsLimitsBy}
use Rattle.o2_segs.specs.Members.{below_in, end_in, is_below, members_in, run_in}
use Rattle.o2_segs.specs.Sharing.{AreHeldAtMost, ShareOne}
use Rattle.o2_segs.proofs.FreeingRuns.{below_next}
use Rattle.o2_segs.proofs.Sharing.{shares_then}
use Rattle.o2_shared.specs.Shares.{AllCalled, IsCalledAt, MatchesShares, SharesAt, SharesBelow, StillHolds, are_shareable, held_alone, is_shareable_at, more_by, share_of}
use Rattle.o2_shared.proofs.Shares.{guarded_in}

-- Indexes of a stretch below one.

reaches : (h : HeldThere) (k j : ℕ) → h.first ≤ k → is_below h (k + 1) j ≡ ((j == k) || is_below h k j)
reaches h k j low = go h.first k j low
  where
    go : (f k j : ℕ) → f ≤ k → (nat_le f j && nat_lt j (k + 1)) ≡ ((j == k) || (nat_le f j && nat_lt j k))
    go f k j l = grind (arith, nat_tests)

isnt_below : (h : HeldThere) (k : ℕ) → is_below h k k ≡ false
isnt_below h k = go h.first k
  where
    go : (f k : ℕ) → (nat_le f k && nat_lt k k) ≡ false
    go f k = grind (arith, nat_tests)

nothing_below : (h : HeldThere) (j : ℕ) → is_below h h.first j ≡ false
nothing_below h j = go h.first j
  where
    go : (f j : ℕ) → (nat_le f j && nat_lt j f) ≡ false
    go f j = grind (arith, nat_tests)

and_false : (a b : Bool) → b ≡ false → (a && b) ≡ false
and_false true b e = e
and_false false b e = refl

or_later : (a b : Bool) → b ≡ true → (a || b) ≡ true
or_later true b e = refl
or_later false b e = e

-- An index among those of a stretch that pass a test.

abbrev is_among : ℕ → List ℕ → Bool
is_among k is = list_any (λ (j : ℕ). j == k) is

among_first : (f : ℕ → Bool) (k a : ℕ) (rest : List ℕ) → a ≤ k → f k ≡ true → (a + 1 ≤ k → is_among k rest ≡ true) → is_among k (cond (f a) (a ∷ rest) rest) ≡ true
among_first f k a rest low e later = elim (cases_eq a k) [
  | inl same ↦ ap (λ (b : Bool). is_among k (cond b (a ∷ rest) rest)) (ap f same ∙ e) ∙ ap (λ (b : Bool). b || is_among k rest) (eq-eqb a k same)
  | inr other ↦ behind (f a) (later (omega (arith, low, other)))
]
  where
    behind : (b : Bool) → is_among k rest ≡ true → is_among k (cond b (a ∷ rest) rest) ≡ true
    behind true l = or_later (a == k) (is_among k rest) l
    behind false l = l

among_passed : (f : ℕ → Bool) (k a n : ℕ) → a ≤ k → k < a + n → f k ≡ true → is_among k (filter f (indexes a n)) ≡ true
among_passed f k a zero low high e = absurd (omega (arith, low, high))
among_passed f k a (suc n) low high e = among_first f k a (filter f (indexes (a + 1) n)) low e (λ l. among_passed f k (a + 1) n l (omega (arith, high)) e)

fails_first : (f : ℕ → Bool) (k j : ℕ) (rest later b : Bool) → (j == k) ≡ b → (b || later) ≡ true → f k ≡ false → (later ≡ true → rest ≡ false) → (f j && rest) ≡ false
fails_first f k j rest later true is among e behind = ap (λ (b : Bool). b && rest) (ap f (eqb-true j k is) ∙ e)
fails_first f k j rest later false is among e behind = and_false (f j) rest (behind among)

-- they don't all pass another one that it doesn't
fails_among : (f : ℕ → Bool) (k : ℕ) (is : List ℕ) → is_among k is ≡ true → f k ≡ false → list_all f is ≡ false
fails_among f k [] among e = absurd (false≢true among)
fails_among f k (j ∷ js) among e = fails_first f k j (list_all f js) (is_among k js) (j == k) refl among e (λ l. fails_among f k js l e)

called_first : (m : Maps) (pid k j : ℕ) (later b : Bool) → (j == k) ≡ b → (b || later) ≡ true → IsCalledAt m pid j → (later ≡ true → IsCalledAt m pid k) → IsCalledAt m pid k
called_first m pid k j later true is among here behind = subst (IsCalledAt m pid) (eqb-true j k is) here
called_first m pid k j later false is among here behind = behind among

called_among : (m : Maps) (pid k : ℕ) (is : List ℕ) → AllCalled m pid is → is_among k is ≡ true → IsCalledAt m pid k
called_among m pid k [] all among = absurd (false≢true among)
called_among m pid k (j ∷ js) all among = called_first m pid k j (is_among k js) (j == k) refl among all.0 (λ l. called_among m pid k js all.1 l)

-- The members of a run that are below the end of its stretch are all.

past_none : (m : Maps) (pid a n : ℕ) → 8192 ≤ a → filter (λ (i : ℕ). is_some (held_there m pid i)) (indexes a n) ≡ []
past_none m pid a zero past = refl
past_none m pid a (suc n) past =
    let rest : List ℕ = filter (λ (i : ℕ). is_some (held_there m pid i)) (indexes (a + 1) n) in
    ap (λ (b : Bool). cond b (a ∷ rest) rest) (ap is_some (nobody a past)) ∙ past_none m pid (a + 1) n (omega (arith, past))
  where
    above : (i : ℕ) → 8192 ≤ i → nat_lt i 8192 ≡ false
    above i far = grind (arith, nat_tests)

    nobody : (i : ℕ) → 8192 ≤ i → held_there m pid i ≡ None
    nobody i far = cond-false (nat_lt i 8192) (get_or m.held (place pid i) None) None (above i far)

indexes_split : (a n d b c : ℕ) → b ≡ n + d → c ≡ a + n → indexes a b ≡ indexes a n ++ indexes c d
indexes_split a zero d b c e f =
    let g : b ≡ d = omega (arith, e) in
    let h : a ≡ c = omega (arith, f) in
    ap (indexes a) g ∙ ap (λ (x : ℕ). indexes x d) h
indexes_split a (suc n) d b c e f =
    let g : b ≡ suc (n + d) = omega (arith, e) in
    ap (indexes a) g ∙ ap (λ (is : List ℕ). a ∷ is) (indexes_split (a + 1) n d (n + d) c refl (omega (arith, f)))

-- an index below the end stands in the stretch
pub in_stretch : (h : HeldThere) (k end : ℕ) → end ≡ end_in h → k < end → k < h.first + h.reserved
in_stretch h k end is low = go (h.first + h.reserved) is
  where
    go : (a : ℕ) → end ≡ min a 8192 → k < a
    go a e = omega (arith, e, low)

pub below_all : (m : Maps) (pid : ℕ) (h : HeldThere) (k end : ℕ) → end ≡ end_in h → end ≤ k → (h.first ≤ end → k ≤ end) → h.first ≤ k → below_in m pid h k ≡ run_in m pid h
below_all m pid h k end is past reach low = go h.first h.reserved is reach low
  where
    go : (a r : ℕ) → end ≡ min (a + r) 8192 → (a ≤ end → k ≤ end) → a ≤ k → filter (λ (i : ℕ). is_some (held_there m pid i)) (indexes a (k - a)) ≡ filter (λ (i : ℕ). is_some (held_there m pid i)) (indexes a r)
    go a r e up from = elim (cases_lt 8192 a) [
      | inl far ↦ past_none m pid a (k - a) (omega (arith, far)) ∙ sym (past_none m pid a r (omega (arith, far)))
      | inr near ↦ elim (cases_lt 8192 (a + r)) [
        | inl over ↦ (
            let at : k ≡ 8192 = (let u : k ≤ end = up (omega (arith, e, near, over)) in omega (arith, e, over, past, u)) in
            let split : indexes a r ≡ indexes a (k - a) ++ indexes 8192 (r - (k - a)) = indexes_split a (k - a) (r - (k - a)) r 8192 (omega (arith, at, over, near)) (omega (arith, at, near)) in
            sym (ap (filter (λ (i : ℕ). is_some (held_there m pid i))) split
            ∙ (filter-append (λ (i : ℕ). is_some (held_there m pid i)) (indexes a (k - a)) (indexes 8192 (r - (k - a)))
            ∙ (ap (λ (is : List ℕ). filter (λ (i : ℕ). is_some (held_there m pid i)) (indexes a (k - a)) ++ is) (past_none m pid 8192 (r - (k - a)) (omega arith))
            ∙ append-nil (filter (λ (i : ℕ). is_some (held_there m pid i)) (indexes a (k - a)))))))
        | inr within ↦ (
            let u : k ≤ end = up (omega (arith, e, within)) in
            let n : k - a ≡ r = omega (arith, e, within, past, u) in
            ap (λ (c : ℕ). filter (λ (i : ℕ). is_some (held_there m pid i)) (indexes a c)) n)
      ]
    ]

-- the members of what is held in no run
pub alone_members : (m : Maps) (pid i : ℕ) (h : HeldThere) → held_there m pid i ≡ Some h → h.reserved ≡ 0 → members_in m pid i h ≡ held_alone m pid i
alone_members m pid i h there alone =
    ap (λ (b : Bool). cond b (i ∷ []) (run_in m pid h)) (eq-eqb h.reserved 0 alone)
    ∙ sym (ap (λ (o : Option HeldThere). if is_some o then i ∷ [] else []) there)

pub run_members : (m : Maps) (pid i : ℕ) (h : HeldThere) → (h.reserved ≡ 0 → ⊥) → members_in m pid i h ≡ run_in m pid h
run_members m pid i h run = cond-false (h.reserved == 0) (i ∷ []) (run_in m pid h) (ne_eqb h.reserved 0 run)

-- What came by a call.

pub called_in : (m : Maps) (pid : ℕ) (h : HeldThere) (k : ℕ) → AllCalled m pid (run_in m pid h) → h.first ≤ k → k < h.first + h.reserved → IsCalledAt m pid k
called_in m pid h k all low high = go (held_there m pid k) refl
  where
    go : (o : Option HeldThere) → held_there m pid k ≡ o → IsCalledAt m pid k
    go None e = subst (λ (o : Option HeldThere). IfSome o (λ x. (4096 ≤ k) × (x.cause ≡ Loaded → ⊥))) (sym e) tt
    go (Some x) e = called_among m pid k (run_in m pid h) all (among_passed (λ (i : ℕ). is_some (held_there m pid i)) k h.first h.reserved low high (ap is_some e))

pub called_alone : (m : Maps) (pid i : ℕ) (h : HeldThere) → held_there m pid i ≡ Some h → h.reserved ≡ 0 → AllCalled m pid (members_in m pid i h) → IsCalledAt m pid i
called_alone m pid i h there alone all = (subst (AllCalled m pid) (ap (λ (b : Bool). cond b (i ∷ []) (run_in m pid h)) (eq-eqb h.reserved 0 alone)) all).0

pub called_still : (m n : Maps) (pid k : ℕ) → held_there n pid k ≡ held_there m pid k → IsCalledAt m pid k → IsCalledAt n pid k
called_still m n pid k same called = subst (λ (o : Option HeldThere). IfSome o (λ x. (4096 ≤ k) × (x.cause ≡ Loaded → ⊥))) (sym same) called

pub called_run : (m : Maps) (pid i : ℕ) (h : HeldThere) → (h.reserved ≡ 0 → ⊥) → AllCalled m pid (members_in m pid i h) → AllCalled m pid (run_in m pid h)
called_run m pid i h run all = subst (AllCalled m pid) (run_members m pid i h run) all

-- what is held at an index came so
pub came_here : (m : Maps) (pid i : ℕ) (h : HeldThere) → held_there m pid i ≡ Some h → IsCalledAt m pid i → (4096 ≤ i) × (h.cause ≡ Loaded → ⊥)
came_here m pid i h there called = subst (λ (o : Option HeldThere). IfSome o (λ x. (4096 ≤ i) × (x.cause ≡ Loaded → ⊥))) there called

-- and is the same for all
pub same_shared : (m : Maps) (from to i : ℕ) (h : HeldThere) → ShareOne m → held_there m from i ≡ Some h → IsCalledAt m from i → IfSome (held_there m to i) (λ x. x.id ≡ h.id)
same_shared m from to i h one there called = go (held_there m to i) refl
  where
    go : (o : Option HeldThere) → held_there m to i ≡ o → IfSome o (λ x. x.id ≡ h.id)
    go None e = tt
    go (Some x) e = (let c = came_here m from i h there called in one.one from to i h x c.0 there e c.1)

-- Whether they may be shared.

pub shareable_alone : (s : Shelf) (m : Maps) (flag pid i : ℕ) (h : HeldThere) → h.reserved ≡ 0 → are_shareable s m flag pid (members_in m pid i h) ≡ is_shareable_at s flag i (held_there m pid i)
shareable_alone s m flag pid i h alone =
    ap (λ (b : Bool). are_shareable s m flag pid (cond b (i ∷ []) (run_in m pid h))) (eq-eqb h.reserved 0 alone) ∙ alike (is_shareable_at s flag i (held_there m pid i))
  where
    alike : (b : Bool) → (b && true) ≡ b
    alike true = refl
    alike false = refl

pub shareable_first : (s : Shelf) (m : Maps) (flag pid : ℕ) (h : HeldThere) → are_shareable s m flag pid (below_in m pid h h.first) ≡ true
shareable_first s m flag pid h = go h.first
  where
    go : (f : ℕ) → are_shareable s m flag pid (filter (λ (i : ℕ). is_some (held_there m pid i)) (indexes f (f - f))) ≡ true
    go f = (let n : f - f ≡ 0 = omega arith in ap (λ (c : ℕ). are_shareable s m flag pid (filter (λ (i : ℕ). is_some (held_there m pid i)) (indexes f c))) n)

pub shareable_more : (s : Shelf) (m : Maps) (flag pid : ℕ) (h : HeldThere) (k : ℕ) → h.first ≤ k → is_shareable_at s flag k (held_there m pid k) ≡ true → are_shareable s m flag pid (below_in m pid h k) ≡ true
    → are_shareable s m flag pid (below_in m pid h (k + 1)) ≡ true
shareable_more s m flag pid h k low here so_far =
    ap (are_shareable s m flag pid) (below_next m pid k h low)
    ∙ (list_all-append (λ (i : ℕ). is_shareable_at s flag i (held_there m pid i)) (below_in m pid h k) (held_alone m pid k)
    ∙ (ap (λ (b : Bool). b && are_shareable s m flag pid (held_alone m pid k)) so_far
    ∙ one (is_some (held_there m pid k))))
  where
    one : (b : Bool) → are_shareable s m flag pid (if b then k ∷ [] else []) ≡ true
    one true = ap (λ (b : Bool). b && true) here
    one false = refl

-- one that may not be shared
pub shareable_not : (s : Shelf) (m : Maps) (flag pid : ℕ) (h : HeldThere) (k : ℕ) → h.first ≤ k → k < h.first + h.reserved → is_shareable_at s flag k (held_there m pid k) ≡ false → are_shareable s m flag pid (run_in m pid h) ≡ false
shareable_not s m flag pid h k low high not_here = go (held_there m pid k) refl
  where
    go : (o : Option HeldThere) → held_there m pid k ≡ o → are_shareable s m flag pid (run_in m pid h) ≡ false
    go None e = absurd (false≢true (sym not_here ∙ ap (is_shareable_at s flag k) e))
    go (Some x) e =
        fails_among (λ (i : ℕ). is_shareable_at s flag i (held_there m pid i)) k (run_in m pid h)
        (among_passed (λ (i : ℕ). is_some (held_there m pid i)) k h.first h.reserved low high (ap is_some e)) not_here

-- One hold more at each index.

-- the same is held at the next index as before
pub kept_at : (m n : Maps) (from to : ℕ) (h : HeldThere) (k : ℕ) → SharesBelow m n from to h k → (q : ℕ) → held_there n q k ≡ held_there m q k
kept_at m n from to h k shares q =
    shares.held q k ∙ ap (λ (b : Bool). if b then more_by (held_there m from k) (held_there m to k) else held_there m q k) (and_false (q == to) (is_below h k k) (isnt_below h k))

pub none_shared : (m : Maps) (from to : ℕ) (h : HeldThere) → SharesBelow m m from to h h.first
none_shared m from to h = record {
  processes = refl;
  held = λ q j. ap (λ (b : Bool). if b then more_by (held_there m from j) (held_there m to j) else held_there m q j) (sym (and_false (q == to) (is_below h h.first j) (nothing_below h j)));
}

pub shared_more : (m n o : Maps) (from to : ℕ) (h : HeldThere) (k : ℕ) → h.first ≤ k → SharesBelow m n from to h k → SharesAt n o from to k → SharesBelow m o from to h (k + 1)
shared_more m n o from to h k low a b = record {
  processes = b.processes ∙ a.processes;
  held = λ q j. b.held q j ∙ elim (pair_is q j to k) [
    | Other apart u ↦ (ap (λ (c : Bool). if c then more_by (held_there n from k) (held_there n to k) else held_there n q j) u ∙ (a.held q j ∙ other q j (q == to) (j == k) refl refl u))
    | Here c d u ↦ (ap (λ (e : Bool). if e then more_by (held_there n from k) (held_there n to k) else held_there n q j) u ∙ here q j c d)
  ];
}
  where
    other : (q j : ℕ) (x y : Bool) → (q == to) ≡ x → (j == k) ≡ y → (x && y) ≡ false
        → (if (q == to) && is_below h k j then more_by (held_there m from j) (held_there m to j) else held_there m q j) ≡ (if (q == to) && is_below h (k + 1) j then more_by (held_there m from j) (held_there m to j) else held_there m q j)
    other q j false y e f g = rw e refl
    other q j true false e f g = rw (e, reaches h k j low, f) refl
    other q j true true e f g = absurd (false≢true (sym g))

    here : (q j : ℕ) → q ≡ to → j ≡ k → more_by (held_there n from k) (held_there n to k) ≡ (if (q == to) && is_below h (k + 1) j then more_by (held_there m from j) (held_there m to j) else held_there m q j)
    here q j c d =
        let same : more_by (held_there m from k) (held_there m to k) ≡ (if (q == to) && is_below h (k + 1) j then more_by (held_there m from j) (held_there m to j) else held_there m q j) =
        rw (eq-eqb q to c, reaches h k j low, eq-eqb j k d) (ap (λ (x : ℕ). more_by (held_there m from x) (held_there m to x)) (sym d)) in
        ap (λ (x : Option HeldThere). more_by x (held_there n to k)) (kept_at m n from to h k a from) ∙ (ap (more_by (held_there m from k)) (kept_at m n from to h k a to) ∙ same)

-- what is held behind it was held before by somebody
came_from : (m n : Maps) (from to : ℕ) (h : HeldThere) (k q j : ℕ) (x : HeldThere) → SharesBelow m n from to h k → held_there n q j ≡ Some x
    → (p : ℕ) × ((y : HeldThere) × (held_there m p j ≡ Some y) × (y.id ≡ x.id))
came_from m n from to h k q j x shares e = go ((q == to) && is_below h k j) (sym (shares.held q j) ∙ e)
  where
    of_both : (a b : Option HeldThere) → held_there m from j ≡ a → held_there m to j ≡ b → more_by a b ≡ Some x → (p : ℕ) × ((y : HeldThere) × (held_there m p j ≡ Some y) × (y.id ≡ x.id))
    of_both None b f g same = (to, (x, g ∙ same, refl))
    of_both (Some y) None f g same = (from, (y, f, let z : share_of y ≡ x = cc in ap (λ (w : HeldThere). w.id) z))
    of_both (Some y) (Some was) f g same = (to, (was, g, let z : record was { holds = was.holds + 1 } ≡ x = cc in ap (λ (w : HeldThere). w.id) z))

    go : (b : Bool) → cond b (more_by (held_there m from j) (held_there m to j)) (held_there m q j) ≡ Some x → (p : ℕ) × ((y : HeldThere) × (held_there m p j ≡ Some y) × (y.id ≡ x.id))
    go true f = of_both (held_there m from j) (held_there m to j) refl refl f
    go false f = (q, (x, f, refl))

pub named_below : (s : Shelf) (m n : Maps) (from to : ℕ) (h : HeldThere) (k : ℕ) → SharesBelow m n from to h k → AreNamed s m → AreNamed s n
named_below s m n from to h k shares named = λ q j x e.
    (let c = came_from m n from to h k q j x shares e in
    subst (λ (id : SegId). key_of s id.age ≡ Some id.key) c.1.2 (named c.0 j c.1.0 c.1.1))

few_below : (m n : Maps) (from to : ℕ) (h : HeldThere) (k : ℕ) → SharesBelow m n from to h k → (c : ℕ) → 1 ≤ c → AreHeldAtMost m c → AreHeldAtMost n (c + 1)
few_below m n from to h k shares c some most = record { each = λ q j. go q j ((q == to) && is_below h k j) (shares.held q j) }
  where
    of_both : (a b : Option HeldThere) → holds_of b ≤ c → holds_of (more_by a b) ≤ c + 1
    of_both None b l = omega (arith, l)
    of_both (Some y) None l = omega (arith, some)
    of_both (Some y) (Some was) l = omega (arith, l)

    go : (q j : ℕ) (b : Bool) → held_there n q j ≡ cond b (more_by (held_there m from j) (held_there m to j)) (held_there m q j) → holds_of (held_there n q j) ≤ c + 1
    go q j true e =
        let a : holds_of (held_there n q j) ≡ holds_of (more_by (held_there m from j) (held_there m to j)) = ap holds_of e in
        let b = of_both (held_there m from j) (held_there m to j) (most.each to j) in
        omega (arith, a, b)
    go q j false e =
        let a : holds_of (held_there n q j) ≡ holds_of (held_there m q j) = ap holds_of e in
        let b = most.each q j in
        omega (arith, a, b)

pub still_then : (m n o : Maps) → StillHolds m n → StillHolds n o → StillHolds m o
still_then m n o x y = record {
  held = λ q j h e.
      (let a = x.held q j h e in
      let b = y.held q j a.0 a.1 in
      (b.0, b.1, b.2 ∙ a.2, let c = a.3 in let d = b.3 in omega (arith, c, d)));
  rights = λ q j some. y.rights q j (goes_on q j (held_there m q j) refl some) ∙ x.rights q j some;
}
  where
    goes_on : (q j : ℕ) (o : Option HeldThere) → held_there m q j ≡ o → IsSome o → IsSome (held_there n q j)
    goes_on q j None e some = absurd (false≢true some)
    goes_on q j (Some h) e some = ap is_some (x.held q j h e).1

pub limits_below : (s : Shelf) (m n o : Maps) (from to : ℕ) (h : HeldThere) (k : ℕ) → SharesBelow m o from to h k → KeepsLimitsBy s m s n 0 1 → KeepsLimitsBy s n s o 0 1 → KeepsLimitsBy s m s o 0 1
limits_below s m n o from to h k shares x y = record {
  size = refl;
  count = refl;
  made = omega arith;
  grows = omega arith;
  few = few_below m o from to h k shares;
  shares = shares_then s s s m n o s.made s.made s.made (omega arith) (omega arith) x.shares y.shares;
}

-- At one index.

pub shared_one : (m n : Maps) (from to i access : ℕ) (h : HeldThere) → held_there m from i ≡ Some h → Grants m n to i (share_of h) access → SharesAt m n from to i
shared_one m n from to i access h there grants = record {
  processes = grants.processes;
  held = λ q j. grants.held q j ∙ ap (λ (o : Option HeldThere). if (q == to) && (j == i) then more_by o (held_there m to i) else held_there m q j) (sym there);
}

pub shared_nothing : (m : Maps) (from to i : ℕ) → held_there m from i ≡ None → SharesAt m m from to i
shared_nothing m from to i none = record { processes = refl; held = λ q j. go q j }
  where
    go : (q j : ℕ) → held_there m q j ≡ (if (q == to) && (j == i) then more_by (held_there m from i) (held_there m to i) else held_there m q j)
    go q j = elim (pair_is q j to i) [
      | Other apart u ↦ sym (ap (λ (c : Bool). if c then more_by (held_there m from i) (held_there m to i) else held_there m q j) u)
      | Here c d u ↦ sym (ap (λ (e : Bool). if e then more_by (held_there m from i) (held_there m to i) else held_there m q j) u
          ∙ (ap (λ (o : Option HeldThere). more_by o (held_there m to i)) none
          ∙ (ap (λ (x : ℕ). held_there m x i) (sym c) ∙ ap (held_there m q) (sym d))))
    ]

-- What worlds are matched.

-- the changes of one index
alone_more : (p : Parts) (o : Others) (from to i : ℕ) → each_more (known_in p o) from to (held_alone p.maps from i) ≡ one_more to i (held_in p.maps from i)
unfolding held_in
alone_more p o from to i = go (held_there p.maps from i) refl
  where
    go : (x : Option HeldThere) → held_there p.maps from i ≡ x → each_more (known_in p o) from to (if is_some x then i ∷ [] else []) ≡ one_more to i (option_map (held_of p.maps from i) x)
    go None e = refl
    go (Some h) e = ap (λ (x : Option HeldThere). one_more to i (option_map (held_of p.maps from i) x) ++ []) e

same_in : (m n : Maps) (pid k : ℕ) → held_there n pid k ≡ held_there m pid k → StillHolds m n → held_in n pid k ≡ held_in m pid k
unfolding held_in
same_in m n pid k same still = ap (option_map (held_of n pid k)) same ∙ go (held_there m pid k) refl
  where
    go : (x : Option HeldThere) → held_there m pid k ≡ x → option_map (held_of n pid k) x ≡ option_map (held_of m pid k) x
    go None e = refl
    go (Some h) e = ap (λ (r : ℕ). Some (record (held_of m pid k h) { rights = r })) (still.rights pid k (ap is_some e))

each_append : (k : Known) (from to : ℕ) (is js : List ℕ) → each_more k from to (is ++ js) ≡ each_more k from to is ++ each_more k from to js
each_append k from to [] js = refl
each_append k from to (i ∷ is) js =
    ap (λ (cs : List Change). one_more to i (k.held from i) ++ cs) (each_append k from to is js)
    ∙ joined (one_more to i (k.held from i)) (each_more k from to is) (each_more k from to js)
  where
    joined : (a b c : List Change) → a ++ (b ++ c) ≡ (a ++ b) ++ c
    joined [] b c = refl
    joined (x ∷ xs) b c = ap (λ (cs : List Change). x ∷ cs) (joined xs b c)

-- the process is there behind them
one_there : (w : World) (to i : ℕ) (o : Option Held) (x : Process) → process_at w.processes to ≡ Some x → (y : Process) × (process_at (with_changes w (one_more to i o)).processes to ≡ Some y)
unfolding with_changes
one_there w to i None x at = (x, at)
one_there w to i (Some h) x at =
    (with_map (put_at i (more (record h { holds = 1; cause = ByCall }))) x, there_put w.processes to (put_at i (more (record h { holds = 1; cause = ByCall }))) x at)

more_there : (k : Known) (w : World) (from to : ℕ) (is : List ℕ) (x : Process) → process_at w.processes to ≡ Some x → (y : Process) × (process_at (with_changes w (each_more k from to is)).processes to ≡ Some y)
unfolding with_changes
more_there k w from to [] x at = (x, at)
more_there k w from to (i ∷ is) x at =
    let a = one_there w to i (k.held from i) x at in
    let b = more_there k (with_changes w (one_more to i (k.held from i))) from to is a.0 a.1 in
    (b.0, ap (λ (v : World). process_at v.processes to) (with_more w (one_more to i (k.held from i)) (each_more k from to is)) ∙ b.1)

pub nothing_matches : (s : Shelf) (m : Maps) (from to : ℕ) (is : List ℕ) → is ≡ [] → MatchesShares s m m from to is
unfolding with_changes
nothing_matches s m from to is none = record {
  world = λ p o w x es em at q.
      subst (λ (js : List ℕ). Matches (record p { maps = m }) (with_changes w (each_more (known_in p o) from to js))) (sym none)
      (subst (λ (y : Maps). Matches (record p { maps = y }) w) em q);
}

pub nobody_matches : (s : Shelf) (m : Maps) (from to i : ℕ) → held_there m from i ≡ None → MatchesShares s m m from to (held_alone m from i)
nobody_matches s m from to i none = nothing_matches s m from to (held_alone m from i) (ap (λ (o : Option HeldThere). if is_some o then i ∷ [] else []) none)

pub first_matches : (s : Shelf) (m : Maps) (from to : ℕ) (h : HeldThere) → MatchesShares s m m from to (below_in m from h h.first)
first_matches s m from to h = nothing_matches s m from to (below_in m from h h.first) (go h.first)
  where
    go : (f : ℕ) → filter (λ (i : ℕ). is_some (held_there m from i)) (indexes f (f - f)) ≡ []
    go f = (let n : f - f ≡ 0 = omega arith in ap (λ (c : ℕ). filter (λ (i : ℕ). is_some (held_there m from i)) (indexes f c)) n)

pub one_matches : (s : Shelf) (m n : Maps) (from to i : ℕ) (h : HeldThere) → MatchesHold s m n to i (share_of h) (descriptor_at m from i).access → held_there m from i ≡ Some h → MatchesShares s m n from to (held_alone m from i)
unfolding with_changes held_in
one_matches s m n from to i h hold there = record {
  world = λ p o w x es em at q.
      subst (λ (cs : List Change). Matches (record p { maps = n }) (with_changes w cs)) (sym (changes p o em))
      (hold.world p w x es em at ((guarded_in p s m w es em q).guarded from i h there) q);
}
  where
    changes : (p : Parts) (o : Others) → p.maps ≡ m → each_more (known_in p o) from to (held_alone m from i) ≡ Holds to i (held_as (share_of h) (descriptor_at m from i).access) ∷ []
    changes p o em =
        ap (λ (y : Maps). each_more (known_in p o) from to (held_alone y from i)) (sym em)
        ∙ (alone_more p o from to i
        ∙ (ap (λ (y : Maps). one_more to i (option_map (held_of y from i) (held_there y from i))) em
        ∙ ap (λ (y : Option HeldThere). one_more to i (option_map (held_of m from i) y)) there))

pub next_matches : (s : Shelf) (m n l : Maps) (from to : ℕ) (h : HeldThere) (k : ℕ) → h.first ≤ k → SharesBelow m n from to h k → StillHolds m n → MatchesShares s m n from to (below_in m from h k)
    → MatchesShares s n l from to (held_alone n from k) → MatchesShares s m l from to (below_in m from h (k + 1))
next_matches s m n l from to h k low shares still so_far next = record {
  world = λ p o w x es em at q.
      (let y = more_there (known_in p o) w from to (below_in m from h k) x at in
      let behind = next.world (record p { maps = n }) o (with_changes w (each_more (known_in p o) from to (below_in m from h k))) y.0 es refl y.1 (so_far.world p o w x es em at q) in
      subst (λ (v : World). Matches (record p { maps = l }) v) (together p o w em) behind);
}
  where
    one : (p : Parts) (o : Others) → p.maps ≡ m → each_more (known_in (record p { maps = n }) o) from to (held_alone n from k) ≡ each_more (known_in p o) from to (held_alone m from k)
    one p o em =
        alone_more (record p { maps = n }) o from to k
        ∙ (ap (one_more to k) (same_in m n from k (kept_at m n from to h k shares from) still)
        ∙ (ap (λ (y : Maps). one_more to k (held_in y from k)) (sym em)
        ∙ (sym (alone_more p o from to k) ∙ ap (λ (y : Maps). each_more (known_in p o) from to (held_alone y from k)) em)))

    together : (p : Parts) (o : Others) (w : World) → p.maps ≡ m
        → with_changes (with_changes w (each_more (known_in p o) from to (below_in m from h k))) (each_more (known_in (record p { maps = n }) o) from to (held_alone n from k)) ≡ with_changes w (each_more (known_in p o) from to (below_in m from h (k + 1)))
    together p o w em =
        ap (with_changes (with_changes w (each_more (known_in p o) from to (below_in m from h k)))) (one p o em)
        ∙ (sym (with_more w (each_more (known_in p o) from to (below_in m from h k)) (each_more (known_in p o) from to (held_alone m from k)))
        ∙ ap (with_changes w) (sym (each_append (known_in p o) from to (below_in m from h k) (held_alone m from k)) ∙ ap (each_more (known_in p o) from to) (sym (below_next m from k h low))))
