-- The lines of a call on a huge allocation can tell its changes.
use Rattle.std.proofs.Common.{◌≡◌, ◌≢◌, ℕ, ◌+◌, ◌-◌, ◌≤◌, ◌==◌, Bool, true, false, List, [], ◌∷◌, ◌++◌, length, Option, Some, None, if◌then◌else◌, ap, sym, ◌∙◌, refl, arith, subst}
use Rattle.std.specs.Prelude.{slice_get}
use Rattle.o2_conf.specs.Dispatch.{Dispatch}
use Rattle.o2_world.specs.Map.{Map, get, put}
use Rattle.o2_world.specs.World.{World, Setting, Process, Segment, Held, is_live}
use Rattle.o2_world.specs.Holders.{process_at}
use Rattle.o2_world.specs.Changes.{Change, Drops, Holds, Makes, Reserves, Resizes, at_place, fewer, with_change, with_changes}
use Rattle.o2_world.specs.Known.{Known}
use Rattle.o2_world.specs.CallParts.{Before, Effect}
use Rattle.o2_world.specs.Rulings.{made_segment}
use Rattle.o2_world.specs.Run.{before, worked, working}
use Rattle.o2_world.specs.Sound.{held_in, held_of, HasGoodRegisters}
use Rattle.o2_world.specs.HugeRulings.{all_hold, dropped_members, held_in_run, new_members, resized_members, run_reserve}
use Rattle.o2_world.specs.Tied.{IsSound}
use Rattle.o2_world.specs.Reach.{CanTellAll, IsThere, holds_of}
use Rattle.o2_world.specs.Moves.{AreApart, Each, IsCut, IsGrowth, NoRun, RunMade, RunMoves, RunSized}
use Rattle.o2_world.proofs.FitRuns.{AllGoOn, members_still, other_number}
use Rattle.o2_world.proofs.MapLemmas.{if_no}
use Rattle.o2_world.proofs.MovesFit.{held_there}
use Rattle.o2_world.proofs.Numbers.{at_place_of, number_some}
use Rattle.o2_world.proofs.Reached.{get-put, held_at_place, held_then, number_holds}
use Rattle.o2_world.proofs.RunsFit.{all_are, drops_each, drops_of, drop_one, holders_on, on, resizes_of, resizes_same, sizes_each}
use Rattle.o2_world.proofs.Telling.{below, number_length, there_behind}
use Rattle.o2_world.proofs.TiedWorld.{with_more}

-- Changes behind one another.

tell_more : (u : World) (xs ys : List Change) → CanTellAll u xs → CanTellAll (with_changes u xs) ys → CanTellAll u (xs ++ ys)
unfolding with_changes
tell_more u [] ys tell more = more
tell_more u (x ∷ xs) ys tell more = (tell.0, tell_more (with_change u x) xs ys tell.1 more)

-- processes that are there

abbrev AllThere : World → List (ℕ × ℕ) → Type 0
AllThere u [] = Unit {0}
AllThere u (p ∷ ps) = IsThere u p.0 × AllThere u ps

on_there : (u : World) (ps : List (ℕ × ℕ)) → AllGoOn u ps → AllThere u ps
on_there u [] on = tt
on_there u (p ∷ ps) on =
    let some = number_some u.processes p.0 on.0.process on.0.there in
    let l = below u.processes (p.0 - 1) on.0.process (at_place_of u.processes p.0 on.0.process on.0.there) in
    ((some, omega (arith, some, l)), on_there u ps on.1)

there_more : (u : World) (q i : ℕ) (h : Held) (ps : List (ℕ × ℕ)) → AllThere u ps → AllThere (with_change u (Holds q i h)) ps
there_more u q i h [] there = tt
there_more u q i h (p ∷ ps) there = (there_behind u q p.0 i h there.0, there_more u q i h ps there.1)

holds_tell : (u : World) (name first count i : ℕ) (ps : List (ℕ × ℕ)) → AllThere u ps → CanTellAll u (all_hold name first count i ps)
holds_tell u name first count i [] there = tt
holds_tell u name first count i (p ∷ ps) there =
    let h : Held = held_in_run name first count p.1 in
    (there.0, holds_tell (with_change u (Holds p.0 i h)) name first count i ps (there_more u p.0 i h ps there.1))

holds_there : (u : World) (name first count i : ℕ) (ps qs : List (ℕ × ℕ)) → AllThere u qs → AllThere (with_changes u (all_hold name first count i ps)) qs
unfolding with_changes
holds_there u name first count i [] qs there = there
holds_there u name first count i (p ∷ ps) qs there =
    let h : Held = held_in_run name first count p.1 in
    holds_there (with_change u (Holds p.0 i h)) name first count i ps qs (there_more u p.0 i h qs there)

members_tell : (u : World) (name first count flags : ℕ) (ps : List (ℕ × ℕ)) (is zs : List ℕ) → AllThere u ps → CanTellAll u (new_members name first count flags ps is zs)
members_tell u name first count flags ps [] zs there = tt
members_tell u name first count flags ps (i ∷ is) [] there = tt
members_tell u name first count flags ps (i ∷ is) (z ∷ zs) there =
    let made : World = with_change u (Makes (made_segment z flags)) in (
      tt,
      tell_more made (all_hold name first count i ps) (new_members (name + 1) first count flags ps is zs) (holds_tell made name first count i ps there)
          (members_tell (with_changes made (all_hold name first count i ps)) (name + 1) first count flags ps is zs (holds_there made name first count i ps ps there)),
    )

members_there : (u : World) (name first count flags : ℕ) (ps : List (ℕ × ℕ)) (is zs : List ℕ) → AllThere u ps
    → AllThere (with_changes u (new_members name first count flags ps is zs)) ps
unfolding with_changes
members_there u name first count flags ps [] zs there = there
members_there u name first count flags ps (i ∷ is) [] there = there
members_there u name first count flags ps (i ∷ is) (z ∷ zs) there =
    let made : World = with_change u (Makes (made_segment z flags)) in
    subst (λ (y : World). AllThere y ps) (sym (with_more made (all_hold name first count i ps) (new_members (name + 1) first count flags ps is zs)))
    (members_there (with_changes made (all_hold name first count i ps)) (name + 1) first count flags ps is zs (holds_there made name first count i ps ps there))

resizes_tell : (u : World) (rs : List (ℕ × ℕ)) → CanTellAll u (resizes_of rs)
resizes_tell u [] = tt
resizes_tell u (r ∷ rs) = (tt, resizes_tell (with_change u (Resizes r.0 r.1)) rs)

-- Drops of as many holds as there are.

drop_other : (v : World) (n i count place j : ℕ) → i ≢ j → held_in (with_change v (Drops n i count)).processes place j ≡ held_in v.processes place j
drop_other v n i count place j other = go (n == 0)
  where
    g : Map Held → Map Held
    g m = put i (fewer count (get m i)) m

    f : Process → Process
    f x = record x { held = put i (fewer count (get x.held i)) x.held }

    at : (o : Option Process) → held_then g o j ≡ held_of o j
    at None = refl
    at (Some x) = get-put i j (fewer count (get x.held i)) x.held ∙ if_no (i == j) _ _ (other_number i j other)

    pick : (b : Bool) → (if b then held_then g (slice_get v.processes place) j else held_in v.processes place j) ≡ held_in v.processes place j
    pick true = at (slice_get v.processes place)
    pick false = refl

    go : (b : Bool) → held_in (if b then v.processes else at_place (n - 1) f v.processes) place j ≡ held_in v.processes place j
    go true = refl
    go false = held_at_place v.processes (n - 1) place j g ∙ pick (place == n - 1)

-- what is to go is held so often
abbrev IsEnough : World → ℕ → ℕ × ℕ → Type 0
IsEnough u n g = (y : Held) × (held_in u.processes (n - 1) g.0 ≡ Some y) × (g.1 ≤ y.holds)

abbrev AreEnough : World → ℕ → List (ℕ × ℕ) → Type 0
AreEnough u n [] = Unit {0}
AreEnough u n (g ∷ gs) = IsEnough u n g × AreEnough u n gs

abbrev AreOthers : ℕ → List (ℕ × ℕ) → Type 0
AreOthers i [] = Unit {0}
AreOthers i (g ∷ gs) = (i ≢ g.0) × AreOthers i gs

abbrev NoneTwice : List (ℕ × ℕ) → Type 0
NoneTwice [] = Unit {0}
NoneTwice (g ∷ gs) = AreOthers g.0 gs × NoneTwice gs

still_enough : (u : World) (n i count : ℕ) (gs : List (ℕ × ℕ)) → AreOthers i gs → AreEnough u n gs → AreEnough (with_change u (Drops n i count)) n gs
still_enough u n i count [] others enough = tt
still_enough u n i count (g ∷ gs) others enough =
    ((enough.0.0, drop_other u n i count (n - 1) g.0 others.0 ∙ enough.0.1, enough.0.2), still_enough u n i count gs others.1 enough.1)

drops_tell : (u : World) (n : ℕ) (gs : List (ℕ × ℕ)) → IsThere u n → NoneTwice gs → AreEnough u n gs → CanTellAll u (drops_of n gs)
drops_tell u n [] there twice enough = tt
drops_tell u n (g ∷ gs) there twice enough =
    let a = number_holds u n g.0 there.0 in
    let y : holds_of (held_in u.processes (n - 1) g.0) ≡ enough.0.0.holds = ap holds_of enough.0.1 in
    let l = enough.0.2 in (
      (there, omega (arith, a, y, l)),
      drops_tell (with_change u (Drops n g.0 g.1)) n gs
          (there.0, let m = number_length n (λ (p : Process). record p { held = put g.0 (fewer g.1 (get p.held g.0)) p.held }) u.processes in let x = there.1 in omega (arith, m, x))
          twice.1 (still_enough u n g.0 g.1 gs twice.0 enough.1),
    )

others_each : (k : Known) (n i : ℕ) (is : List ℕ) → Each (λ (j : ℕ). i ≢ j) is → AreOthers i (drops_each k n is)
others_each k n i [] apart = tt
others_each k n i (j ∷ is) apart = one (others_each k n i is apart.1) (k.held n j)
  where
    one : AreOthers i (drops_each k n is) → (o : Option Held) → AreOthers i (drop_one j o ++ drops_each k n is)
    one rest None = rest
    one rest (Some h) = (apart.0, rest)

none_twice : (k : Known) (n : ℕ) (is : List ℕ) → AreApart is → NoneTwice (drops_each k n is)
none_twice k n [] apart = tt
none_twice k n (i ∷ is) apart = one (none_twice k n is apart.1) (k.held n i)
  where
    one : NoneTwice (drops_each k n is) → (o : Option Held) → NoneTwice (drop_one i o ++ drops_each k n is)
    one rest None = rest
    one rest (Some h) = (others_each k n i is apart.0, rest)

enough_each : (u : World) (k : Known) (n : ℕ) → ((i : ℕ) (h : Held) → k.held n i ≡ Some h → IsEnough u n (i, h.holds)) → (is : List ℕ) → AreEnough u n (drops_each k n is)
enough_each u k n has [] = tt
enough_each u k n has (i ∷ is) = one (enough_each u k n has is) (k.held n i) refl
  where
    one : AreEnough u n (drops_each k n is) → (o : Option Held) → k.held n i ≡ o → AreEnough u n (drop_one i o ++ drops_each k n is)
    one rest None e = rest
    one rest (Some h) e = (has i h e, rest)

module _ (s : Setting) (w : World) (d : Dispatch) (p : Process) (e : Effect) (at : process_at w.processes d.current ≡ Some p) (lives : is_live p.state ≡ true)
    (live_now : is_live (working p e).state ≡ true) (good_now : HasGoodRegisters (working p e))
    (sizes : (q : ℕ) (x : Segment) → get w.names q ≡ Some x → length (e.bytes q) ≡ length x.bytes) (sound : IsSound w) where
  abbrev b : Before
  b = before s w d.current p

  abbrev v : World
  v = worked w d p e

  made_tell : (region first count flags : ℕ) (is zs : List ℕ) → IsGrowth b 1 [] is
      → CanTellAll v (new_members w.next_name first count flags ((d.current, 1) ∷ []) is zs ++ Reserves (run_reserve region first count) ∷ [])
  made_tell region first count flags is zs growth =
      tell_more v (new_members w.next_name first count flags ((d.current, 1) ∷ []) is zs) (Reserves (run_reserve region first count) ∷ [])
      (members_tell v w.next_name first count flags ((d.current, 1) ∷ []) is zs
      (on_there v ((d.current, 1) ∷ []) (holders_on s w d p e at lives live_now good_now sizes sound ((d.current, 1) ∷ []) growth.holders)))
      (tt, tt)

  module _ (first count flags holds : ℕ) (others : List (ℕ × ℕ)) (kept zs is sizes_new gone : List ℕ) (growth : IsGrowth b holds others is) where
    abbrev rs : List (ℕ × ℕ)
    rs = sizes_each b.known d.current kept zs

    abbrev ms : List Change
    ms = new_members w.next_name first count flags ((d.current, holds) ∷ others) is sizes_new

    abbrev u : World
    u = with_changes v (resizes_of rs)

    go_on : AllGoOn u ((d.current, holds) ∷ others)
    go_on = on s w d p e at lives live_now good_now sizes sound first count flags holds others kept zs is sizes_new gone growth

    there_now : IsThere (with_changes u ms) d.current
    there_now = (members_there u w.next_name first count flags ((d.current, holds) ∷ others) is sizes_new (on_there u ((d.current, holds) ∷ others) go_on)).0

    enough : (i : ℕ) (h : Held) → b.known.held d.current i ≡ Some h → IsEnough (with_changes u ms) d.current (i, h.holds)
    enough i h there =
        let x : held_in u.processes (d.current - 1) i ≡ Some h =
        ap (λ (ps : List Process). held_in ps (d.current - 1) i) (resizes_same v rs) ∙ held_there s w d p e at lives live_now good_now sizes sound d.current i h there in
        let y = members_still first count flags d.current holds others u w.next_name is sizes_new (d.current - 1) i h go_on x in
        (y.0, y.1, y.2.holds)

    sized_tell : IsCut b e.cpu gone → CanTellAll v (resized_members b.known d.current kept zs ++ (ms ++ dropped_members b.known d.current gone))
    sized_tell cut =
        subst (CanTellAll v) (sym (all_are s w d p e at lives live_now good_now sizes sound first count flags holds others kept zs is sizes_new gone growth))
        (tell_more v (resizes_of rs) (ms ++ drops_of d.current (drops_each b.known d.current gone)) (resizes_tell v rs)
        (tell_more u ms (drops_of d.current (drops_each b.known d.current gone))
        (members_tell u w.next_name first count flags ((d.current, holds) ∷ others) is sizes_new (on_there u ((d.current, holds) ∷ others) go_on))
        (drops_tell (with_changes u ms) d.current (drops_each b.known d.current gone) there_now (none_twice b.known d.current gone cut.apart) (enough_each (with_changes u ms) b.known d.current enough gone))))

  pub run_can_tell : RunMoves b e.cpu e.changes → CanTellAll v e.changes
  run_can_tell (NoRun is) = subst (CanTellAll v) (sym is) tt
  run_can_tell (RunMade region first count flags i z xs zs which positive growth is) = subst (CanTellAll v) (sym is) (made_tell region first count flags (i ∷ xs) (z ∷ zs) growth)
  run_can_tell (RunSized first count flags holds others kept sizes_old xs zs gone growth cut is) =
      subst (CanTellAll v) (sym is) (sized_tell first count flags holds others kept sizes_old xs zs gone growth cut)
