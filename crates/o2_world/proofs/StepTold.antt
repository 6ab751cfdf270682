-- A step keeps what is held told by the lines.
use Rattle.std.proofs.Common.{◌≡◌, ◌≢◌, ◌⊎◌, inl, inr, ℕ, zero, suc, ◌-◌, ◌<◌, ◌≤◌, ◌/◌, ◌==◌, ◌&&◌, Bool, true, false, List, [], ◌∷◌, map, length, replicate, Option}
use Rattle.std.proofs.Common.{Some, None, if◌then◌else◌, ap, sym, ◌∙◌, refl, arith, subst, slice_set}
use Rattle.std.specs.Prelude.{is_some, slice_get, flat_map}
use Rattle.std.proofs.lemmas.Bool.{false≢true}
use Rattle.o2_base.specs.Selectors.{selector_of}
use Rattle.o2_conf.specs.Dispatch.{Dispatch}
use Rattle.o2_isa.specs.View.{is_code}
use Rattle.o2_world.specs.Map.{get, put}
use Rattle.o2_world.specs.World.{World, Setting, Process, Segment, Held, HoldsBy, DropsBy, is_live}
use Rattle.o2_world.specs.Holders.{process_at, with_process}
use Rattle.o2_world.specs.Changes.{Change, Makes, Resizes, Locks, Marks, Holds, Drops, Finishes, Reserves, Frees, Names, fewer, hold_lines_of, with_change}
use Rattle.o2_world.specs.Known.{lives_at}
use Rattle.o2_world.specs.CallParts.{Before, Effect}
use Rattle.o2_world.specs.Effect.{effect}
use Rattle.o2_world.specs.Views.{segment_bytes}
use Rattle.o2_world.specs.Run.{before, worked, working, acted, after, step, chosen_step, is_over, next_dispatch, ready, with_word}
use Rattle.o2_world.specs.Sound.{HasGoodRegisters, has_rights, held_in, held_of}
use Rattle.o2_world.specs.Tied.{IsSound}
use Rattle.o2_world.specs.Reach.{came, went, one_if, tells_end, holds_of, holds_at, IsThere, CanTellAll, IsTold}
use Rattle.o2_world.specs.Moves.{AllMoves, IsHolder, Maker, OneNamed, OneRun, OwnMoves, Sharer, SomeShared, AreApart, AreOwn, Each, IsOwn, Moves, NoneMoves, OneAliased, OneLocked, OneMade, OneRemade, OneSized, SomeFreed}
use Rattle.o2_world.proofs.FitFrees.{at_each, each_among}
use Rattle.o2_world.proofs.FitShares.{changes_are, held_each, share, shares_of}
use Rattle.o2_world.proofs.Numbers.{at_place_of, number_some}
use Rattle.o2_world.proofs.OwnChanges.{moves_own}
use Rattle.o2_world.proofs.Reached.{came_append, came_times, moved_came, number_holds, one_told, selector_is, went_times}
use Rattle.o2_world.proofs.RowsTold.{IsToldBy, effect_told}
use Rattle.o2_world.proofs.RunReach.{told_after_step}
use Rattle.o2_world.proofs.StepMoves.{effect_moves}
use Rattle.o2_world.proofs.StepReach.{own_at, same_at}
use Rattle.o2_world.proofs.Words.{ready_keeps, ready_stays}
use Rattle.o2_world.proofs.Discarding.{ready_sound}
use Rattle.o2_world.proofs.StepSound.{next_process, step_sound}
use Rattle.o2_world.proofs.Telling.{below, number_length, there_behind}
use Rattle.o2_world.proofs.TiedWorld.{still_live}
use Rattle.o2_world.proofs.GoodRegisters.{effect_ruled, good_after}
use Rattle.o2_world.proofs.Sizes.{effect_sizes}
use Rattle.o2_world.proofs.RunParts.{AllBy, run_parts}
use Rattle.o2_world.proofs.RunsTold.{run_can_tell}

-- Drops of what is held can be told.

still_there : (w : World) (n i : ℕ) → IsThere w n → IsThere (with_change w (Drops n i 1)) n
still_there w n i there = (there.0, let l = number_length n (λ (p : Process). record p { held = put i (fewer 1 (get p.held i)) p.held }) w.processes in let h = there.1 in omega (arith, l, h))

not_same : (i j : ℕ) → i ≢ j → (i == j) ≡ false
not_same i j other = go (i == j) refl
  where
    is_same : (i j : ℕ) → (i == j) ≡ true → i ≡ j
    is_same i j e = grind arith

    go : (b : Bool) → (i == j) ≡ b → (i == j) ≡ false
    go true e = absurd (other (is_same i j e))
    go false e = e

-- one drop leaves other indexes as they are
still_held : (w : World) (n i j : ℕ) → IsThere w n → 1 ≤ holds_at w n i → i ≢ j → 1 ≤ holds_at w n j → 1 ≤ holds_at (with_change w (Drops n i 1)) n j
still_held w n i j there held other some =
    let one = one_told [] w (Drops n i 1) (there, held) n j there.0 in
    let none : went (replicate 1 (DropsBy n (selector_of i) [])) n (selector_of j) ≡ 0 =
    went_times 1 (DropsBy n (selector_of i) []) n (selector_of j) false (apart (n == n) (selector_of j == selector_of i) (selector_is j i ∙ not_same i j other)) in
    let a = number_holds w n j there.0 in
    let b = number_holds (with_change w (Drops n i 1)) n j there.0 in
    omega (arith, one, none, a, b, some)
  where
    apart : (x y : Bool) → y ≡ false → one_if (x && y) ≡ 0
    apart x true e = absurd (false≢true (sym e))
    apart true false e = refl
    apart false false e = refl

each_held : (w : World) (n i : ℕ) (is : List ℕ) → IsThere w n → 1 ≤ holds_at w n i → Each (λ (j : ℕ). i ≢ j) is → Each (λ (j : ℕ). 1 ≤ holds_at w n j) is
    → Each (λ (j : ℕ). 1 ≤ holds_at (with_change w (Drops n i 1)) n j) is
each_held w n i [] there held others some = tt
each_held w n i (j ∷ is) there held others some = (still_held w n i j there held others.0 some.0, each_held w n i is there held others.1 some.1)

drops_tell : (w : World) (n : ℕ) (is : List ℕ) → IsThere w n → AreApart is → Each (λ (j : ℕ). 1 ≤ holds_at w n j) is
    → CanTellAll w (map (λ (i : ℕ). Drops n i 1) is)
drops_tell w n [] there apart held = tt
drops_tell w n (i ∷ is) there apart held =
    ((there, held.0), drops_tell (with_change w (Drops n i 1)) n is (still_there w n i there) apart.1 (each_held w n i is there held.0 apart.0 held.1))

put_length : (k : ℕ) (x : Process) (qs : List Process) → length (slice_set qs k x) ≡ length qs
put_length k x [] = refl
put_length zero x (q ∷ qs) = refl
put_length (suc k) x (q ∷ qs) = ap suc (put_length k x qs)

set_length : (ps : List Process) (n : ℕ) (x : Process) → length (with_process ps n x) ≡ length ps
set_length ps n x = go (n == 0)
  where
    go : (b : Bool) → length (if b then ps else slice_set ps (n - 1) x) ≡ length ps
    go true = refl
    go false = put_length (n - 1) x ps

-- Changes give no hold to a process that isn't among those to whom they give some.

abbrev GivesTo : (ℕ → Type 0) → Change → Type 0
GivesTo P (Makes g) = Unit {0}
GivesTo P (Resizes m size) = Unit {0}
GivesTo P (Locks m count) = Unit {0}
GivesTo P (Marks m d) = Unit {0}
GivesTo P (Holds p i h) = P p
GivesTo P (Drops p i count) = Unit {0}
GivesTo P (Finishes p state) = Unit {0}
GivesTo P (Reserves r) = Unit {0}
GivesTo P (Frees r first) = Unit {0}
GivesTo P (Names text m) = Unit {0}

abbrev AllGiveTo : (ℕ → Type 0) → List Change → Type 0
AllGiveTo P [] = Unit {0}
AllGiveTo P (c ∷ cs) = GivesTo P c × AllGiveTo P cs

own_gives : (P : ℕ → Type 0) (n : ℕ) (c : Change) → P n → IsOwn n c → GivesTo P c
own_gives P n (Makes g) here own = tt
own_gives P n (Resizes m size) here own = tt
own_gives P n (Locks m count) here own = tt
own_gives P n (Marks m d) here own = tt
own_gives P n (Holds p i h) here own = subst P (sym own) here
own_gives P n (Drops p i count) here own = tt
own_gives P n (Finishes p state) here own = tt
own_gives P n (Reserves r) here own = tt
own_gives P n (Frees r first) here own = tt
own_gives P n (Names text m) here own = tt

all_own_give : (P : ℕ → Type 0) (n : ℕ) (cs : List Change) → P n → AreOwn n cs → AllGiveTo P cs
all_own_give P n [] here own = tt
all_own_give P n (c ∷ cs) here own = (own_gives P n c here own.0, all_own_give P n cs here own.1)

gives_more : (P Q : ℕ → Type 0) → ((n : ℕ) → P n → Q n) → (c : Change) → GivesTo P c → GivesTo Q c
gives_more P Q f (Makes g) give = tt
gives_more P Q f (Resizes m size) give = tt
gives_more P Q f (Locks m count) give = tt
gives_more P Q f (Marks m d) give = tt
gives_more P Q f (Holds p i h) give = f p give
gives_more P Q f (Drops p i count) give = tt
gives_more P Q f (Finishes p state) give = tt
gives_more P Q f (Reserves r) give = tt
gives_more P Q f (Frees r first) give = tt
gives_more P Q f (Names text m) give = tt

give_more : (P Q : ℕ → Type 0) → ((n : ℕ) → P n → Q n) → (cs : List Change) → AllGiveTo P cs → AllGiveTo Q cs
give_more P Q f [] give = tt
give_more P Q f (c ∷ cs) give = (gives_more P Q f c give.0, give_more P Q f cs give.1)

give_by : (P : ℕ → Type 0) (cs : List Change) → AllBy (GivesTo P) cs → AllGiveTo P cs
give_by P [] all = tt
give_by P (c ∷ cs) all = (all.0, give_by P cs all.1)

shares_give : (P : ℕ → Type 0) (to : ℕ) (ss : List (ℕ × Held)) → P to → AllGiveTo P (shares_of to ss)
shares_give P to [] here = tt
shares_give P to (s ∷ ss) here = (here, shares_give P to ss here)

other_comes : (q n : ℕ) (h : Held) (i s : ℕ) (cause : List ℕ) → (q == n) ≡ false → came (replicate h.holds (HoldsBy n (selector_of i) cause)) q s ≡ 0
other_comes q n h i s cause other = came_times h.holds (HoldsBy n (selector_of i) cause) q s false (ap (λ (b : Bool). one_if (b && (s == selector_of i))) other)

one_comes : (cause : List ℕ) (c : Change) (q s : ℕ) → GivesTo (λ (p : ℕ). (q == p) ≡ false) c → came (hold_lines_of cause c) q s ≡ 0
one_comes cause (Holds p i h) q s other = other_comes q p h i s cause other
one_comes cause (Makes g) q s other = refl
one_comes cause (Resizes m size) q s other = refl
one_comes cause (Locks m count) q s other = refl
one_comes cause (Marks m d) q s other = refl
one_comes cause (Drops p i count) q s other = refl
one_comes cause (Finishes p state) q s other = refl
one_comes cause (Reserves r) q s other = refl
one_comes cause (Frees r first) q s other = refl
one_comes cause (Names text m) q s other = refl

none_come : (cause : List ℕ) (cs : List Change) (q s : ℕ) → AllGiveTo (λ (p : ℕ). (q == p) ≡ false) cs → came (flat_map (hold_lines_of cause) cs) q s ≡ 0
none_come cause [] q s other = refl
none_come cause (c ∷ cs) q s other =
    let a = came_append (hold_lines_of cause c) (flat_map (hold_lines_of cause) cs) q s in
    let x = one_comes cause c q s other.0 in
    let y = none_come cause cs q s other.1 in
    omega (arith, a, x, y)

-- holds more of a process that is there can be told

shares_tell : (w : World) (to : ℕ) (ss : List (ℕ × Held)) → IsThere w to → CanTellAll w (shares_of to ss)
shares_tell w to [] there = tt
shares_tell w to (s ∷ ss) there = (there, shares_tell (with_change w (Holds to s.0 (share s.1))) to ss (there_behind w to to s.0 (share s.1) there))

module _ (s : Setting) (w : World) (p : Process) (d : Dispatch) (at : process_at w.processes d.current ≡ Some p) (lives : is_live p.state ≡ true) (sound : IsSound w) (told : IsTold w) where
  abbrev b : Before
  b = before s w d.current p

  abbrev e : Effect
  e = effect b

  abbrev v : World
  v = worked w d p e

  some : 0 < d.current
  some = number_some w.processes d.current p at

  here : held_of (slice_get w.processes (d.current - 1)) ≡ held_of (Some p)
  here = ap held_of (at_place_of w.processes d.current p at)

  -- what the process holds it holds at least once
  held_some : (i : ℕ) (h : Held) → get p.held i ≡ Some h → 1 ≤ holds_at w d.current i
  held_some i h there =
      let x : held_in w.processes (d.current - 1) i ≡ Some h = ap (λ (f : ℕ → Option Held). f i) here ∙ there in
      let y = (sound.tied.held (d.current - 1) i h x).1 in
      let z = number_holds w d.current i some in
      let u : holds_of (held_in w.processes (d.current - 1) i) ≡ h.holds = ap holds_of x in
      omega (arith, y, z, u)

  same_holds : (i : ℕ) → holds_at v d.current i ≡ holds_at w d.current i
  same_holds i =
      number_holds v d.current i some ∙ ap holds_of (same_at w.processes d.current p (working p e) (d.current - 1) i at refl) ∙ sym (number_holds w d.current i some)

  there_now : IsThere v d.current
  there_now = (some, let h = below v.processes (d.current - 1) (working p e) (at_place_of v.processes d.current (working p e) (own_at w.processes d.current p (working p e) at)) in let z = some in omega (arith, h, z))

  -- who lives has not ended: it holds its code
  lives_on : (n : ℕ) (x : Process) → process_at w.processes n ≡ Some x → is_live x.state ≡ true → tells_end w.lines n ≡ false
  lives_on n x there live = go (tells_end w.lines n) refl
    where
      here : 0 < n
      here = number_some w.processes n x there

      code : (o : Option Held) → get x.held (x.cpu.cs / 8) ≡ o → has_rights is_code o ≡ true → 1 ≤ holds_at w n (x.cpu.cs / 8)
      code None f g = absurd (false≢true g)
      code (Some h) f g =
          let y : held_in w.processes (n - 1) (x.cpu.cs / 8) ≡ Some h = ap (λ (o : Option Process). held_of o (x.cpu.cs / 8)) (at_place_of w.processes n x there) ∙ f in
          let z = (sound.tied.held (n - 1) (x.cpu.cs / 8) h y).1 in
          let t = number_holds w n (x.cpu.cs / 8) here in
          let u : holds_of (held_in w.processes (n - 1) (x.cpu.cs / 8)) ≡ h.holds = ap holds_of y in
          omega (arith, z, t, u)

      go : (t : Bool) → tells_end w.lines n ≡ t → tells_end w.lines n ≡ false
      go true f =
          let good = sound.tied.registers (n - 1) x (at_place_of w.processes n x there) live in
          let y = code (get x.held (x.cpu.cs / 8)) refl good.cs.1 in
          let z = told.ended n (x.cpu.cs / 8) here f in
          absurd (omega (arith, y, z))
      go false f = f

  goes_on : tells_end w.lines d.current ≡ false
  goes_on = lives_on d.current p at lives

  -- who gets what another holds has not ended, and is there
  shared_on : (to : ℕ) → (to ≡ b.number) ⊎ (b.known.lives to ≡ true) → tells_end w.lines to ≡ false
  shared_on to (inl same) = ap (tells_end w.lines) same ∙ goes_on
  shared_on to (inr so) = go (process_at w.processes to) refl
    where
      go : (o : Option Process) → process_at w.processes to ≡ o → tells_end w.lines to ≡ false
      go None f = absurd (false≢true (sym (ap lives_at f) ∙ so))
      go (Some x) f = lives_on to x f (sym (ap lives_at f) ∙ so)

  shared_there : (to : ℕ) → (to ≡ b.number) ⊎ (b.known.lives to ≡ true) → IsThere v to
  shared_there to (inl same) = subst (IsThere v) (sym same) there_now
  shared_there to (inr so) = go (process_at w.processes to) refl
    where
      go : (o : Option Process) → process_at w.processes to ≡ o → IsThere v to
      go None f = absurd (false≢true (sym (ap lives_at f) ∙ so))
      go (Some x) f =
          let z = number_some w.processes to x f in
          let y = below w.processes (to - 1) x (at_place_of w.processes to x f) in
          let l = set_length w.processes d.current (working p e) in
          (z, omega (arith, y, l, z))

  can_tell : Moves b e.cpu e.changes → CanTellAll v e.changes
  can_tell (NoneMoves is) = subst (CanTellAll v) (sym is) tt
  can_tell (OneMade size flags i free is) = subst (CanTellAll v) (sym is) (tt, (there_now, tt))
  can_tell (OneSized name size alone is) = subst (CanTellAll v) (sym is) (tt, tt)
  can_tell (OneRemade name size alone is) = subst (CanTellAll v) (sym is) (tt, (tt, (tt, tt)))
  can_tell (OneLocked name count lockable is) = subst (CanTellAll v) (sym is) (tt, tt)
  can_tell (OneAliased index i h there alone free is) = subst (CanTellAll v) (sym is) (there_now, tt)
  can_tell (SomeFreed xs frees is) =
      subst (CanTellAll v) (sym is) (drops_tell v d.current xs there_now frees.apart
      (each_among (λ (j : ℕ). 1 ≤ holds_at v d.current j) xs
      (λ j among. subst (λ (k : ℕ). 1 ≤ k) (sym (same_holds j))
      (freed j (get p.held j) refl (at_each (λ (i : ℕ). is_some (b.known.held b.number i) ≡ true) xs j frees.held among)))))
    where
      freed : (j : ℕ) (o : Option Held) → get p.held j ≡ o → is_some (b.known.held b.number j) ≡ true → 1 ≤ holds_at w d.current j
      freed j None f g = absurd (false≢true (sym (ap is_some (ap (λ (x : Option Process). held_of x j) at ∙ f)) ∙ g))
      freed j (Some h) f g = held_some j h f

  -- who holds something has not ended
  holder_on : (n i : ℕ) (h : Held) → b.known.held n i ≡ Some h → tells_end w.lines n ≡ false
  holder_on n i h held = go (process_at w.processes n) refl held
    where
      not_yet : (x : Process) → process_at w.processes n ≡ Some x → get x.held i ≡ Some h → (t : Bool) → tells_end w.lines n ≡ t → tells_end w.lines n ≡ false
      not_yet x there has true f =
          let here = number_some w.processes n x there in
          let y : held_in w.processes (n - 1) i ≡ Some h = ap (λ (o : Option Process). held_of o i) (at_place_of w.processes n x there) ∙ has in
          let z = (sound.tied.held (n - 1) i h y).1 in
          let t = number_holds w n i here in
          let u : holds_of (held_in w.processes (n - 1) i) ≡ h.holds = ap holds_of y in
          let none = told.ended n i here f in
          absurd (omega (arith, z, t, u, none))
      not_yet x there has false f = f

      go : (o : Option Process) → process_at w.processes n ≡ o → held_of o i ≡ Some h → tells_end w.lines n ≡ false
      go None f g = absurd (cc)
      go (Some x) f g = not_yet x f g (tells_end w.lines n) refl

  run_holder_on : (q : ℕ × ℕ) → IsHolder b q → tells_end w.lines q.0 ≡ false
  run_holder_on q (Maker same one) = ap (tells_end w.lines) same ∙ goes_on
  run_holder_on q (Sharer index held there holds) = holder_on q.0 index held there

  -- the step leaves good registers, and each name its size
  sizes : (q : ℕ) (x : Segment) → get w.names q ≡ Some x → length (e.bytes q) ≡ length x.bytes
  sizes q x there = effect_sizes b q ∙ ap (λ (o : Option Segment). length (segment_bytes o)) there

  good : HasGoodRegisters (working p e)
  good = good_after w.names p e.cpu (working p e).state (sound.tied.registers (d.current - 1) p (at_place_of w.processes d.current p at) lives) (effect_ruled b)

  still : is_live (working p e).state ≡ true
  still = still_live w d p e at lives good sizes

  all_can_tell : AllMoves b e.cpu e.changes → CanTellAll v e.changes
  all_can_tell (OwnMoves moves) = can_tell moves
  all_can_tell (OneNamed size i name free is) = subst (CanTellAll v) (sym is) (tt, (there_now, (tt, tt)))
  all_can_tell (SomeShared from to xs shares is) =
      subst (CanTellAll v) (sym (is ∙ changes_are b.known from to xs shares.shared)) (shares_tell v to (held_each b.known from xs shares.shared) (shared_there to shares.lives))
  all_can_tell (OneRun moves ruled) = run_can_tell s w d p e at lives still good sizes sound moves

  -- holds come to processes alone that have not ended
  gives : AllMoves b e.cpu e.changes → AllGiveTo (λ (n : ℕ). tells_end w.lines n ≡ false) e.changes
  gives (OwnMoves moves) = all_own_give (λ (n : ℕ). tells_end w.lines n ≡ false) d.current e.changes goes_on (moves_own b e.cpu e.changes moves)
  gives (OneNamed size i name free is) = subst (AllGiveTo (λ (n : ℕ). tells_end w.lines n ≡ false)) (sym is) (tt, (goes_on, (tt, tt)))
  gives (SomeShared from to xs shares is) =
      subst (AllGiveTo (λ (n : ℕ). tells_end w.lines n ≡ false)) (sym (is ∙ changes_are b.known from to xs shares.shared))
      (shares_give (λ (n : ℕ). tells_end w.lines n ≡ false) to (held_each b.known from xs shares.shared) (shared_on to shares.lives))
  gives (OneRun moves ruled) =
      let P : ℕ → Type 0 = λ (n : ℕ). tells_end w.lines n ≡ false in
      give_by P e.changes
      (run_parts b (GivesTo P) (record {
        makes = λ size flags. tt;
        resizes = λ m size. tt;
        holds = λ q i h holder. run_holder_on q holder;
        drops = λ i count. tt;
        reserves = λ region first count which. tt;
      }) e.cpu e.changes moves)

  -- a process that has ended gets nothing
  gives_none : (q i : ℕ) → tells_end w.lines q ≡ true → came e.lines q (selector_of i) ≡ 0
  gives_none q i ended =
      t.tells.came_by q (selector_of i)
      ∙ moved_came t.tells.cause e.changes q (selector_of i)
      ∙ none_come t.tells.cause e.changes q (selector_of i) (all_others e.changes (gives (effect_moves b)))
    where
      t : IsToldBy d.current e
      t = effect_told b

      is_same : (n m : ℕ) → (n == m) ≡ true → n ≡ m
      is_same n m f = grind arith

      not_it : (n : ℕ) → tells_end w.lines n ≡ false → (q == n) ≡ false
      not_it n goes = go (q == n) refl
        where
          go : (x : Bool) → (q == n) ≡ x → (q == n) ≡ false
          go true f = absurd (false≢true (sym goes ∙ ap (tells_end w.lines) (sym (is_same q n f)) ∙ ended))
          go false f = f

      all_others : (cs : List Change) → AllGiveTo (λ (n : ℕ). tells_end w.lines n ≡ false) cs → AllGiveTo (λ (n : ℕ). (q == n) ≡ false) cs
      all_others cs give = give_more (λ (n : ℕ). tells_end w.lines n ≡ false) (λ (n : ℕ). (q == n) ≡ false) not_it cs give

  pub acted_told : IsTold (acted s w d (Some p))
  acted_told =
      let t : IsToldBy d.current e = effect_told b in
      told_after_step w d p e at (all_can_tell (effect_moves b)) t.tells some t.ends gives_none told

chosen_told : (s : Setting) (w : World) → is_over w ≡ false → IsSound w → IsTold w → IsTold (chosen_step s w)
chosen_told s w runs sound told =
    let here = next_process s w runs in
    subst (λ (o : Option Process). IsTold (acted s w (next_dispatch s w) o)) (sym here.1) (acted_told s w here.0 (next_dispatch s w) here.1 (ap is_live here.2) sound told)

-- a word tells nothing and changes no hold
word_told : (w : World) → IsTold w → IsTold (with_word w)
word_told w told = record { live = told.live; ended = told.ended }

pub step_told : (s : Setting) (w : World) → IsSound w → IsTold w → IsTold (step s w)
unfolding step
step_told s w sound told = go (is_over w) refl
  where
    go : (b : Bool) → is_over w ≡ b → IsTold (if b then w else chosen_step s (ready w))
    go true over = told
    go false runs = chosen_told s (ready w) ((ready_stays w).over ∙ runs) (ready_sound w sound) (ready_keeps {P = IsTold} word_told w told)

-- what each step keeps holds along the run
pub along : {P : World → Type 0} (s : Setting) → ((w : World) → P w → P (step s w)) → (w : World) → P w → (k : ℕ) → P (after s w k)
along s keeps w first zero = first
along {P} s keeps w first (suc k) = keeps (after s w k) (along {P = P} s keeps w first k)

-- and so both do
pub told_along : (s : Setting) (w : World) → IsSound w → IsTold w → (k : ℕ) → IsSound (after s w k) × IsTold (after s w k)
told_along s w sound told k = along {P = λ (x : World). IsSound x × IsTold x} s (λ x both. (step_sound s x both.0, step_told s x both.0 both.1)) w (sound, told) k
