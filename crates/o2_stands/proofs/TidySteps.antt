-- Each step keeps a world tidy.
use Rattle.std.proofs.Common.{◌≡◌, ◌≢◌, ◌⊎◌, inl, inr, ℕ, ◌+◌, ◌-◌, ◌<◌, ◌≤◌, Bool, true, false, IsSome, length, ◌||◌, List, [], ◌∷◌, ◌++◌, map, Option, Some, None, if◌then◌else◌, ap, sym, ◌∙◌, refl, arith, subst}
use Rattle.std.specs.Prelude.{is_some, nat_lt, option_map, slice_get, ◌==◌}
use Rattle.std.specs.List.{list_any}
use Rattle.std.proofs.lemmas.Bool.{cases_eq, cases_lt, false≢true}
use Rattle.o2_regions.specs.declared.held.Region.TheVariants.{Private, Shared}
use Rattle.o2_world.specs.declared.types.State.{State}
use Rattle.o2_conf.specs.Dispatch.{Dispatch}
use Rattle.o2_isa.specs.declared.cpu.Cpu.{Cpu}
use Rattle.o2_world.specs.declared.types.State.TheVariants.{Live}
use Rattle.o2_world.specs.World.{World, Setting, Held, Process, Reserve, Segment, is_live, Cause, ByLoad, ByCall, ByAlias}
use Rattle.o2_world.specs.Views.{segment_bytes}
use Rattle.o2_world.specs.Holders.{process_at}
use Rattle.o2_world.specs.Changes.{Change, Drops, Finishes, Frees, Holds, Locks, Makes, Marks, Names, Reserves, Resizes, at_number, at_place, marked, with_change, with_changes}
use Rattle.o2_world.specs.Known.{held_at, holds_index, lives_at, reserves}
use Rattle.o2_world.specs.CallParts.{Effect}
use Rattle.o2_world.specs.Run.{acted, all_changes, before, changed, chosen_step, is_over, next_dispatch, ready, step, with_word, worked, working}
use Rattle.o2_world.specs.Discards.{behind_discard, goes}
use Rattle.o2_world.specs.Sound.{held_of}
use Rattle.o2_world.specs.Tied.{AreFitChanges, IsSound}
use Rattle.o2_world.specs.Map.{get}
use Rattle.o2_world.proofs.Discarding.{get_discarded, lives_still, ready_sound}
use Rattle.o2_world.proofs.MapLemmas.{get-map}
use Rattle.o2_world.proofs.TiedChanges.{zeros_length}
use Rattle.o2_world.proofs.Words.{ready_keeps, ready_stays}
use Rattle.o2_world.proofs.Reached.{get-place}
use Rattle.o2_world.proofs.StepReach.{end_changes, live_changes}
use Rattle.o2_world.proofs.TiedSteps.{changes_tied}
use Rattle.o2_world.proofs.TiedWorld.{with_more}
use Rattle.o2_world.specs.Moves.{IsFreeIndex, Moves, NoneMoves, OneAliased, OneLocked, OneMade, OneSized, SomeFreed, AllMoves, AreOfRuling, IsShared, OneNamed, OneRemade, OneRun, OwnMoves, SomeShared, Each}
use Rattle.o2_world.proofs.StepSound.{IsOrderly, acted_sound, all_fit, effect_orderly, next_process, worked_is_tied}
use Rattle.o2_stands.specs.Runs.{HasFullMembers, HasRunFlags, is_full, may_be_member}
use Rattle.o2_stands.specs.Stands.{IsTidy, is_by_load, is_stretch, number_of, region_at}
use Rattle.o2_world.specs.Rulings.{by_load, is_in_run}
use Rattle.o2_world.proofs.FitShares.{changes_are, held_each, share, shares_of}
use Rattle.o2_stands.specs.Tidies.{AreTidyChanges, IsHeldRight, IsTidyChange, coming}
use Rattle.o2_stands.proofs.Moves.{KeepSizes, tidy_written}
use Rattle.o2_stands.proofs.Once.{once_discarded}
use Rattle.o2_stands.proofs.Reserved.{or_right}
use Rattle.o2_stands.proofs.Running.{holds_same, tidy_same}
use Rattle.o2_stands.proofs.RunsKept.{runs_ended}
use Rattle.o2_stands.proofs.AsTidy.{IsAsTidy, Keeps}
use Rattle.o2_stands.proofs.RunRuled.{ruled_keeps}
use Rattle.o2_stands.proofs.RunSteps.{AreBehind, all_behind}
use Rattle.o2_stands.proofs.Tidying.{tidy_behind}
use Rattle.o2_stands.proofs.Worlds.{held_number, index_back, put_here, put_other, to_place}

-- The changes of a call.

drops_tidy : (v : World) (n : ℕ) (is : List ℕ) → AreTidyChanges v (map (λ (i : ℕ). Drops n i 1) is)
drops_tidy v n [] = tt
drops_tidy v n (i ∷ is) = (tt, drops_tidy (with_change v (Drops n i 1)) n is)

right_false : (a b : Bool) → (a || b) ≡ false → b ≡ false
right_false true b e = absurd (cc)
right_false false b e = e

left_false : (a b : Bool) → (a || b) ≡ false → a ≡ false
left_false true b e = absurd (cc)
left_false false b e = refl

low_is : (i : ℕ) → nat_lt i 4096 ≡ true → i < 4096
low_is i e = grind arith

high_is : (i : ℕ) → nat_lt i 4096 ≡ false → 4096 ≤ i
high_is i e = grind arith

not_low : (i : ℕ) → 4096 ≤ i → nat_lt i 4096 ≡ false
not_low i e = grind arith

-- an index that is free isn't reserved
free_reserves : (s : Setting) (w : World) (n i : ℕ) (p : Process) → IsFreeIndex (before s w n p).known n i → list_any (reserves (region_at n i) i) w.reserved ≡ false
free_reserves s w n i p free = go (nat_lt i 4096) refl
  where
    go : (b : Bool) → nat_lt i 4096 ≡ b → list_any (reserves (number_of (if b then Private n else Shared)) i) w.reserved ≡ false
    go true low = right_false (if n == 0 then holds_index w.processes i else is_some (held_at w.processes n i)) (list_any (reserves n i) w.reserved) (free.own (low_is i low))
    go false high = right_false (holds_index w.processes i) (list_any (reserves 0 i) w.reserved) (free.shared (high_is i high))

shared_region : (n m i : ℕ) → 4096 ≤ i → region_at n i ≡ region_at m i
shared_region n m i high = rw (not_low i high) refl

module _ (s : Setting) (w v : World) (n : ℕ) (p : Process) (reserved : v.reserved ≡ w.reserved) where
  -- a segment alone that a call gives at a free index
  new_right : (u : World) (more : List Reserve) (i : ℕ) (h : Held) → u.reserved ≡ w.reserved → IsFreeIndex (before s w n p).known n i → is_by_load h.cause ≡ false → is_in_run h ≡ false → IsHeldRight u.reserved more n i h
  new_right u more i h same free called alone = record {
    load = λ high load. absurd (false≢true (sym called ∙ load));
    run = λ run. absurd (false≢true (sym alone ∙ run));
    free = λ a other. ap (λ (rs : List Reserve). list_any (reserves (region_at n i) i) rs) same ∙ free_reserves s w n i p free;
  }

  moves_tidy : (cpu : Cpu) (cs : List Change) → Moves (before s w n p) cpu cs → AreTidyChanges v cs
  moves_tidy cpu cs (NoneMoves is) = subst (AreTidyChanges v) (sym is) tt
  moves_tidy cpu cs (OneMade size flags i free is) = subst (AreTidyChanges v) (sym is) (tt, ((λ none. new_right v [] i _ reserved free refl refl), tt))
  moves_tidy cpu cs (OneSized name size alone is) = subst (AreTidyChanges v) (sym is) (tt, tt)
  moves_tidy cpu cs (OneRemade name size alone is) = subst (AreTidyChanges v) (sym is) (tt, (tt, (tt, tt)))
  moves_tidy cpu cs (OneLocked name count lockable is) = subst (AreTidyChanges v) (sym is) (tt, tt)
  moves_tidy cpu cs (OneAliased index i h there alone free is) = subst (AreTidyChanges v) (sym is) ((λ none. new_right v [] i _ reserved free refl refl), tt)
  moves_tidy cpu cs (SomeFreed xs frees is) = subst (AreTidyChanges v) (sym is) (drops_tidy v n xs)

  same_cause : (c : Cause) → by_load c ≡ false → is_by_load c ≡ false
  same_cause ByLoad e = e
  same_cause ByCall e = refl
  same_cause ByAlias e = refl

  -- what a process gets of what another holds is reserved as that is
  share_right : IsTidy w.processes w.names w.reserved → (u : World) (more : List Reserve) → u.reserved ≡ w.reserved → (from to i : ℕ) (x : IsShared (before s w n p).known from i)
      → IsHeldRight u.reserved more to i (share x.held)
  share_right tidy u more same from to i x = record {
    load = λ high load. absurd (false≢true load);
    run = λ run. or_right (list_any (is_stretch (region_at to i) x.held.first x.held.reserved) more) _
        (ap (λ (rs : List Reserve). list_any (is_stretch (region_at to i) x.held.first x.held.reserved) rs) same
        ∙ (ap (λ (g : ℕ). list_any (is_stretch g x.held.first x.held.reserved) w.reserved) (shared_region to from i x.high) ∙ tidy.run from i x.held x.there run));
    free = λ alone other. ap (λ (rs : List Reserve). list_any (reserves (region_at to i) i) rs) same
        ∙ (ap (λ (g : ℕ). list_any (reserves g i) w.reserved) (shared_region to from i x.high) ∙ tidy.free from i x.held x.there alone (λ high. same_cause x.held.cause x.called));
  }

  shares_tidy : IsTidy w.processes w.names w.reserved → (u : World) → u.reserved ≡ w.reserved → (from to : ℕ) (xs : List ℕ) (shared : Each (IsShared (before s w n p).known from) xs)
      → AreTidyChanges u (shares_of to (held_each (before s w n p).known from xs shared))
  shares_tidy tidy u same from to [] shared = tt
  shares_tidy tidy u same from to (i ∷ xs) shared = (
    (λ none. share_right tidy u _ same from to i shared.0),
    shares_tidy tidy (with_change u (Holds to i (share shared.0.held))) same from to xs shared.1,
  )

  -- those of a run go by its ruling
  all_moves_tidy : IsTidy w.processes w.names w.reserved → ((cs : List Change) → AreOfRuling (before s w n p) cs → AreTidyChanges v cs) → (cpu : Cpu) (cs : List Change) → AllMoves (before s w n p) cpu cs → AreTidyChanges v cs
  all_moves_tidy tidy runs cpu cs (OwnMoves moves) = moves_tidy cpu cs moves
  all_moves_tidy tidy runs cpu cs (OneNamed size i name free is) = subst (AreTidyChanges v) (sym is) (tt, ((λ none. new_right v [] i _ reserved free refl refl), (tt, tt)))
  all_moves_tidy tidy runs cpu cs (SomeShared from to xs shares is) =
      subst (AreTidyChanges v) (sym (is ∙ changes_are (before s w n p).known from to xs shares.shared)) (shares_tidy tidy v reserved from to xs shares.shared)
  all_moves_tidy tidy runs cpu cs (OneRun moves ruled) = runs cs ruled

-- One change more, where the earlier ones reserve nothing that was yet to come.
coming_more : (xs : List Change) (p : ℕ) (state : State) → coming (xs ++ Finishes p state ∷ []) ≡ coming xs
coming_more [] p state = refl
coming_more (Makes s ∷ xs) p state = coming_more xs p state
coming_more (Resizes m size ∷ xs) p state = coming_more xs p state
coming_more (Locks m count ∷ xs) p state = coming_more xs p state
coming_more (Marks m discarded ∷ xs) p state = coming_more xs p state
coming_more (Holds q j x ∷ xs) p state = coming_more xs p state
coming_more (Drops q j count ∷ xs) p state = coming_more xs p state
coming_more (Finishes q other ∷ xs) p state = coming_more xs p state
coming_more (Reserves r ∷ xs) p state = ap (λ (rs : List Reserve). r ∷ rs) (coming_more xs p state)
coming_more (Frees region first ∷ xs) p state = coming_more xs p state
coming_more (Names text name ∷ xs) p state = coming_more xs p state

tidy_more : (v : World) (xs : List Change) (p : ℕ) (state : State) → AreTidyChanges v xs → AreTidyChanges v (xs ++ Finishes p state ∷ [])
tidy_more v [] p state tidies = (tt, tt)
tidy_more v (x ∷ xs) p state tidies =
    (subst (λ (rs : List Reserve). IsTidyChange rs v x) (sym (coming_more xs p state)) tidies.0, tidy_more (with_change v x) xs p state tidies.1)

all_tidy : (v : World) (n : ℕ) (e : Effect) → AreTidyChanges v e.changes → AreTidyChanges v (all_changes n e)
all_tidy v n e tidies = go (is_live e.state)
  where
    go : (b : Bool) → AreTidyChanges v (if b then e.changes else e.changes ++ Finishes n e.state ∷ [])
    go true = tidies
    go false = tidy_more v e.changes n e.state tidies

-- Who has ended holds nothing in runs.

finish_held : (ps : List Process) (n : ℕ) (state : State) (q j : ℕ) → held_at (at_number n (λ (x : Process). record x { state = state; held = [] }) ps) q j ≡ (if q == n then None else held_at ps q j)
finish_held ps n state q j = go (n == 0) refl (q == 0) refl
  where
    f : Process → Process
    f x = record x { state = state; held = [] }

    equal : (a b : ℕ) → (a == b) ≡ true → a ≡ b
    equal a b e = grind arith

    zeros : (q n : ℕ) → (n == 0) ≡ true → (q == n) ≡ (q == 0)
    zeros q n e = grind arith

    before : (q n : ℕ) → (n == 0) ≡ false → (q == 0) ≡ false → (q - 1 == n - 1) ≡ (q == n)
    before q n e f = grind arith

    not_zero : (q n : ℕ) → (n == 0) ≡ false → (q == 0) ≡ true → (q == n) ≡ false
    not_zero q n e f = grind arith

    idle : (a : Bool) → held_of (if a then None else slice_get ps (q - 1)) j ≡ (if a then None else held_of (if a then None else slice_get ps (q - 1)) j)
    idle true = refl
    idle false = refl

    mapped : (c : Bool) (o : Option Process) → held_of (if c then option_map f o else o) j ≡ (if c then None else held_of o j)
    mapped true None = refl
    mapped true (Some x) = refl
    mapped false o = refl

    go : (a : Bool) → (n == 0) ≡ a → (b : Bool) → (q == 0) ≡ b
        → held_of (if b then None else slice_get (if a then ps else at_place (n - 1) f ps) (q - 1)) j ≡ (if q == n then None else held_of (if b then None else slice_get ps (q - 1)) j)
    go true e true g = rw (zeros q n e, g) refl
    go true e false g = rw (zeros q n e, g) refl
    go false e true g = rw (not_zero q n e g) refl
    go false e false g =
        ap (λ (o : Option Process). held_of o j) (get-place (n - 1) (q - 1) f ps)
        ∙ (ap (λ (c : Bool). held_of (if c then option_map f (slice_get ps (q - 1)) else slice_get ps (q - 1)) j) (before q n e g)
        ∙ mapped (q == n) (slice_get ps (q - 1)))

ended_behind : (u : World) (n : ℕ) (state : State) → AreBehind u → AreBehind (with_change u (Finishes n state))
ended_behind u n state behind = record {
  runs = runs_ended (held_at u.processes) (held_at (with_change u (Finishes n state)).processes) n (finish_held u.processes n state) behind.runs;
  flags = record { each = λ q j h m. behind.flags.each q j h (record { there = was q j h (q == n) refl m.there; run = m.run }) };
  full = record {
    each = λ q j h m s some. behind.full.each q j h (record { there = was q j h (q == n) refl m.there; run = m.run }) s (held_on q (j + 1) (held_at (with_change u (Finishes n state)).processes q (j + 1)) refl some);
  };
}
  where
    was : (q j : ℕ) (h : Held) (b : Bool) → (q == n) ≡ b → held_at (with_change u (Finishes n state)).processes q j ≡ Some h → held_at u.processes q j ≡ Some h
    was q j h true e there = absurd (let z : None ≡ Some h = sym (finish_held u.processes n state q j ∙ (rw e refl)) ∙ there in cc)
    was q j h false e there = sym (finish_held u.processes n state q j ∙ (rw e refl)) ∙ there

    held_on : (q j : ℕ) (o : Option Held) → held_at (with_change u (Finishes n state)).processes q j ≡ o → IsSome o → IsSome (held_at u.processes q j)
    held_on q j None e some = absurd (false≢true some)
    held_on q j (Some h) e some = ap is_some (was q j h (q == n) refl e)

-- A step.

module _ (s : Setting) (w : World) (p : Process) (at : process_at w.processes (next_dispatch s w).current ≡ Some p) (live : p.state ≡ Live) (sound : IsSound w)
    (e : Effect) (orderly : IsOrderly (before s w (next_dispatch s w).current p) e) (tidy : IsTidy w.processes w.names w.reserved) where
  abbrev d : Dispatch
  d = next_dispatch s w

  abbrev v : World
  v = worked w d p e

  both_live : is_live (working p e).state ≡ is_live p.state
  both_live = go (is_live e.state) refl
    where
      go : (b : Bool) → is_live e.state ≡ b → is_live (if b then e.state else p.state) ≡ is_live p.state
      go true is = is ∙ sym (ap is_live live)
      go false is = refl

  sizes : KeepSizes w.names e.bytes
  sizes = record { each = λ q x there. orderly.sizes q ∙ ap (λ (o : Option Segment). length (segment_bytes o)) there }

  tidy_now : IsTidy v.processes v.names v.reserved
  tidy_now =
      tidy_written v.processes w.names w.reserved e.bytes sizes
      (tidy_same w.processes d.current p (working p e) at refl w.names w.reserved both_live tidy)

  same_holds : (q j : ℕ) → held_at v.processes q j ≡ held_at w.processes q j
  same_holds q j = holds_same w.processes d.current p (working p e) at refl q j

  own_there : (m : ℕ) → m ≡ d.current → (x : Process) × (process_at v.processes m ≡ Some x)
  own_there m same = (working p e, ap (process_at v.processes) same ∙ put_here w.processes d.current p (working p e) at)

  exists : (m : ℕ) → (m ≡ d.current) ⊎ ((before s w d.current p).known.lives m ≡ true) → (x : Process) × (process_at v.processes m ≡ Some x)
  exists m (inl same) = own_there m same
  exists m (inr lives) = go (process_at w.processes m) refl lives
    where
      go : (o : Option Process) → process_at w.processes m ≡ o → lives_at o ≡ true → (x : Process) × (process_at v.processes m ≡ Some x)
      go None at_m f = absurd (false≢true f)
      go (Some x) at_m f = elim (cases_eq m d.current) [
        | inl same ↦ own_there m same
        | inr apart ↦ (x, put_other w.processes d.current p (working p e) at m apart ∙ at_m)
      ]

  fresh : (q j : ℕ) (h : Held) → held_at w.processes q j ≡ Some h → h.name ≢ w.next_name
  fresh q j h there same =
      let lives = (sound.tied.held (q - 1) j h (to_place w.processes q j h there)).0 in
      let low = sound.tied.below h.name lives in
      absurd (omega (arith, low, same))

  unheld : (i : ℕ) → IsFreeIndex (before s w d.current p).known d.current i → held_at w.processes d.current i ≡ None
  unheld i free = go (held_at w.processes d.current i) refl
    where
      low_free : (h : Held) → held_at w.processes d.current i ≡ Some h → i < 4096 → ⊥
      low_free h there low =
          let some : (d.current == 0) ≡ false = above d.current (held_number w.processes d.current i h there) in
          let x : (is_some (held_at w.processes d.current i) || list_any (reserves d.current i) w.reserved) ≡ false =
          sym (ap (λ (b : Bool). (if b then holds_index w.processes i else is_some (held_at w.processes d.current i)) || list_any (reserves d.current i) w.reserved) some) ∙ free.own low in
          false≢true (sym (left_false (is_some (held_at w.processes d.current i)) _ x) ∙ ap is_some there)
        where
          above : (n : ℕ) → 0 < n → (n == 0) ≡ false
          above n h = grind arith

      high_free : (h : Held) → held_at w.processes d.current i ≡ Some h → 4096 ≤ i → ⊥
      high_free h there high =
          false≢true (sym (left_false (holds_index w.processes i) (list_any (reserves 0 i) w.reserved) (free.shared high))
          ∙ index_back w.processes (d.current - 1) i (ap is_some (to_place w.processes d.current i h there)))

      go : (o : Option Held) → held_at w.processes d.current i ≡ o → held_at w.processes d.current i ≡ None
      go None e = e
      go (Some h) e = absurd (elim (cases_lt i 4096) [
        | inl low ↦ low_free h e low
        | inr high ↦ high_free h e high
      ])

  -- members of runs have flags and sizes before the changes too
  flagged_now : HasRunFlags (held_at w.processes) v.names
  flagged_now = record { each = λ q j h m. tidy_now.flags.each q j h (record { there = same_holds q j ∙ m.there; run = m.run }) }

  fulled_now : HasFullMembers (held_at w.processes) v.names
  fulled_now = record {
    each = λ q j h m t some. tidy_now.full.each q j h (record { there = same_holds q j ∙ m.there; run = m.run }) t (subst (λ (o : Option Held). IsSome o) (sym (same_holds q (j + 1))) some);
  }

  same_full : (q : ℕ) → is_full (get v.names q) ≡ is_full (get w.names q)
  same_full q = ap is_full (get-map (λ (m : ℕ) (x : Segment). record x { bytes = e.bytes m }) w.names q) ∙ go (get w.names q) refl
    where
      go : (o : Option Segment) → get w.names q ≡ o → is_full (option_map (λ (x : Segment). record x { bytes = e.bytes q }) o) ≡ is_full o
      go None there = refl
      go (Some x) there = ap (λ (c : ℕ). c == 65536) (sizes.each q x there)

  -- the world before the changes is beside the tidy one
  as_tidy : IsAsTidy w v d.current p
  as_tidy = record {
    at = at;
    same = same_holds;
    reserved = refl;
    next = refl;
    there = λ m lives. go m (process_at w.processes m) refl lives;
    flagged = flagged_now;
    fulled = fulled_now;
    sizes = same_full;
    tied = sound.tied;
    tidy = tidy;
  }
    where
      go : (m : ℕ) (o : Option Process) → process_at w.processes m ≡ o → is_some o ≡ true → is_some (process_at v.processes m) ≡ true
      go m None at_m lives = absurd (false≢true lives)
      go m (Some x) at_m lives = elim (cases_eq m d.current) [
        | inl same ↦ ap is_some (own_there m same).1
        | inr apart ↦ ap is_some (put_other w.processes d.current p (working p e) at m apart ∙ at_m)
      ]

  ruled : (cs : List Change) → AreOfRuling (before s w d.current p) cs → Keeps v cs
  ruled cs r = ruled_keeps s w v d.current p as_tidy cs r

  fit_front : (u : World) (xs ys : List Change) → AreFitChanges u (xs ++ ys) → AreFitChanges u xs
  fit_front u [] ys fit = tt
  fit_front u (x ∷ xs) ys fit = (fit.0, fit_front (with_change u x) xs ys fit.1)

  fit : AreFitChanges v e.changes
  fit = go (is_live e.state) refl (all_fit s w p at live sound e orderly)
    where
      go : (b : Bool) → is_live e.state ≡ b → AreFitChanges v (all_changes d.current e) → AreFitChanges v e.changes
      go true is f = subst (AreFitChanges v) (live_changes d.current e is) f
      go false is f = fit_front v e.changes (Finishes d.current e.state ∷ []) (subst (AreFitChanges v) (end_changes d.current e is) f)

  behind : AreBehind (with_changes v e.changes)
  behind =
      all_behind s w v d.current p same_holds
      flagged_now fulled_now fresh refl sound.tied.texts exists
      (λ i free. free_reserves s w d.current i p free) unheld tidy (λ cs r. (ruled cs r).1) e.cpu e.changes orderly.moves
      (changes_tied v e.changes fit (worked_is_tied s w p at live sound e orderly))

  behind_all : AreBehind (with_changes v (all_changes d.current e))
  unfolding with_changes
  behind_all = go (is_live e.state) refl
    where
      go : (b : Bool) → is_live e.state ≡ b → AreBehind (with_changes v (all_changes d.current e))
      go true is = subst (λ (cs : List Change). AreBehind (with_changes v cs)) (sym (live_changes d.current e is)) behind
      go false is =
          subst (λ (cs : List Change). AreBehind (with_changes v cs)) (sym (end_changes d.current e is))
          (subst AreBehind (sym (with_more v e.changes (Finishes d.current e.state ∷ []))) (ended_behind (with_changes v e.changes) d.current e.state behind))

  pub acted_tidy : let u = changed w d p e in IsTidy u.processes u.names u.reserved
  unfolding changed
  acted_tidy =
      tidy_behind v (all_changes d.current e) (worked_is_tied s w p at live sound e orderly) (all_fit s w p at live sound e orderly)
      (all_tidy v d.current e (all_moves_tidy s w v d.current p refl tidy (λ cs r. (ruled cs r).0) e.cpu e.changes orderly.moves)) tidy_now (acted_sound s w p at live sound e orderly).swept
      behind_all.runs behind_all.flags behind_all.full

-- Each word `discard` of the script keeps a world tidy: what goes keeps its flags, its size and its holds.

member_still : (i : ℕ) (ps : List Process) (n : ℕ) (o : Option Segment) → may_be_member i (option_map (behind_discard ps n) o) ≡ may_be_member i o
member_still i ps n None = refl
member_still i ps n (Some s) = go (goes ps n s)
  where
    go : (b : Bool) → may_be_member i (Some (if b then marked true s else s)) ≡ may_be_member i (Some s)
    go true = refl
    go false = refl

full_still : (ps : List Process) (n : ℕ) (o : Option Segment) → is_full (option_map (behind_discard ps n) o) ≡ is_full o
full_still ps n None = refl
full_still ps n (Some s) = go (goes ps n s)
  where
    go : (b : Bool) → is_full (Some (if b then marked true s else s)) ≡ is_full (Some s)
    go true = ap (λ (size : ℕ). size == 65536) (zeros_length (length s.bytes))
    go false = refl

abbrev IsTidyWorld : World → Type 0
IsTidyWorld w = IsTidy w.processes w.names w.reserved

word_tidy : (w : World) → IsTidyWorld w → IsTidyWorld (with_word w)
word_tidy w t =
    let ps = w.processes in
    record {
      once = once_discarded ps w.names t.once;
      used = λ n e. t.used n (sym (lives_still ps w.names n) ∙ e);
      ended = t.ended;
      stay = t.stay;
      shared = t.shared;
      run = t.run;
      free = t.free;
      disjoint = t.disjoint;
      runs = t.runs;
      flags = record { each = λ n i h m. ap (may_be_member i) (get_discarded ps w.names h.name) ∙ member_still i ps h.name (get w.names h.name) ∙ t.flags.each n i h m };
      full = record { each = λ n i h m inside next. ap is_full (get_discarded ps w.names h.name) ∙ full_still ps h.name (get w.names h.name) ∙ t.full.each n i h m inside next };
    }

pub step_tidy : (s : Setting) (w : World) → IsSound w → IsTidy w.processes w.names w.reserved → let u = step s w in IsTidy u.processes u.names u.reserved
unfolding step
step_tidy s w sound tidy = go (is_over w) refl
  where
    go : (b : Bool) → is_over w ≡ b → IsTidyWorld (if b then w else chosen_step s (ready w))
    go true over = tidy
    go false runs =
        let v = ready w in
        let here = next_process s v ((ready_stays w).over ∙ runs) in
        subst (λ (o : Option Process). IsTidyWorld (acted s v (next_dispatch s v) o)) (sym here.1)
        (acted_tidy s v here.0 here.1 here.2 (ready_sound w sound) _ (effect_orderly (before s v (next_dispatch s v).current here.0)) (ready_keeps {P = IsTidyWorld} word_tidy w tidy))
