-- What a step changes keeps a sound world sound: the changes are fit, and all that lives behind them is held.
use Rattle.std.proofs.Common.{◌≡◌, ◌⊎◌, inl, inr, ℕ, ◌-◌, ◌<◌, ◌≤◌, ◌==◌, ◌||◌, Bool, true, false, List, [], ◌∷◌, map, length, Option, Some, None, if◌then◌else◌, ap, sym, ◌∙◌, refl, arith, subst}
use Rattle.std.specs.Prelude.{is_some, nat_lt, option_map, slice_get}
use Rattle.std.specs.List.{list_any}
use Rattle.std.proofs.lemmas.Bool.{false≢true}
use Rattle.o2_conf.specs.Dispatch.{Dispatch}
use Rattle.o2_world.specs.Map.{get}
use Rattle.o2_world.specs.World.{World, Setting, Process, Segment, Held, is_live}
use Rattle.o2_world.specs.Holders.{process_at, with_process}
use Rattle.o2_world.specs.Changes.{Change, Drops, Holds, Makes, Marks, Resizes, marked as remarked, resized, takes, with_change, with_changes, with_segment}
use Rattle.o2_world.specs.Known.{held_at, holds_index, lives_at, reserves, taken_in}
use Rattle.o2_world.specs.CallParts.{Before, Effect}
use Rattle.o2_world.specs.Known.{Marks as SegmentMarks, marks_of}
use Rattle.o2_world.specs.Rulings.{full_size, held_as_code, held_by_call, made_segment}
use Rattle.o2_world.specs.Run.{before, worked, working}
use Rattle.o2_world.specs.Sound.{held_in, held_of, HasGoodRegisters}
use Rattle.o2_world.specs.Tied.{AreFitChanges, IsFitDrop, IsSound, IsSwept, IsTied}
use Rattle.o2_world.specs.Moves.{IsShared, IsFreeIndex, IsFreeing, Moves, NoneMoves, OneAliased, OneLocked, OneMade, OneRemade, OneSized, SomeFreed}
use Rattle.o2_world.proofs.FitRows.{alias_fit, alloc_fit, either_false, full_is, nobody}
use Rattle.o2_world.proofs.FitFrees.{drops_fit, each_among, free_fit}
use Rattle.o2_world.proofs.HoldsSwept.{holds_swept}
use Rattle.o2_world.proofs.MapLemmas.{get-map, if_no}
use Rattle.o2_world.proofs.Numbers.{at_place_of, number_some, with_is}
use Rattle.o2_world.proofs.Reached.{set-place}
use Rattle.o2_world.proofs.StepReach.{own_at, same_at}
use Rattle.o2_world.proofs.TiedChanges.{lives_same}
use Rattle.o2_world.proofs.TiedWorld.{worked_swept, worked_tied}

-- what an index that isn't taken is: nobody's
free_here : (w : World) (n i : ℕ) (p : Process) → process_at w.processes n ≡ Some p → (r : ℕ) → r ≡ n → taken_in w r i ≡ false → get p.held i ≡ None
free_here w n i p at r same free = go (r == 0) refl (get p.held i) refl
  where
    -- number 0 has no process
    some : 0 < n
    some = number_some w.processes n p at

    no_zero : (n : ℕ) → 0 < n → (n == 0) ≡ true → ⊥
    no_zero n h e = grind arith

    held_is : held_at w.processes r i ≡ get p.held i
    held_is = ap (λ (k : ℕ). held_at w.processes k i) same ∙ ap (λ (o : Option Process). held_of o i) at

    none_by : (o : Option Held) → is_some o ≡ false → o ≡ None
    none_by None e = refl
    none_by (Some h) e = absurd (cc)

    go : (b : Bool) → (r == 0) ≡ b → (o : Option Held) → get p.held i ≡ o → get p.held i ≡ None
    go true is o e = absurd (no_zero n some (ap (λ (k : ℕ). k == 0) (sym same) ∙ is))
    go false is o e =
        sym held_is ∙ none_by (held_at w.processes r i) (either_false (is_some (held_at w.processes r i)) _ (sym (ap (λ (b : Bool). (if b then holds_index w.processes i else is_some (held_at w.processes r i)) || list_any (reserves r i) w.reserved) is) ∙ free))

free_shared : (w : World) (n i : ℕ) (p : Process) → process_at w.processes n ≡ Some p → taken_in w 0 i ≡ false → get p.held i ≡ None
free_shared w n i p at free = go (get p.held i) refl
  where
    there : held_in w.processes (n - 1) i ≡ get p.held i
    there = ap (λ (o : Option Process). held_of o i) (at_place_of w.processes n p at)

    go : (o : Option Held) → get p.held i ≡ o → get p.held i ≡ None
    go None e = e
    go (Some h) e = absurd (nobody w.processes (n - 1) i h (either_false (holds_index w.processes i) _ free) (there ∙ e))

pub low_or_high : (P : Type 0) (i : ℕ) → (i < 4096 → P) → (4096 ≤ i → P) → P
low_or_high P i f g = go (nat_lt i 4096) refl
  where
    low : (i : ℕ) → nat_lt i 4096 ≡ true → i < 4096
    low i e = grind arith

    high : (i : ℕ) → nat_lt i 4096 ≡ false → 4096 ≤ i
    high i e = grind arith

    go : (b : Bool) → nat_lt i 4096 ≡ b → P
    go true e = f (low i e)
    go false e = g (high i e)

-- another process, behind a write of one
other_number_at : (ps : List Process) (n m : ℕ) (p new : Process) → process_at ps n ≡ Some p → (m ≡ n → ⊥) → process_at (with_process ps n new) m ≡ process_at ps m
other_number_at ps n m p new at other = go (m == 0) refl
  where
    same_number : (n m : ℕ) → (n == m) ≡ true → n ≡ m
    same_number n m e = grind arith

    positive : (n : ℕ) → (n == 0) ≡ false → 0 < n
    positive n e = grind arith

    apart : 0 < n → (m == 0) ≡ false → (t : Bool) → (m - 1 == n - 1) ≡ t → (m - 1 == n - 1) ≡ false
    apart some is false e = e
    apart some is true e =
        let x = same_number (m - 1) (n - 1) e in
        let y = positive m is in
        absurd (other (omega (arith, some, x, y)))

    go : (t : Bool) → (m == 0) ≡ t → (if t then None else slice_get (with_process ps n new) (m - 1)) ≡ (if t then None else slice_get ps (m - 1))
    go true is = refl
    go false is =
        let some = number_some ps n p at in
        ap (λ (qs : List Process). slice_get qs (m - 1)) (with_is ps n new some)
        ∙ set-place (n - 1) (m - 1) new ps p (at_place_of ps n p at)
        ∙ if_no (m - 1 == n - 1) (Some new) (slice_get ps (m - 1)) (apart some is (m - 1 == n - 1) refl)

module _ (s : Setting) (w : World) (d : Dispatch) (p : Process) (e : Effect) (at : process_at w.processes d.current ≡ Some p) (lives : is_live p.state ≡ true)
    (live_now : is_live (working p e).state ≡ true) (good_now : HasGoodRegisters (working p e))
    (sizes : (q : ℕ) (x : Segment) → get w.names q ≡ Some x → length (e.bytes q) ≡ length x.bytes) (sound : IsSound w) where
  abbrev b : Before
  b = before s w d.current p

  abbrev v : World
  v = worked w d p e

  pub own : process_at v.processes d.current ≡ Some (working p e)
  own = own_at w.processes d.current p (working p e) at

  good : HasGoodRegisters p
  good = sound.tied.registers (d.current - 1) p (at_place_of w.processes d.current p at) lives

  held_is : (i : ℕ) → b.known.held b.number i ≡ get p.held i
  held_is i = ap (λ (o : Option Process). held_of o i) at

  pub free_in : (i : ℕ) → IsFreeIndex b.known b.number i → get (working p e).held i ≡ None
  free_in i free = low_or_high (get (working p e).held i ≡ None) i (λ low. free_here w d.current i p at d.current refl (free.own low)) (λ high. free_shared w d.current i p at (free.shared high))

  pub swept : IsSwept v
  swept = worked_swept w d p e at lives good_now sizes sound.swept

  -- what is held names a live segment
  names_live : (i : ℕ) (h : Held) → b.known.held b.number i ≡ Some h → is_some (get w.names h.name) ≡ true
  names_live i h there = (sound.tied.held (d.current - 1) i h (ap (λ (o : Option Process). held_of o i) (at_place_of w.processes d.current p at) ∙ sym (held_is i) ∙ there)).0

  drops : (is : List ℕ) → IsFreeing b e.cpu is → AreFitChanges v (map (λ (i : ℕ). Drops d.current i 1) is)
  drops is frees =
      drops_fit v d.current is frees.apart
      (each_among (λ (i : ℕ). IsFitDrop v d.current i 1) is (λ i here. free_fit p b e.cpu is i refl good frees here (held_is i) v (working p e) own refl refl))

  pub moves_fit : Moves b e.cpu e.changes → AreFitChanges v e.changes
  moves_fit (NoneMoves is) = subst (AreFitChanges v) (sym is) tt
  moves_fit (OneMade size flags i free is) = alloc_fit w d p e size flags i at live_now is free.shared
  moves_fit (OneSized name size alone is) = subst (AreFitChanges v) (sym is) (full_is size, tt)
  moves_fit (OneRemade name size alone is) = subst (AreFitChanges v) (sym is) (tt, (full_is size, (tt, tt)))
  moves_fit (OneLocked name count lockable is) = subst (AreFitChanges v) (sym is) (tt, tt)
  moves_fit (OneAliased index i h there alone free is) = alias_fit w d p e h.name i at live_now is (names_live index h there) free.shared
  moves_fit (SomeFreed xs frees is) = subst (AreFitChanges v) (sym is) (drops xs frees)

  -- behind changes of a segment alone
  segment_swept : (u : World) → IsSwept u → (n : ℕ) (f : Segment → Segment) → IsSwept (with_segment u n f)
  segment_swept u before n f = record { named = λ q x. before.named q (sym (lives_same u.names n q f) ∙ x); used = before.used }

  pub made_swept : (new : Segment) (i : ℕ) → IsFreeIndex b.known b.number i
      → IsSwept (with_change (with_change v (Makes new)) (Holds d.current i (held_by_call w.next_name)))
  made_swept new i free =
      holds_swept (with_change v (Makes new)) d.current i (working p e) (held_by_call w.next_name) own (free_in i free)
      (λ q x other. swept.named q (sym (ap is_some (if_no (w.next_name == q) (Some new) (get v.names q) (not_new q other))) ∙ x)) swept.used
    where
      not_new : (q : ℕ) → (q ≡ w.next_name → ⊥) → (w.next_name == q) ≡ false
      not_new q other = go (w.next_name == q) refl
        where
          is_new : (n m : ℕ) → (n == m) ≡ true → m ≡ n
          is_new n m f = grind arith

          go : (t : Bool) → (w.next_name == q) ≡ t → (w.next_name == q) ≡ false
          go true f = absurd (other (is_new w.next_name q f))
          go false f = f

  alias_swept : (name i : ℕ) → IsFreeIndex b.known b.number i → IsSwept (with_change v (Holds d.current i (held_as_code name)))
  alias_swept name i free = holds_swept v d.current i (working p e) (held_as_code name) own (free_in i free) (λ q x other. swept.named q x) swept.used

  freed_swept : (is : List ℕ) → list_any takes (map (λ (i : ℕ). Drops d.current i 1) is) ≡ false → IsSwept (with_changes v (map (λ (i : ℕ). Drops d.current i 1) is))
  unfolding with_changes
  freed_swept [] none = swept
  freed_swept (i ∷ is) none = absurd (false≢true (sym none))

  abbrev SweptBy : List Change → Type 0
  SweptBy cs = list_any takes cs ≡ false → IsSwept (with_changes v cs)

  pub moves_swept : Moves b e.cpu e.changes → list_any takes e.changes ≡ false → IsSwept (with_changes v e.changes)
  unfolding with_changes
  moves_swept (NoneMoves is) = subst SweptBy (sym is) (λ _. swept)
  moves_swept (OneMade size flags i free is) = subst SweptBy (sym is) (λ _. made_swept (made_segment size flags) i free)
  moves_swept (OneSized name size alone is) = subst SweptBy (sym is) (λ _. segment_swept v swept name (λ (x : Segment). record x { bytes = resized (full_size size) x.bytes }))
  moves_swept (OneRemade name size alone is) =
      let u = with_change v (Marks name false) in
      let x = with_change u (Resizes name (full_size size)) in
      subst SweptBy (sym is)
      (λ _. segment_swept x (segment_swept u (segment_swept v swept name (remarked false)) name (λ (y : Segment). record y { bytes = resized (full_size size) y.bytes })) name (λ (y : Segment). record y { lock = 1 }))
  moves_swept (OneLocked name count lockable is) = subst SweptBy (sym is) (λ _. segment_swept v swept name (λ (x : Segment). record x { lock = count }))
  moves_swept (OneAliased index i h there alone free is) = subst SweptBy (sym is) (λ _. alias_swept h.name i free)
  moves_swept (SomeFreed xs frees is) = subst SweptBy (sym is) (λ none. freed_swept xs none)

  -- What one process gets of what another holds.

  pub tied : IsTied v
  tied = worked_tied w d p e at lives good_now sizes sound.tied

  -- what is known of a process's holds is so of the world behind its bytes
  pub held_there : (n i : ℕ) (h : Held) → b.known.held n i ≡ Some h → held_in v.processes (n - 1) i ≡ Some h
  held_there n i h there = same_at w.processes d.current p (working p e) (n - 1) i at refl ∙ go (n == 0) refl there
    where
      go : (t : Bool) → (n == 0) ≡ t → held_of (if t then None else slice_get w.processes (n - 1)) i ≡ Some h → held_in w.processes (n - 1) i ≡ Some h
      go true is f = absurd (cc)
      go false is f = f

  marked : (o : Option Segment) (m : SegmentMarks) → option_map marks_of o ≡ Some m → (x : Segment) × (o ≡ Some x) × (x.shared ≡ m.shared)
  marked None m f = absurd (cc)
  marked (Some x) m f = let z : m ≡ marks_of x = cc in (x, refl, sym (ap (λ (y : SegmentMarks). y.shared) z))

  pub shared_there : (n i : ℕ) (s : IsShared b.known n i)
      → (held_in v.processes (n - 1) i ≡ Some s.held) × ((y : Segment) × (get v.names s.held.name ≡ Some y) × (y.shared ≡ true))
  shared_there n i s =
      let x = marked (get w.names s.held.name) s.marks s.segment in (
        held_there n i s.held s.there,
        (
          record x.0 { bytes = e.bytes s.held.name },
          get-map (λ (q : ℕ) (y : Segment). record y { bytes = e.bytes q }) w.names s.held.name ∙ ap (option_map (λ (y : Segment). record y { bytes = e.bytes s.held.name })) x.1,
          x.2 ∙ s.shared,
        ),
      )

  -- who gets it lives
  pub lives_there : (to : ℕ) → (to ≡ b.number) ⊎ (b.known.lives to ≡ true) → (x : Process) × (process_at v.processes to ≡ Some x) × (is_live x.state ≡ true)
  lives_there to (inl same) = (working p e, ap (process_at v.processes) same ∙ own, live_now)
  lives_there to (inr so) = go (to == d.current) refl (process_at w.processes to) refl
    where
      same_number : (n m : ℕ) → (n == m) ≡ true → n ≡ m
      same_number n m f = grind arith

      other : (n m : ℕ) → (n == m) ≡ false → n ≡ m → ⊥
      other n m f g = grind arith

      go : (t : Bool) → (to == d.current) ≡ t → (o : Option Process) → process_at w.processes to ≡ o
          → (x : Process) × (process_at v.processes to ≡ Some x) × (is_live x.state ≡ true)
      go true is o f = (working p e, ap (process_at v.processes) (same_number to d.current is) ∙ own, live_now)
      go false is None f = absurd (false≢true (sym (ap lives_at f) ∙ so))
      go false is (Some x) f = (x, other_number_at w.processes d.current to p (working p e) at (other to d.current is) ∙ f, sym (ap lives_at f) ∙ so)
