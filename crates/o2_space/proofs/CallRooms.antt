-- The room of the world's next step that is a call on segments: it fits where the call is made.
use Rattle.std.proofs.Common.{◌≡◌, ◌⊎◌, inl, inr, ℕ, ◌-◌, ◌/◌, ◌<◌, ◌≤◌, ◌||◌, Bool, true, false, cond, List, [], ◌∷◌, length, map, Option, Some, None, is_some, IsSome, ap, sym, ◌∙◌, refl, subst, arith, if◌then◌else◌}
use Rattle.std.specs.Prelude.{max, nat_lt}
use Rattle.std.specs.List.{list_any}
use Rattle.std.proofs.lemmas.Bool.{false≢true}
use mathlib.Core.Path.{fun_ext}
use Rattle.o2_conf.specs.Dispatch.{Dispatch}
use Rattle.o2_isa.specs.declared.cpu.Cpu.{Cpu}
use Rattle.o2_isa.specs.Presence.{is_in}
use Rattle.o2_isa.specs.View.{bound_registers}
use Rattle.o2_regions.specs.Maps.{Maps}
use Rattle.o2_store.specs.Shelf.{entry, place_of}
use Rattle.o2_store.proofs.Tables.{locked_at, within_at}
use Rattle.o2_segbus.specs.Seen.{gone_in, hold_in, key_of, present_in, present_under}
use Rattle.o2_segbus.proofs.Rulings.{gone_out}
use Rattle.o2_shared.specs.Shares.{StillHolds}
use Rattle.o2_calls.proofs.SharedOver.{keeps_still}
use Rattle.o2_world.specs.Calls.{Before, Effect, returned}
use Rattle.o2_world.specs.Changes.{Change, Drops, Locks, Marks, Resizes, takes, with_all}
use Rattle.o2_world.specs.Holders.{process_at}
use Rattle.o2_world.specs.Known.{Known, held_at, known_of}
use Rattle.o2_world.specs.Map.{Map, get}
use Rattle.o2_world.specs.Moves.{AllMoves}
use Rattle.o2_world.specs.Rulings.{by_load, freeing, freeing_of, grants, held_under, in_use, is_later, members, refusal}
use Rattle.o2_world.specs.Run.{changed, next_dispatch, worked, working}
use Rattle.o2_world.specs.Sound.{HasGoodRegisters, held_of}
use Rattle.o2_world.specs.Tied.{IsSound}
use Rattle.o2_world.specs.Views.{holds_in, is_discarded, view_of}
use Rattle.o2_world.specs.World.{Held, Process, Segment, Setting, World, is_live}
use Rattle.o2_world.proofs.Numbers.{at_place_of}
use Rattle.o2_world.specs.Outcomes.{gone_indexes}
use Rattle.o2_gate.specs.Replies.{words_of}
use Rattle.o2_world.proofs.StepMoves.{serviced_moves}
use Rattle.o2_calls.proofs.Shapes.{clears_gone}
use Rattle.o2_gate.specs.declared.requests.SegmentArguments.{SegmentArguments}
use Rattle.o2_gate.specs.declared.arguments.Arguments.{Arguments}
use Rattle.o2_world.specs.HugeRulings.{names_one}
use Rattle.o2_gate.specs.declared.requests.HugeArguments.{HugeArguments}
use Rattle.o2_gate.specs.declared.requests.HugeArguments.TheVariants as huge
use Rattle.o2_gate.specs.declared.requests.SegmentArguments.TheVariants.{Alloc, Realloc, Free, Size, Lock, Unlock, Alias, Shared, Huge}
use Rattle.o2_run.specs.Room.{Fits, behind, is_locked, kept_size, need, needs, room, room_between, room_next, rounded as whole, seated, seated_in, size_of, untrapped}
use Rattle.o2_run.proofs.Behind.{room_at_once}
use Rattle.o2_calls.specs.Acts.{ruling_of}
use Rattle.o2_calls.specs.HugeActs.{huge_ruling}
use Rattle.o2_calls.specs.Stops.{LeavesHolds, LeavesRunHolds}
use Rattle.o2_calls.specs.Tellings.{replied_by}
use Rattle.o2_calls.proofs.Overs.{none_next}
use Rattle.o2_calls.proofs.Replies.{asked_is}
use Rattle.o2_stands.specs.Parts.{Parts}
use Rattle.o2_stands.specs.Stands.{AreLawful, IsNamed, StandsIn}
use Rattle.o2_stands.specs.Sums.{AreAllHere, AreAtMost, counts, part_of}
use Rattle.o2_stands.proofs.Rooms.{found_at, name_facts, room_at_most, room_most}
use Rattle.o2_stands.proofs.Views.{name_mark, process_holds}
use Rattle.o2_stands.proofs.Worlds.{put_here}
use Rattle.o2_stepping.specs.Nexts.{IsNext, next_start}
use Rattle.o2_stepping.specs.Ran.{IsCallOf}
use Rattle.o2_stepping.specs.Rooms.{needed_names, room_at, room_in}
use Rattle.o2_stepping.proofs.Asked.{untrapped_asked}
use Rattle.o2_stepping.proofs.Named.{both_in, one_of, or_front}
use Rattle.o2_stepping.proofs.NextRooms.{IsLess, bytes_long, kept_is, kept_less, takes_most, untrapped_sizes}
use Rattle.o2_space.proofs.Anew.{AreAnew, anew_size, calls_anew}
use Rattle.o2_space.proofs.Remains.{IsMore, NoneLess, NoneMore, Remains, SizesRuns, all_remains, cut_less, freed}
use Rattle.o2_space.proofs.RunSizing.{Cut, Grown, IsSizing, allocation_sizing, grown_takes, reallocation_sizing}
use Rattle.o2_space.proofs.Seats.{KeepsNames, StaySelectors, all_names_kept, seats_of}
use Rattle.o2_space.proofs.Sides.{emptied_names, lock_emptied, once_emptied, room_emptied, room_from_behind, size_emptied, some_emptied}

-- What a free changes.

free_changes : (k : Known) (n z : ℕ) (c : Cpu) → (is : List ℕ) × ((freeing k n z c).changes ≡ map (λ (i : ℕ). Drops n i 1) is)
free_changes k n z c = go (held_under k n z)
  where
    by_tests : (is : List ℕ) (t u : Bool) → (js : List ℕ) × ((cond t (refusal 5) (cond u (refusal 5) (grants 0 (map (λ (i : ℕ). Drops n i 1) is)))).changes ≡ map (λ (i : ℕ). Drops n i 1) js)
    by_tests is true u = ([], refl)
    by_tests is false true = ([], refl)
    by_tests is false false = (is, refl)

    go : (o : Option Held) → (is : List ℕ) × ((freeing_of k n z c o).changes ≡ map (λ (i : ℕ). Drops n i 1) is)
    go None = ([], refl)
    go (Some h) = by_tests (members k n (z / 8) h) (by_load h.cause || is_later (z / 8) h) (in_use c (members k n (z / 8) h))

-- a call that cuts a run
record CutsRun (a : SegmentArguments) (k : Known) (n : ℕ) (c : Cpu) : Type 0 where
  run : HugeArguments
  is : a ≡ Huge run
  takes_holds : list_any takes (huge_ruling run k n c).changes ≡ true

-- all other calls leave what is held
frees_or_keeps : (a : SegmentArguments) (m n : Maps) (k : Known) (number : ℕ) (c : Cpu) → LeavesHolds a m n → LeavesRunHolds a m n k number c
    → ((z : ℕ) × (a ≡ Free z)) ⊎ (CutsRun a k number c ⊎ StillHolds m n)
frees_or_keeps (Alloc size flags) m n k number c h run = inr (inr (keeps_still m n h))
frees_or_keeps (Realloc size z) m n k number c h run = inr (inr (keeps_still m n h))
frees_or_keeps (Free z) m n k number c h run = inl (z, refl)
frees_or_keeps (Size y) m n k number c h run = inr (inr (keeps_still m n h))
frees_or_keeps (Lock z) m n k number c h run = inr (inr (keeps_still m n h))
frees_or_keeps (Unlock z) m n k number c h run = inr (inr (keeps_still m n h))
frees_or_keeps (Alias y) m n k number c h run = inr (inr (keeps_still m n h))
frees_or_keeps (Shared a) m n k number c h run = inr (inr h)
frees_or_keeps (Huge (huge.Alloc segs part most flags)) m n k number c h run = inr (inr (keeps_still m n h))
frees_or_keeps (Huge (huge.Realloc segs part z)) m n k number c h run = by run
  where
    by : LeavesRunHolds (Huge (huge.Realloc segs part z)) m n k number c
        → ((y : ℕ) × (Huge (huge.Realloc segs part z) ≡ Free y)) ⊎ (CutsRun (Huge (huge.Realloc segs part z)) k number c ⊎ StillHolds m n)
    by (inl keeps) = inr (inr (keeps_still m n keeps))
    by (inr cuts) = inr (inl (record { run = huge.Realloc segs part z; is = refl; takes_holds = cuts }))
frees_or_keeps (Huge huge.Shift) m n k number c h run = inr (inr (keeps_still m n h))

-- The registers behind a call.

cleared : (t : Bool) (z : ℕ) → ((if t then 0 else z) ≡ z) ⊎ ((if t then 0 else z) ≡ 0)
cleared true z = inr refl
cleared false z = inl refl

-- what is gone leaves DS and ES null
selectors_stay : (a : Arguments) (b : Before) (next : ℕ) → StaySelectors b.cpu (replied_by a b next).cpu
selectors_stay a b next =
    subst (λ (c : Cpu). StaySelectors b.cpu (returned c next (words_of a) (ruling_of a.request b.known b.number b.cpu).error)) (clears_gone a.request b.known b.number b.cpu)
    (let is : List ℕ = gone_indexes b.known (ruling_of a.request b.known b.number b.cpu).changes in
    record { es = cleared (names_one b.cpu.es is) b.cpu.es; cs = inl refl; ss = inl refl; ds = cleared (names_one b.cpu.ds is) b.cpu.ds })

lock_above : (k : ℕ) → nat_lt 0 k ≡ true → 0 < k
lock_above k e = grind arith

-- The next step of a world that is a call.

module _ (p : Parts) (s : Setting) (w : World) (x : Process) (next : IsNext p s w x) (live : is_live x.state ≡ true) (sound : IsSound w) (a : Arguments) (following : ℕ)
    (call : IsCallOf (next_start s w x) a following) where
  abbrev pub d : Dispatch
  d = next_dispatch s w

  abbrev pub b : Before
  b = next_start s w x

  abbrev pub e : Effect
  e = replied_by a b following

  abbrev pub u : World
  u = worked w d x e

  -- the world behind it
  abbrev pub v : World
  v = changed w d x e

  abbrev pub want : List ℕ
  want = need b v.names (process_at v.processes d.current)

  effect_is : untrapped b ≡ e
  effect_is = untrapped_asked b a following call ∙ asked_is b following a

  pub behind_is : behind w d x b ≡ v
  behind_is = ap (changed w d x) effect_is

  pub room_is : room s w ≡ room_between w.names v.names want
  room_is =
      room_at_once s w next.wordless
      ∙ ap (room_next s w d) next.chosen
      ∙ ap (λ (z : World). room_between w.names z.names (need b z.names (process_at z.processes d.current))) behind_is

  pub world_is : v ≡ with_all u e.changes
  unfolding changed
  world_is = refl

  moves : AllMoves b e.cpu e.changes
  moves = subst (λ (f : Effect). AllMoves b f.cpu f.changes) (call.asks ∙ asked_is b following a) (serviced_moves call.service b call.from)

  pub sizes : (n : ℕ) → length (e.bytes n) ≡ size_of (get w.names n)
  sizes n = ap (λ (f : Effect). length (f.bytes n)) (sym effect_is) ∙ (untrapped_sizes b n ∙ bytes_long (get w.names n))

  pub new : get w.names w.next_name ≡ None
  new = none_next w sound.tied

  fresh : (n : ℕ) → w.next_name ≤ n → get w.names n ≡ None
  fresh n low = go (get w.names n) refl
    where
      go : (o : Option Segment) → get w.names n ≡ o → o ≡ None
      go None f = refl
      go (Some y) f = absurd (let less = sound.tied.below n (ap is_some f) in omega (arith, less, low))

  run_sizes : SizesRuns w.names b
  run_sizes = record {
    made = λ segs part most flags. allocation_sizing s w d.current segs part most flags;
    sized = λ segs part selector. reallocation_sizing s w sound.tied next.stands.tidy d.current segs part selector x.cpu;
  }

  -- what it makes anew was discarded
  anew : (name size : ℕ) → e.changes ≡ Marks name false ∷ Resizes name size ∷ Locks name 1 ∷ [] → kept_size (get w.names name) ≡ 0
  anew name size is = anew_size s w name (subst (AreAnew (known_of s w)) is (calls_anew (known_of s w) a.request d.current x.cpu)).0

  left : Remains w.names v.names
  left = subst (λ (z : World). Remains w.names z.names) (sym world_is) (all_remains w d x e sizes new fresh b run_sizes e.cpu e.changes anew moves)

  -- a call on a run cuts what it sizes, or none of it
  pub run_sizing : (y : HugeArguments) → IsSizing w.names (huge_ruling y (known_of s w) d.current x.cpu).changes
  run_sizing (huge.Alloc segs part most flags) = allocation_sizing s w d.current segs part most flags
  run_sizing (huge.Realloc segs part z) = reallocation_sizing s w sound.tied next.stands.tidy d.current segs part z x.cpu
  run_sizing huge.Shift = Cut tt

  pub run_changes_are : (y : HugeArguments) → a.request ≡ Huge y → e.changes ≡ (huge_ruling y (known_of s w) d.current x.cpu).changes
  run_changes_are y is = ap (λ (r : SegmentArguments). (ruling_of r (known_of s w) d.current x.cpu).changes) is

  cut_run_less : CutsRun a.request (known_of s w) d.current x.cpu → (n : ℕ) → IsLess (get v.names n) (get w.names n)
  cut_run_less cuts n =
      subst (λ (q : World). IsLess (get q.names n) (get w.names n)) (sym world_is)
      (subst (λ (xs : List Change). IsLess (get (with_all u xs).names n) (get w.names n)) (sym (run_changes_are cuts.run cuts.is)) (by (run_sizing cuts.run)))
    where
      cs : List Change
      cs = (huge_ruling cuts.run (known_of s w) d.current x.cpu).changes

      by : IsSizing w.names cs → IsLess (get (with_all u cs).names n) (get w.names n)
      by (Cut are) = cut_less w d x e sizes new cs are n
      by (Grown z are) = absurd (false≢true (sym (grown_takes w.names z cs are) ∙ cuts.takes_holds))

  freed_less : (z : ℕ) → a.request ≡ Free z → (n : ℕ) → IsLess (get v.names n) (get w.names n)
  freed_less z is n =
      let f = free_changes b.known b.number z b.cpu in
      let cs : e.changes ≡ map (λ (i : ℕ). Drops b.number i 1) f.0 = ap (λ (y : SegmentArguments). (ruling_of y b.known b.number b.cpu).changes) is ∙ f.1 in
      subst (λ (q : World). IsLess (get q.names n) (get w.names n)) (sym world_is)
      (subst (λ (xs : List Change). IsLess (get (with_all u xs).names n) (get w.names n)) (sym cs) (freed w d x e sizes new b.number f.0 n))

  pub holds : holds_in x.held ≡ hold_in p.maps d.current
  holds = fun_ext (process_holds p w.processes w.names w.next_name w.reserved next.lawful next.stands d.current x next.chosen)

  -- What it needs is needed before it.

  good : HasGoodRegisters x
  good = sound.tied.registers (d.current - 1) x (at_place_of w.processes d.current x next.chosen) live

  working_there : process_at u.processes b.number ≡ Some (working x e)
  working_there = put_here w.processes d.current x (working x e) next.chosen

  kept_by : (y : Process) → process_at v.processes d.current ≡ Some y → KeepsNames (get x.held) (get y.held)
  kept_by y there =
      let keeps = subst (λ (z : World). KeepsNames (held_at u.processes b.number) (held_at z.processes b.number)) (sym world_is) (all_names_kept u b (working x e) working_there e.cpu e.changes moves) in
      record {
        each = λ i h k was is.
            keeps.each i h k (ap (λ (o : Option Process). held_of o i) working_there ∙ was) (ap (λ (o : Option Process). held_of o i) there ∙ is);
      }

  seats : (y : Process) → process_at v.processes d.current ≡ Some y → y.cpu ≡ e.cpu → (q : ℕ)
      → is_in q (seated_in v.names (process_at v.processes d.current)) ≡ true → is_in q (seated b.view.registers) ≡ true
  seats y there cpu q h = by (is_live y.state) (subst (λ (o : Option Process). is_in q (seated_in v.names o) ≡ true) there h)
    where
      by : (t : Bool) → is_in q (if t then seated (view_of v.names y).registers else []) ≡ true → is_in q (seated b.view.registers) ≡ true
      by true f =
          seats_of x (get y.held) e.cpu good (kept_by y there) (selectors_stay a b following) q
          (subst (λ (c : Cpu). is_in q (seated (bound_registers (holds_in y.held) c)) ≡ true) cpu f)
      by false f = absurd (false≢true f)

  wanted : (y : Process) → process_at v.processes d.current ≡ Some y → y.cpu ≡ e.cpu → (q : ℕ) → is_in q want ≡ true → is_in q (needed_names b) ≡ true
  wanted y there cpu q h =
      by (one_of (is_in q (needed_names b)) (is_in q behind_it) (sym (both_in q (needed_names b) behind_it) ∙ h))
    where
      behind_it : List ℕ
      behind_it = seated_in v.names (process_at v.processes d.current)

      by : (is_in q (needed_names b) ≡ true) ⊎ (is_in q (seated_in v.names (process_at v.processes d.current)) ≡ true) → is_in q (needed_names b) ≡ true
      by (inl f) = f
      by (inr f) = both_in q (seated b.view.registers) _ ∙ or_front (is_in q (seated b.view.registers)) _ (seats y there cpu q f)

  -- and what is needed before it is needed
  pub needed_wanted : (q : ℕ) → is_in q (needed_names b) ≡ true → is_in q want ≡ true
  needed_wanted q h =
      both_in q (needed_names b) (seated_in v.names (process_at v.processes d.current))
      ∙ or_front (is_in q (needed_names b)) (is_in q (seated_in v.names (process_at v.processes d.current))) h

  -- Where no name grows or gets a lock.

  fits_before : (list : List ℕ) → ((q : ℕ) → is_in q want ≡ true → is_in q list ≡ true) → ((n : ℕ) → IsLess (get v.names n) (get w.names n)) → room_in p.shelf list ≤ p.shelf.places.size → Fits true s w
  fits_before list among less fit =
      let at_most : AreAtMost p.shelf w.names v.names want (room_at p.shelf list) = record { within = record { none = λ n. (less n).none }; each = each } in
      let most = room_at_most p w.processes w.names w.next_name w.reserved next.lawful next.stands v.names want (room_at p.shelf list) at_most in
      let memory = next.set.memory in
      λ swaps. (let r = room_is in omega (arith, r, most, fit, memory))
    where
      each : (n k : ℕ) → key_of p.shelf n ≡ Some k → part_of w.names v.names want n ≤ room_at p.shelf list k
      each n k key =
          (let f = name_facts p w.processes w.names w.next_name w.reserved next.lawful next.stands n k key in
          takes_most (is_in n want) (is_locked (get w.names n)) (is_locked (get v.names n)) (nat_lt 0 (entry p.shelf k).attr.lock) (is_in (entry p.shelf k).age list)
          (kept_size (get w.names n)) (size_of (get v.names n)) (entry p.shelf k).size
          (λ h. ap (λ (m : ℕ). is_in m list) f.2 ∙ among n h) f.1 (less n).lock
          (let size = f.0 in let kept = kept_less (get w.names n) in omega (arith, size, kept))
          (let size = f.0 in let behind = (less n).size in omega (arith, size, behind)))

  -- Where none goes, shrinks or loses its lock, and all that it needs is in memory behind it.

  module _ (q : Parts) (lawful : AreLawful q.shelf q.maps) (standing : StandsIn q v.processes v.names v.next_name v.reserved) (same : q.shelf.places.size ≡ p.shelf.places.size)
      (more : (n : ℕ) → IsMore (get v.names n) (get w.names n)) (here : (n k : ℕ) → key_of q.shelf n ≡ Some k → is_in n want ≡ true → IsSome (place_of q.shelf k)) where
    facts : (n k : ℕ) → key_of q.shelf n ≡ Some k → (size_of (get v.names n) ≡ (entry q.shelf k).size) × (is_locked (get v.names n) ≡ nat_lt 0 (entry q.shelf k).attr.lock) × ((entry q.shelf k).age ≡ n)
    facts n k key = name_facts q v.processes v.names v.next_name v.reserved lawful standing n k key

    young : (n : ℕ) → is_some (get v.names n) ≡ true → n < q.shelf.made
    young n some = go (key_of q.shelf n) refl (get v.names n) refl (standing.segments n)
      where
        go : (o : Option ℕ) → key_of q.shelf n ≡ o → (g : Option Segment) → get v.names n ≡ g → IsNamed q o g → n < q.shelf.made
        go None f None g is = absurd (false≢true (sym (ap is_some g) ∙ some))
        go None f (Some y) g is = absurd is
        go (Some k) f g h is =
            (let found = found_at q.shelf n k f in
            let below = (lawful.shelf.each k (within_at q.shelf.entries k found.0)).young found.0 in
            let age = found.1 in
            omega (arith, below, age))

    -- the names before it, of which those that were discarded have no bytes
    abbrev old : Map Segment
    old = emptied_names w.names

    some_before : (n : ℕ) → is_some (get old n) ≡ true → is_some (get v.names n) ≡ true
    some_before n some = (more n).some (sym (some_emptied w.names n) ∙ some)

    locked_here : (n k : ℕ) → key_of q.shelf n ≡ Some k → is_locked (get v.names n) ≡ true → IsSome (place_of q.shelf k)
    locked_here n k key locked = locked_at q.shelf k lawful.shelf (lock_above (entry q.shelf k).attr.lock (sym (facts n k key).1 ∙ locked))

    old_here : (n k : ℕ) → key_of q.shelf n ≡ Some k → is_locked (get old n) ≡ true → IsSome (place_of q.shelf k)
    old_here n k key locked = locked_here n k key ((more n).lock (sym (lock_emptied w.names n) ∙ locked))

    all_here : AreAllHere q.shelf v.names old want
    all_here = record {
      grows = record {
        within = record { none = λ n none. none_before n none };
        sizes = λ n k key. (let f = facts n k key in let a = f.0 in let l = (more n).size in let z = size_emptied w.names n in omega (arith, a, l, z));
      };
      here = λ n k key e. by n k key (one_of (is_in n want) (is_locked (get old n)) e);
    }
      where
        none_before : (n : ℕ) → get v.names n ≡ None → get old n ≡ None
        none_before n none = go (get old n) refl
          where
            go : (o : Option Segment) → get old n ≡ o → o ≡ None
            go None e = refl
            go (Some y) e = absurd (false≢true (sym (ap is_some none) ∙ some_before n (ap is_some e)))

        by : (n k : ℕ) → key_of q.shelf n ≡ Some k → (is_in n want ≡ true) ⊎ (is_locked (get old n) ≡ true) → IsSome (place_of q.shelf k)
        by n k key (inl needed) = here n k key needed
        by n k key (inr locked) = old_here n k key locked

    -- what counts is in memory behind it, and so isn't discarded there
    whole_behind : (n : ℕ) → counts old v.names want n ≡ true → is_discarded (get v.names n) ≡ false
    whole_behind n counted = go (key_of q.shelf n) refl (get v.names n) refl (standing.segments n)
      where
        placed : (k : ℕ) → key_of q.shelf n ≡ Some k → IsSome (place_of q.shelf k)
        placed k key = by (one_of (is_in n want) (is_locked (get old n) || is_locked (get v.names n)) counted)
          where
            by_lock : (is_locked (get old n) ≡ true) ⊎ (is_locked (get v.names n) ≡ true) → IsSome (place_of q.shelf k)
            by_lock (inl locked) = old_here n k key locked
            by_lock (inr locked) = locked_here n k key locked

            by : (is_in n want ≡ true) ⊎ ((is_locked (get old n) || is_locked (get v.names n)) ≡ true) → IsSome (place_of q.shelf k)
            by (inl needed) = here n k key needed
            by (inr locked) = by_lock (one_of (is_locked (get old n)) (is_locked (get v.names n)) locked)

        not_gone : present_in q.shelf n ≡ true → (g : Bool) → gone_in q.shelf n ≡ g → g ≡ false
        not_gone present false e = refl
        not_gone present true e = absurd (false≢true (sym (gone_out q.shelf n lawful.shelf e) ∙ present))

        go : (o : Option ℕ) → key_of q.shelf n ≡ o → (g : Option Segment) → get v.names n ≡ g → IsNamed q o g → is_discarded (get v.names n) ≡ false
        go None e None f is = ap is_discarded f
        go None e (Some y) f is = absurd is
        go (Some k) e g f is =
            name_mark q v.processes v.names v.next_name v.reserved lawful standing n
            ∙ not_gone (ap (present_under q.shelf) e ∙ placed k e) (gone_in q.shelf n) refl

    no_less : (n : ℕ) → counts old v.names want n ≡ true → needs old v.names n ≤ needs v.names old n
    no_less n counted =
        (let a = kept_is (get v.names n) (whole_behind n counted) in
        let k = kept_less (get old n) in
        by (kept_size (get old n)) (size_of (get old n)) (kept_size (get v.names n)) (size_of (get v.names n)) k a)
      where
        by : (k z l y : ℕ) → k ≤ z → l ≡ y → whole (max k y) ≤ whole (max l z)
        by k z l y f e = omega (arith, f, e)

    fits_behind : Fits true s w
    fits_behind =
        let emptied = room_emptied w.names v.names want in
        let turned = room_from_behind old v.names q.shelf.made (once_emptied w.names next.stands.tidy.once) standing.tidy.once some_before young want no_less in
        let most = room_most q v.processes v.names v.next_name v.reserved lawful standing old want all_here in
        let memory = next.set.memory in
        λ swaps. (let r = room_is in omega (arith, r, emptied, turned, most, same, memory))

  -- By what the call leaves.

  pub fits_call : (y : Process) → process_at v.processes d.current ≡ Some y → y.cpu ≡ e.cpu
      → (list : List ℕ) → ((n : ℕ) → is_in n (needed_names b) ≡ true → is_in n list ≡ true) → room_in p.shelf list ≤ p.shelf.places.size
      → (q : Parts) → AreLawful q.shelf q.maps → StandsIn q v.processes v.names v.next_name v.reserved → q.shelf.places.size ≡ p.shelf.places.size
      → (n : Maps) → LeavesHolds a.request p.maps n → LeavesRunHolds a.request p.maps n (known_of s w) d.current x.cpu
      → (StillHolds p.maps n → (m k : ℕ) → key_of q.shelf m ≡ Some k → is_in m (needed_names b) ≡ true → IsSome (place_of q.shelf k)) → Fits true s w
  fits_call y there cpu list among fit q lawful standing same n leaves run here = by (frees_or_keeps a.request p.maps n (known_of s w) d.current x.cpu leaves run)
    where
      before : ((m : ℕ) → IsLess (get v.names m) (get w.names m)) → Fits true s w
      before less = fits_before list (λ m h. among m (wanted y there cpu m h)) less fit

      by : ((z : ℕ) × (a.request ≡ Free z)) ⊎ (CutsRun a.request (known_of s w) d.current x.cpu ⊎ StillHolds p.maps n) → Fits true s w
      by (inl frees) = before (freed_less frees.0 frees.1)
      by (inr (inl cuts)) = before (cut_run_less cuts)
      by (inr (inr keeps)) = by_names left
        where
          by_names : Remains w.names v.names → Fits true s w
          by_names (NoneMore less) = before less
          by_names (NoneLess more) = fits_behind q lawful standing same more (λ m k key h. here keeps m k key (wanted y there cpu m h))
