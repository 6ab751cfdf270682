-- Where a call on segments stops for want of room, or of room and of swap blocks, the world lacks it.
use Rattle.std.proofs.Common.{◌≡◌, ◌≢◌, ◌⊎◌, inl, inr, ℕ, ◌<◌, ◌≤◌, ◌==◌, ◌&&◌, ◌||◌, Bool, true, false, List, ◌++◌, length, Option, Some, ap, sym, ◌∙◌, refl, subst, arith, if◌then◌else◌}
use Rattle.std.specs.Prelude.{is_some, nat_lt}
use Rattle.std.proofs.lemmas.Bool.{eqb-true, false≢true, ne_eqb}
use Rattle.o2_entries.specs.declared.Entry.{Entry}
use Rattle.o2_isa.specs.declared.cpu.Cpu.{Cpu}
use Rattle.o2_isa.specs.Presence.{is_in}
use Rattle.o2_isa.specs.View.{Hold, bound_registers}
use Rattle.o2_place.specs.declared.seg_id.SegId.{SegId}
use Rattle.o2_place.proofs.Sums.{over-le}
use Rattle.o2_store.specs.Loads.{live_load, live_load_at, memory_load, swap_load as store_swap}
use Rattle.o2_store.specs.Needs.{all_wanted, named_in, wanted}
use Rattle.o2_store.specs.Shelf.{entry, entry_or, place_of, rounded}
use Rattle.o2_store.specs.Sizes.{all_wanted_at, stays, wanted_at}
use Rattle.o2_segbus.specs.Frames.{CanStep}
use Rattle.o2_segbus.specs.Seen.{gone_in, gone_under, hold_in, key_of, present_in, seen}
use Rattle.o2_segbus.proofs.Rulings.{gone_out}
use Rattle.o2_stands.proofs.Views.{name_mark}
use Rattle.o2_service.specs.Needs.{segments_of}
use Rattle.o2_world.specs.Calls.{Before}
use Rattle.o2_world.specs.Known.{known_of}
use Rattle.o2_world.specs.Map.{Map, get}
use Rattle.o2_world.specs.Rulings.{Ruling, full_size}
use Rattle.o2_world.specs.Run.{next_dispatch}
use Rattle.o2_world.specs.Tied.{IsSound}
use Rattle.o2_world.specs.Views.{is_discarded}
use Rattle.o2_world.specs.World.{Process, Segment, Setting, World, is_live}
use Rattle.o2_gate.specs.declared.requests.SegmentArguments.{SegmentArguments}
use Rattle.o2_gate.specs.declared.arguments.Arguments.{Arguments}
use Rattle.o2_gate.specs.declared.requests.SegmentArguments.TheVariants.{Alloc, Realloc, Free, Size, Lock, Unlock, Alias, Shared, Huge}
use Rattle.o2_gate.specs.declared.requests.HugeArguments.TheVariants as huge
use Rattle.o2_gate.specs.Targets.{targets}
use Rattle.o2_gate.specs.Pointed.{are_ready}
use Rattle.o2_run.specs.Room.{is_locked, kept_size, larger, live_load as world_live, load_between, load_next, needs, of_both, room, rounded as whole, seated, size_of, swap_load, touched}
use Rattle.o2_run.proofs.Behind.{load_at_once}
use Rattle.o2_run.specs.Stops.{IsSwapFull}
use Rattle.o2_calls.specs.Acts.{MayStop, ruling_of}
use Rattle.o2_calls.specs.Stops.{LacksMemory, LacksRoom, LacksRun, LacksRunMemory, LacksSwap, held_by}
use Rattle.o2_regions.specs.declared.answer.Roomed.TheVariants.{NoRoom}
use Rattle.o2_regions.specs.declared.held.Held.{Held as HeldThere}
use Rattle.o2_segs.specs.Remade.{wants_room}
use Rattle.o2_stands.specs.Parts.{Parts}
use Rattle.o2_stands.specs.Sums.{counts}
use Rattle.o2_stands.proofs.Rooms.{swap_is}
use Rattle.o2_stepping.specs.Nexts.{IsNext, next_start}
use Rattle.o2_stepping.specs.Ran.{IsCallOf}
use Rattle.o2_stepping.specs.Rooms.{aimed_in, ages_of, needed_names, seated_in}
use Rattle.o2_stepping.proofs.Asked.{touched_asked}
use Rattle.o2_stepping.proofs.Named.{both_in, one_of, or_back, or_front}
use Rattle.o2_stepping.proofs.NextRooms.{kept_is, live_least, lock_whole, no_room, takes_least}
use Rattle.o2_space.proofs.CallRooms.{behind_is, holds, needed_wanted, room_is, v, want}
use Rattle.o2_space.proofs.CallStops.{at_most, counted_larger, facts, lock_over, make_over, named_was, new_over, of_some, part_least, remade_over, run_over, size_held, size_over, sized_least, slot_here, slot_other, same_size, there}
use Rattle.o2_space.proofs.Keeps.{ages_need, named_age, need_present, passes_for}
use Rattle.o2_space.proofs.Sides.{WeighsLess, in_old, load_room, part_by, sum_by}

-- a call comes to no error; of one on a run this isn't asked
abbrev pub HasNoError : SegmentArguments → Ruling → Type 0
HasNoError (Huge y) r = Unit {0}
HasNoError y r = r.error ≡ 0

no_error : (y : SegmentArguments) (r : Ruling) → r.error ≡ 0 → HasNoError y r
no_error (Alloc size flags) r none = none
no_error (Realloc size z) r none = none
no_error (Free z) r none = none
no_error (Size q) r none = none
no_error (Lock z) r none = none
no_error (Unlock z) r none = none
no_error (Alias q) r none = none
no_error (Shared q) r none = none
no_error (Huge q) r none = tt

and_right : (a b : Bool) → (a && b) ≡ true → b ≡ true
and_right true b e = e
and_right false b e = absurd (false≢true e)

same_key : (k key : ℕ) (f : ℕ → ℕ) → (k == key) ≡ true → f k ≤ f key
same_key k key f e = (let q = ap f (eqb-true k key e) in omega (arith, q))

module _ (p : Parts) (s : Setting) (w : World) (x : Process) (next : IsNext p s w x) (live : is_live x.state ≡ true) (sound : IsSound w) (a : Arguments) (following : ℕ)
    (call : IsCallOf (next_start s w x) a following) where
  abbrev pid : ℕ
  pid = (next_dispatch s w).current

  abbrev b : Before
  b = next_start s w x

  abbrev behind : Map Segment
  behind = (v p s w x next live sound a following call).names

  abbrev wants : List ℕ
  wants = want p s w x next live sound a following call

  -- what is in memory isn't discarded
  whole_there : (k : ℕ) → present_in p.shelf k ≡ true → b.view.discarded k ≡ false
  whole_there k present = name_mark p w.processes w.names w.next_name w.reserved next.lawful next.stands k ∙ go (gone_in p.shelf k) refl
    where
      go : (g : Bool) → gone_in p.shelf k ≡ g → g ≡ false
      go false e = refl
      go true e = absurd (false≢true (sym (gone_out p.shelf k next.lawful.shelf e) ∙ present))

  -- Room.

  module _ (c : Cpu) (same : c ≡ x.cpu) (step : CanStep p.shelf p.maps pid c) (ready : are_ready (seen p.shelf p.maps pid c) (targets a) ≡ true) (stops : MayStop a.request) where
    abbrev kept : List (SegId × ℕ)
    kept = seated_in p.maps pid c ++ aimed_in p.maps pid a

    -- what the call keeps in memory the step needs
    kept_needed : (n : ℕ) → is_in n (ages_of kept) ≡ true → is_in n (needed_names b) ≡ true
    kept_needed n e =
        both_in n (seated b.view.registers) (touched b)
        ∙ by (one_of (is_in n seats) (is_in n aimed) (sym (both_in n seats aimed) ∙ (ap (is_in n) (sym (ages_need p.shelf p.maps pid c a)) ∙ e)))
      where
        seats : List ℕ
        seats = seated (bound_registers (hold_in p.maps pid) c)

        aimed : List ℕ
        aimed = ages_of (aimed_in p.maps pid a)

        by : (is_in n (seated (bound_registers (hold_in p.maps pid) c)) ≡ true) ⊎ (is_in n (ages_of (aimed_in p.maps pid a)) ≡ true) → (is_in n (seated b.view.registers) || is_in n (touched b)) ≡ true
        by (inl h) =
            or_front (is_in n (seated b.view.registers)) (is_in n (touched b))
            (subst (λ (f : ℕ → Option Hold). is_in n (seated (bound_registers f x.cpu)) ≡ true) (sym (holds p s w x next live sound a following call))
            (subst (λ (r : Cpu). is_in n (seated (bound_registers (hold_in p.maps pid) r)) ≡ true) same h))
        by (inr h) =
            or_back (is_in n (seated b.view.registers)) (is_in n (touched b))
            (ap (is_in n) (touched_asked b a following call)
            ∙ passes_for p.shelf p.maps pid c b.view (holds p s w x next live sound a following call) whole_there a stops n ready h)

    named_wanted : (n k : ℕ) → key_of p.shelf n ≡ Some k → named_in p.shelf.entries (segments_of kept) k ≡ true → is_in n wants ≡ true
    named_wanted n k key named =
        let f = facts p s w x next live sound a following call n k key in
        needed_wanted p s w x next live sound a following call n (kept_needed n (ap (λ (m : ℕ). is_in m (ages_of kept)) (sym f.2) ∙ named_age p.shelf kept k named))

    abbrev stay_weight : ℕ → ℕ
    stay_weight k = if nat_lt 0 (entry p.shelf k).attr.lock || named_in p.shelf.entries (segments_of kept) k then rounded (entry p.shelf k).size else 0

    -- what stays in memory isn't discarded
    whole_mark : (n k : ℕ) → key_of p.shelf n ≡ Some k → (nat_lt 0 (entry p.shelf k).attr.lock || named_in p.shelf.entries (segments_of kept) k) ≡ true → is_discarded (get w.names n) ≡ false
    whole_mark n k key staying = by (one_of (nat_lt 0 (entry p.shelf k).attr.lock) (named_in p.shelf.entries (segments_of kept) k) staying)
      where
        by : (nat_lt 0 (entry p.shelf k).attr.lock ≡ true) ⊎ (named_in p.shelf.entries (segments_of kept) k ≡ true) → is_discarded (get w.names n) ≡ false
        by (inl locked) =
            name_mark p w.processes w.names w.next_name w.reserved next.lawful next.stands n
            ∙ (ap (gone_under p.shelf) key ∙ lock_whole p.shelf k next.lawful.shelf locked)
        by (inr named) =
            let f = facts p s w x next live sound a following call n k key in
            whole_there n (need_present p.shelf p.maps pid c a step ready n (ap (λ (m : ℕ). is_in m (ages_of kept)) (sym f.2) ∙ named_age p.shelf kept k named))

    staying_size : (n k : ℕ) → key_of p.shelf n ≡ Some k → (nat_lt 0 (entry p.shelf k).attr.lock || named_in p.shelf.entries (segments_of kept) k) ≡ true
        → kept_size (get w.names n) ≡ (entry p.shelf k).size
    staying_size n k key staying = kept_is (get w.names n) (whole_mark n k key staying) ∙ (facts p s w x next live sound a following call n k key).0

    abbrev takes : ℕ → ℕ
    takes = needs w.names behind

    now_taken : (n : ℕ) → whole (size_of (get behind n)) ≤ takes n
    now_taken n = omega arith

    stays_least : WeighsLess p.shelf (part_by takes w.names behind wants) stay_weight
    stays_least = record {
      none = λ k gone. no_room (nat_lt 0 (entry p.shelf k).attr.lock || named_in p.shelf.entries (segments_of kept) k) (entry p.shelf k).size (ap (λ (o : Option Entry). (entry_or o).size) gone);
      each = λ n k key.
          (let f = facts p s w x next live sound a following call n k key in
          takes_least (nat_lt 0 (entry p.shelf k).attr.lock) (named_in p.shelf.entries (segments_of kept) k) (is_in n wants) (is_locked (get w.names n)) (is_locked (get behind n))
          (kept_size (get w.names n)) (size_of (get behind n)) (entry p.shelf k).size (named_wanted n k key) f.1 (staying_size n k key));
    }

    more_than : (n : ℕ) → p.shelf.places.size < n → n ≤ sum_by takes w.names behind wants → s.memory < room s w
    more_than n above below =
        (let r : room s w ≡ sum_by takes w.names behind wants = room_is p s w x next live sound a following call in
        let memory = next.set.memory in
        omega (arith, above, below, r, memory))

    counted : (n k : ℕ) → key_of p.shelf n ≡ Some k → (nat_lt 0 (entry p.shelf k).attr.lock ≡ true) ⊎ (named_in p.shelf.entries (segments_of kept) k ≡ true) → counts w.names behind wants n ≡ true
    counted n k at (inl locked) =
        or_back (is_in n wants) _ (or_front (is_locked (get w.names n)) (is_locked (get behind n)) ((facts p s w x next live sound a following call n k at).1 ∙ locked))
    counted n k at (inr named) = or_front (is_in n wants) _ (named_wanted n k at named)

    lacks_for : (z : SegmentArguments) → a.request ≡ z → (ruling_of z (known_of s w) pid x.cpu).error ≡ 0 → MayStop z → LacksRoom z p.shelf p.maps pid (segments_of kept)
        → LacksRun z p.shelf (known_of s w) pid x.cpu (segments_of kept) NoRoom → s.memory < room s w
    lacks_for (Alloc size flags) is none may lacks run =
        let t = lacks.store in
        let id = lacks.id in
        let made = make_over p s w x next live sound a following call wants takes stay_weight now_taken stays_least size flags is none may in
        let most =
        new_over p.shelf t id (full_size size) flags lacks.adds (wanted t id.key (segments_of kept)) stay_weight others (rounded (full_size size)) here in
        let whole_size = same_size p.shelf t id (full_size size) flags lacks.adds in
        let more = lacks.holds in
        more_than (all_wanted t id.key (segments_of kept)) (omega (arith, more, whole_size)) (omega (arith, made, most))
      where
        others : (k : ℕ) → k ≢ lacks.id.key → wanted lacks.store lacks.id.key (segments_of kept) k ≤ stay_weight k
        others k other =
            (let slot = slot_other p.shelf lacks.store lacks.id (full_size size) flags lacks.adds k other in
            let a1 = ap (λ (o : Option Entry). if nat_lt 0 (entry_or o).attr.lock || (k == lacks.id.key || named_in lacks.store.entries (segments_of kept) k) then rounded (entry_or o).size else 0) slot in
            let a2 = ap (λ (t : Bool). if nat_lt 0 (entry p.shelf k).attr.lock || (k == lacks.id.key || t) then rounded (entry p.shelf k).size else 0) (named_was p.shelf lacks.store lacks.id (full_size size) flags lacks.adds (segments_of kept) k other) in
            let a3 = ap (λ (t : Bool). if nat_lt 0 (entry p.shelf k).attr.lock || (t || named_in p.shelf.entries (segments_of kept) k) then rounded (entry p.shelf k).size else 0) (ne_eqb k lacks.id.key other) in
            omega (arith, a1, a2, a3))

        here : wanted lacks.store lacks.id.key (segments_of kept) lacks.id.key ≤ rounded (full_size size)
        here =
            (let slot = slot_here p.shelf lacks.store lacks.id (full_size size) flags lacks.adds in
            let size_is = ap (λ (o : Option Entry). rounded (entry_or o).size) slot in
            let l = at_most (nat_lt 0 (entry lacks.store lacks.id.key).attr.lock || (lacks.id.key == lacks.id.key || named_in lacks.store.entries (segments_of kept) lacks.id.key)) (rounded (entry lacks.store lacks.id.key).size) in
            omega (arith, size_is, l))
    lacks_for (Realloc size z) is none may lacks run =
        let held = size_held p s w x next live sound a following call size z none in
        let h = held.0 in
        let both = of_some (λ y. (wants_room p.shelf y.id.key (segments_of kept) ≡ true) × (p.shelf.places.size < all_wanted_at p.shelf y.id.key (segments_of kept) (full_size size))) (held_by p.maps pid z) h held.1 lacks in
        let sized =
        size_over p s w x next live sound a following call wants takes stay_weight now_taken stays_least size z is none h held.1
        (λ n key. by h held.1 n key (one_of (entry p.shelf h.id.key).attr.gone (is_some (place_of p.shelf h.id.key) && stays p.shelf h.id.key (segments_of kept)) both.0)) in
        let most =
        over-le (wanted_at p.shelf h.id.key (segments_of kept) (full_size size)) (λ k. if k == h.id.key then rounded (full_size size) else stay_weight k) (length p.shelf.entries)
        (λ k l. sized_least (nat_lt 0 (entry p.shelf k).attr.lock) (k == h.id.key) (named_in p.shelf.entries (segments_of kept) k) (rounded (entry p.shelf k).size) (rounded (full_size size))) in
        more_than (all_wanted_at p.shelf h.id.key (segments_of kept) (full_size size)) both.1 (omega (arith, sized, most))
      where
        by : (h : HeldThere) → held_by p.maps pid z ≡ Some h → (n : ℕ) → key_of p.shelf n ≡ Some h.id.key
            → ((entry p.shelf h.id.key).attr.gone ≡ true) ⊎ ((is_some (place_of p.shelf h.id.key) && stays p.shelf h.id.key (segments_of kept)) ≡ true) → counts w.names behind wants n ≡ true
        by h under n key (inl gone) =
            or_back (is_in n wants) _ (or_back (is_locked (get w.names n)) (is_locked (get behind n)) (remade_over p s w x next live sound a following call size z is none h under gone n key))
        by h under n key (inr here) =
            counted n h.id.key key
            (one_of (nat_lt 0 (entry p.shelf h.id.key).attr.lock) (named_in p.shelf.entries (segments_of kept) h.id.key)
            (and_right (is_some (place_of p.shelf h.id.key)) (stays p.shelf h.id.key (segments_of kept)) here))
    lacks_for (Free z) is none may lacks run = absurd lacks
    lacks_for (Size y) is none may lacks run = absurd lacks
    lacks_for (Lock z) is none may lacks run =
        let l = lock_over p s w x next live sound a following call wants takes stay_weight now_taken stays_least z is none in
        let h = l.1 in
        let key = h.held.id.key in
        let more = of_some (λ y. p.shelf.places.size < all_wanted p.shelf y.id.key (segments_of kept)) (held_by p.maps pid z) h.held h.under lacks in
        let most = over-le (wanted p.shelf key (segments_of kept)) (λ k. if k == key then rounded (entry p.shelf key).size else stay_weight k) (length p.shelf.entries)
        (λ k b. part_least (nat_lt 0 (entry p.shelf k).attr.lock) (k == key) (named_in p.shelf.entries (segments_of kept) k) (rounded (entry p.shelf k).size) (rounded (entry p.shelf key).size)
        (same_key k key (λ j. rounded (entry p.shelf j).size))) in
        let below = l.2 in
        more_than (all_wanted p.shelf key (segments_of kept)) more (omega (arith, below, most))
    lacks_for (Unlock z) is none may lacks run = absurd lacks
    lacks_for (Alias y) is none may lacks run = absurd lacks
    lacks_for (Shared y) is none may lacks run = absurd lacks
    lacks_for (Huge (huge.Alloc segs part most flags)) is none may lacks run = absurd may
    lacks_for (Huge (huge.Realloc segs part z)) is none may lacks run =
        let key = run.id.key in
        let both = run.holds in
        let sized =
        run_over p s w x next live sound a following call wants takes stay_weight now_taken stays_least (huge.Realloc segs part z) is run.id run.size run.rest run.live run.change
        (λ n at. counted n run.id.key at (one_of (nat_lt 0 (entry p.shelf run.id.key).attr.lock) (named_in p.shelf.entries (segments_of kept) run.id.key) both.0))
        (λ n at. (let whole_size = kept_is (get w.names n) (whole_mark n run.id.key at both.0) in omega (arith, whole_size))) in
        let most =
        over-le (wanted_at p.shelf key (segments_of kept) run.size) (λ k. if k == key then rounded run.size else stay_weight k) (length p.shelf.entries)
        (λ k l. sized_least (nat_lt 0 (entry p.shelf k).attr.lock) (k == key) (named_in p.shelf.entries (segments_of kept) k) (rounded (entry p.shelf k).size) (rounded run.size)) in
        more_than (all_wanted_at p.shelf key (segments_of kept) run.size) both.1 (omega (arith, sized, most))
    lacks_for (Huge huge.Shift) is none may lacks run = absurd may

    pub lacks_call : (ruling_of a.request (known_of s w) pid x.cpu).error ≡ 0 → LacksRoom a.request p.shelf p.maps pid (segments_of kept) → LacksRun a.request p.shelf (known_of s w) pid x.cpu (segments_of kept) NoRoom → s.memory < room s w
    lacks_call none lacks run = lacks_for a.request refl none stops lacks run

  -- Swap: all that lives counts.

  abbrev all : List ℕ
  all = of_both w.names behind

  abbrev loads : ℕ → ℕ
  loads = larger w.names behind

  now_loaded : (n : ℕ) → whole (size_of (get behind n)) ≤ loads n
  now_loaded n = omega arith

  was_loaded : (n : ℕ) → whole (size_of (get w.names n)) ≤ loads n
  was_loaded n = omega arith

  loads_least : WeighsLess p.shelf (part_by loads w.names behind all) (memory_load p.shelf)
  loads_least = record {
    none = λ k gone. (let z : (entry p.shelf k).size ≡ 0 = ap (λ (o : Option Entry). (entry_or o).size) gone in omega (arith, z));
    each = λ n k key.
        (let size = (facts p s w x next live sound a following call n k key).0 in
        counted_larger (counts w.names behind all n) (memory_load p.shelf k) (larger w.names behind n) (or_front (is_in n all) _ (in_old w.names behind n (there p s w x next live sound a following call n k key)))
        (omega (arith, size)));
  }

  live_is : world_live s w ≡ load_between w.names behind
  live_is =
      load_at_once s w next.wordless
      ∙ ap (load_next s w (next_dispatch s w)) next.chosen
      ∙ ap (λ (z : World). load_between w.names z.names) (behind_is p s w x next live sound a following call)

  short_by : (n : ℕ) → p.shelf.places.size < n → n ≤ sum_by loads w.names behind all → s.memory < world_live s w
  short_by n above below =
      let memory = next.set.memory in
      let live_all = live_is in
      let rooms = load_room w.names behind in
      omega (arith, memory, live_all, rooms, above, below)

  short_for : (z : SegmentArguments) → a.request ≡ z → HasNoError z (ruling_of z (known_of s w) pid x.cpu) → MayStop z → LacksMemory z p.shelf p.maps pid → LacksRunMemory z p.shelf (known_of s w) pid x.cpu
      → s.memory < world_live s w
  short_for (Alloc size flags) is none may lacks run =
      let t = lacks.store in
      let id = lacks.id in
      let made = make_over p s w x next live sound a following call all loads (memory_load p.shelf) now_loaded loads_least size flags is none may in
      let most = new_over p.shelf t id (full_size size) flags lacks.adds (memory_load t) (memory_load p.shelf) others (rounded (full_size size)) here in
      let whole_size = same_size p.shelf t id (full_size size) flags lacks.adds in
      let more = lacks.holds in
      short_by (live_load t) (omega (arith, more, whole_size)) (omega (arith, made, most))
    where
      others : (k : ℕ) → k ≢ lacks.id.key → memory_load lacks.store k ≤ memory_load p.shelf k
      others k other = (let slot = ap (λ (o : Option Entry). rounded (entry_or o).size) (slot_other p.shelf lacks.store lacks.id (full_size size) flags lacks.adds k other) in omega (arith, slot))

      here : memory_load lacks.store lacks.id.key ≤ rounded (full_size size)
      here = (let slot = ap (λ (o : Option Entry). rounded (entry_or o).size) (slot_here p.shelf lacks.store lacks.id (full_size size) flags lacks.adds) in omega (arith, slot))
  short_for (Realloc size z) is none may lacks run =
      let held = size_held p s w x next live sound a following call size z none in
      let h = held.0 in
      let more = of_some (λ y. p.shelf.places.size < live_load_at p.shelf y.id.key (full_size size)) (held_by p.maps pid z) h held.1 lacks in
      let sized =
      size_over p s w x next live sound a following call all loads (memory_load p.shelf) now_loaded loads_least size z is none h held.1
      (λ n key. or_front (is_in n all) _ (in_old w.names behind n (there p s w x next live sound a following call n h.id.key key))) in
      short_by (live_load_at p.shelf h.id.key (full_size size)) more sized
  short_for (Free z) is none may lacks run = absurd lacks
  short_for (Size y) is none may lacks run = absurd lacks
  short_for (Lock z) is none may lacks run =
      (let live_all = live_least p s w next.lawful next.set next.stands next.wordless in
      let memory = next.set.memory in
      omega (arith, live_all, memory, lacks))
  short_for (Unlock z) is none may lacks run = absurd lacks
  short_for (Alias y) is none may lacks run = absurd lacks
  short_for (Shared y) is none may lacks run = absurd lacks
  short_for (Huge (huge.Alloc segs part most flags)) is none may lacks run = absurd may
  short_for (Huge (huge.Realloc segs part z)) is none may lacks run =
      let sized =
      run_over p s w x next live sound a following call all loads (memory_load p.shelf) now_loaded loads_least (huge.Realloc segs part z) is run.id run.size run.rest run.live run.change
      (λ n key. or_front (is_in n all) _ (in_old w.names behind n (there p s w x next live sound a following call n run.id.key key)))
      (λ n key. was_loaded n) in
      short_by (live_load_at p.shelf run.id.key run.size) run.holds sized
  short_for (Huge huge.Shift) is none may lacks run = absurd may

  pub short_call : HasNoError a.request (ruling_of a.request (known_of s w) pid x.cpu) → MayStop a.request → LacksMemory a.request p.shelf p.maps pid → LacksRunMemory a.request p.shelf (known_of s w) pid x.cpu → s.memory < world_live s w
  short_call none may lacks run = short_for a.request refl none may lacks run

  pub full_call : (ruling_of a.request (known_of s w) pid x.cpu).error ≡ 0 → MayStop a.request → LacksSwap a.request p.shelf p.maps pid → LacksRunMemory a.request p.shelf (known_of s w) pid x.cpu → IsSwapFull p.device s w
  full_call none may lacks run =
      let blocks = next.set.blocks in
      let load : swap_load w ≡ store_swap p.shelf = swap_is p w.processes w.names w.next_name w.reserved next.lawful next.stands in
      let more = lacks.0 in
      record { swap = omega (arith, blocks, load, more); memory = short_call (no_error a.request (ruling_of a.request (known_of s w) pid x.cpu) none) may lacks.1 run }
