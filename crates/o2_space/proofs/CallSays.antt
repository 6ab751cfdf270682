-- What a call on segments says of the room and the loads of the world's next step, by what the machine is before it and behind it.
use Rattle.std.proofs.Common.{◌≡◌, ◌⊎◌, inl, inr, ℕ, ◌<◌, ◌≤◌, ◌||◌, Bool, true, List, ◌++◌, Option, Some, IsSome, cond, ap, sym, ◌∙◌, refl, subst}
use Rattle.o2_conf.specs.Dispatch.{Dispatch}
use Rattle.o2_entries.specs.Tables.{slot_at}
use Rattle.o2_isa.specs.declared.cpu.Cpu.{Cpu}
use Rattle.o2_isa.specs.Presence.{is_in}
use Rattle.o2_isa.specs.View.{Hold, bound_registers}
use Rattle.o2_place.specs.declared.seg_id.SegId.{SegId}
use Rattle.o2_regions.specs.declared.answer.Answer.{Answer}
use Rattle.o2_regions.specs.declared.answer.Roomed.{Roomed}
use Rattle.o2_regions.specs.declared.answer.Roomed.TheVariants.{Done, NoRoom, SwapFull, SwapFault}
use Rattle.o2_segs.specs.Answers.{AnswersRoomed, IsUnrefused}
use Rattle.o2_world.specs.Rulings.{Ruling}
use Rattle.o2_regions.specs.declared.held.Held.{Held}
use Rattle.o2_regions.specs.Maps.{Maps, held_at}
use Rattle.o2_store.specs.Needs.{named_in}
use Rattle.o2_store.specs.Shelf.{Shelf, place_of}
use Rattle.o2_segbus.specs.Frames.{CanStep, KeepsMaps, KeepsStore}
use Rattle.o2_segbus.specs.Seen.{hold_in, seen}
use Rattle.o2_service.specs.Needs.{needs, segments_of}
use Rattle.o2_service.proofs.Among.{named_needed}
use Rattle.o2_shared.specs.Shares.{StillHolds}
use Rattle.o2_world.specs.declared.types.State.TheVariants.{Live}
use Rattle.o2_world.specs.Calls.{Before, Effect}
use Rattle.o2_world.specs.Effect.{effect, single_stepped}
use Rattle.o2_world.specs.Holders.{process_at}
use Rattle.o2_world.specs.Known.{Known, known_of}
use Rattle.o2_world.specs.Run.{before, changed, next_dispatch, words_coming}
use Rattle.o2_world.specs.Tied.{IsSound}
use Rattle.o2_world.specs.World.{Process, Setting, World, is_live}
use Rattle.o2_world.proofs.Flags.{live_is}
use Rattle.o2_gate.specs.declared.requests.SegmentArguments.{SegmentArguments}
use Rattle.o2_gate.specs.declared.arguments.Arguments.{Arguments}
use Rattle.o2_gate.specs.declared.requests.SegmentArguments.TheVariants.{Alloc, Realloc, Free, Size, Lock, Unlock, Alias, Shared, Huge}
use Rattle.o2_gate.specs.Targets.{asked, targets}
use Rattle.o2_gate.specs.Pointed.{are_ready}
use Rattle.o2_run.specs.Room.{Fits, live_load, room, seated, touched}
use Rattle.o2_run.specs.Stops.{IsSwapFull}
use Rattle.o2_calls.specs.Acts.{MayStop, ruling_of}
use Rattle.o2_calls.specs.Stops.{IsUnrefusedBy, LacksMemory, LacksRoom, LacksRun, LacksRunMemory, LacksSwap, LeavesHolds, LeavesRunHolds}
use Rattle.o2_calls.specs.Tellings.{replied_by}
use Rattle.o2_stands.specs.Moves.{with_running}
use Rattle.o2_stands.specs.Parts.{Parts, Running}
use Rattle.o2_stands.specs.Stands.{AreLawful, IsSetTo, Stands}
use Rattle.o2_stands.proofs.Matching.{stood_by}
use Rattle.o2_stands.proofs.TidySteps.{acted_tidy}
use Rattle.o2_stepping.specs.Nexts.{IsNext, next_start}
use Rattle.o2_stepping.specs.Ran.{IsCallOf}
use Rattle.o2_stepping.specs.Rooms.{aimed_in, ages_of, all_names, needed_names, room_in, seated_in}
use Rattle.o2_stepping.proofs.Asked.{touched_asked, untrapped_asked}
use Rattle.o2_stepping.proofs.Named.{both_in, one_of, or_back, or_front}
use Rattle.o2_space.specs.Calls.{IsCalled}
use Rattle.o2_space.proofs.Afters.{orderly_before}
use Rattle.o2_space.proofs.CallLacks.{HasNoError, full_call, lacks_call, short_call}
use Rattle.o2_space.proofs.CallRooms.{fits_call, holds}
use Rattle.o2_space.proofs.Keeps.{ages_need, keeps_for, live_need, need_present, stays_here, well_kept}
use Rattle.o2_space.proofs.Replied.{equal_self, orderly_call, some_running}

-- the step is a call, with exception 1 behind it or without
effect_of : (b : Before) (a : Arguments) (following : ℕ) → IsCallOf b a following → effect b ≡ single_stepped b (asked a b following)
unfolding effect
effect_of b a following call = ap (single_stepped b) (untrapped_asked b a following call)

-- What a call keeps in memory, and that it is there behind it.
pub record IsKept (s : Shelf) (m : Maps) (keep : List SegId) (n : Maps) (t u : Shelf) (o : Maps) : Type 0 where
  pub kept : (k : ℕ) → named_in s.entries keep k ≡ true → IsSome (slot_at t.entries k) → IsSome (place_of s k) → IsSome (place_of t k)
  pub store : KeepsStore t u
  pub maps : KeepsMaps n o

module _ (p : Parts) (s : Setting) (w : World) (x : Process) (next : IsNext p s w x) (live : is_live x.state ≡ true) (sound : IsSound w) (a : Arguments) (following : ℕ)
    (call : IsCallOf (next_start s w x) a following)
    (c : Cpu) (same : c ≡ x.cpu) (step : CanStep p.shelf p.maps (next_dispatch s w).current c) (ready : are_ready (seen p.shelf p.maps (next_dispatch s w).current c) (targets a) ≡ true) where
  abbrev d : Dispatch
  d = next_dispatch s w

  abbrev b : Before
  b = next_start s w x

  abbrev e : Effect
  e = replied_by a b following

  abbrev v : World
  v = changed w d x e

  abbrev needed : List (SegId × ℕ)
  needed = seated_in p.maps d.current c ++ aimed_in p.maps d.current a

  -- what the step needs the call keeps in memory
  needed_kept : (n : ℕ) → is_in n (needed_names b) ≡ true → is_in n (ages_of needed) ≡ true
  needed_kept n h =
      ap (is_in n) (ages_need p.shelf p.maps d.current c a)
      ∙ (both_in n (seated (bound_registers (hold_in p.maps d.current) c)) (ages_of (aimed_in p.maps d.current a))
      ∙ by (one_of (is_in n (seated b.view.registers)) (is_in n (touched b)) (sym (both_in n (seated b.view.registers) (touched b)) ∙ h)))
    where
      by : (is_in n (seated b.view.registers) ≡ true) ⊎ (is_in n (touched b) ≡ true)
          → (is_in n (seated (bound_registers (hold_in p.maps d.current) c)) || is_in n (ages_of (aimed_in p.maps d.current a))) ≡ true
      by (inl seats) =
          or_front (is_in n (seated (bound_registers (hold_in p.maps d.current) c))) (is_in n (ages_of (aimed_in p.maps d.current a)))
          (subst (λ (r : Cpu). is_in n (seated (bound_registers (hold_in p.maps d.current) r)) ≡ true) (sym same)
          (subst (λ (f : ℕ → Option Hold). is_in n (seated (bound_registers f x.cpu)) ≡ true) (holds p s w x next live sound a following call) seats))
      by (inr behind) =
          or_back (is_in n (seated (bound_registers (hold_in p.maps d.current) c))) (is_in n (ages_of (aimed_in p.maps d.current a)))
          (keeps_for p.shelf p.maps d.current c b.view (holds p s w x next live sound a following call) a n
          (ap (is_in n) (sym (touched_asked b a following call)) ∙ behind))

  held_still : (n o : Maps) → StillHolds p.maps n → o.held ≡ n.held → (pid i : ℕ) (h : Held) → held_at p.maps pid i ≡ Some h → (k : Held) × (held_at o pid i ≡ Some k) × (k.id ≡ h.id)
  held_still n o keeps held pid i h is = (let x = keeps.held pid i h is in (x.0, ap (λ (l : List (Option Held)). held_at (record n { held = l }) pid i) held ∙ x.1, x.2))

  fits : (keep : List SegId) → keep ≡ segments_of needed → (t : Shelf) (n : Maps) → LeavesHolds a.request p.maps n → LeavesRunHolds a.request p.maps n (known_of s w) d.current x.cpu → t.places.size ≡ p.shelf.places.size
      → (q : Parts) → AreLawful q.shelf q.maps → IsKept p.shelf p.maps keep n t q.shelf q.maps
      → (registers : Cpu) (answer : Answer) → IsCalled s w d.current x a following registers q answer
      → room_in p.shelf (all_names b (bound_registers (hold_in p.maps d.current) b.cpu)) ≤ p.shelf.places.size → Fits true s w
  fits keep is t n leaves run size q lawful kept registers answer called fit =
      let r : Running = record { cpu = registers; state = Live } in
      let matches = called.matches d refl in
      let orderly = orderly_call b a following (effect_of b a following call) in
      let tidy = acted_tidy s w x next.chosen (live_is x.state live) sound e (orderly_before b e orderly) next.stands.tidy in
      let standing = stood_by (with_running q d.current r) v.processes v.names v.next_name v.reserved matches tidy in
      let found = some_running (process_at v.processes d.current) r (matches.processes d.current ∙ ap (λ (z : Bool). cond z (Some r) (q.running d.current)) (equal_self d.current)) in
      let list : List ℕ = all_names b (bound_registers (hold_in p.maps d.current) b.cpu) in
      fits_call p s w x next live sound a following call found.0 found.1 (ap (λ (z : Running). z.cpu) found.2 ∙ called.cpu) list
      (λ m h. both_in m (needed_names b) (seated (bound_registers (hold_in p.maps d.current) b.cpu)) ∙ or_front (is_in m (needed_names b)) (is_in m (seated (bound_registers (hold_in p.maps d.current) b.cpu))) h)
      fit (with_running q d.current r) lawful standing (ap (λ (z : Shelf). z.places.size) kept.store.store ∙ size) n leaves run
      (λ keeps m k key h.
      (let named = needed_kept m h in
      stays_here p.shelf q.shelf needed next.stands.ready.aged matches.ready.aged
      (live_need p.shelf p.maps d.current c a p.shelf next.stands.ready.held)
      (live_need p.shelf p.maps d.current c a q.shelf (well_kept q.shelf p.maps q.maps (held_still n q.maps keeps kept.maps.held) matches.ready.held p.shelf next.stands.ready.held))
      stays m k named (need_present p.shelf p.maps d.current c a step ready m named) key))
    where
      stays : (k : ℕ) → needs needed k ≡ true → IsSome (slot_at q.shelf.entries k) → IsSome (place_of p.shelf k) → IsSome (place_of q.shelf k)
      stays k need =
          subst (λ (z : Shelf). IsSome (slot_at z.entries k) → IsSome (place_of p.shelf k) → IsSome (place_of z k)) (sym kept.store.store)
          (kept.kept k
          (ap (λ (ids : List SegId). named_in p.shelf.entries ids k) is
          ∙ named_needed p.shelf needed k (live_need p.shelf p.maps d.current c a p.shelf next.stands.ready.held) need))

-- By the number of the process.

module _ (p : Parts) (s : Setting) (w : World) (x : Process) (lawful : AreLawful p.shelf p.maps) (set : IsSetTo p s) (stands : Stands p w) (live : is_live x.state ≡ true) (sound : IsSound w)
    (wordless : words_coming w ≡ 0) (a : Arguments) (following : ℕ) (c : Cpu) (same : c ≡ x.cpu) (keep : List SegId) where
  -- the process is the one whose step is next, and this step is the call
  pub record IsTurn (n : ℕ) : Type 0 where
    pub there : process_at w.processes n ≡ Some x
    pub call : IsCallOf (before s w n x) a following
    pub step : CanStep p.shelf p.maps n c
    pub ready : are_ready (seen p.shelf p.maps n c) (targets a) ≡ true
    pub keeps : keep ≡ segments_of (seated_in p.maps n c ++ aimed_in p.maps n a)

  next_of : process_at w.processes (next_dispatch s w).current ≡ Some x → IsNext p s w x
  next_of there = record { lawful = lawful; set = set; stands = stands; chosen = there; wordless = wordless }

  pub fits_at : (n : ℕ) → (next_dispatch s w).current ≡ n → IsTurn n → (t : Shelf) (m : Maps) → LeavesHolds a.request p.maps m → LeavesRunHolds a.request p.maps m (known_of s w) n c → t.places.size ≡ p.shelf.places.size
      → (q : Parts) → AreLawful q.shelf q.maps → IsKept p.shelf p.maps keep m t q.shelf q.maps
      → (registers : Cpu) (answer : Answer) → IsCalled s w n x a following registers q answer
      → room_in p.shelf (all_names (before s w n x) (bound_registers (hold_in p.maps n) (before s w n x).cpu)) ≤ p.shelf.places.size → Fits true s w
  fits_at n chosen =
      subst (λ (i : ℕ). IsTurn i → (t : Shelf) (m : Maps) → LeavesHolds a.request p.maps m → LeavesRunHolds a.request p.maps m (known_of s w) i c → t.places.size ≡ p.shelf.places.size
      → (q : Parts) → AreLawful q.shelf q.maps → IsKept p.shelf p.maps keep m t q.shelf q.maps
      → (registers : Cpu) (answer : Answer) → IsCalled s w i x a following registers q answer
      → room_in p.shelf (all_names (before s w i x) (bound_registers (hold_in p.maps i) (before s w i x).cpu)) ≤ p.shelf.places.size → Fits true s w) chosen
      (λ turn t m leaves run.
      fits p s w x (next_of turn.there) live sound a following turn.call c same turn.step turn.ready keep turn.keeps t m leaves
      (subst (λ (r : Cpu). LeavesRunHolds a.request p.maps m (known_of s w) (next_dispatch s w).current r) same run))

  pub lacks_at : (n : ℕ) → (next_dispatch s w).current ≡ n → IsTurn n → (ruling_of a.request (known_of s w) n c).error ≡ 0 → MayStop a.request → LacksRoom a.request p.shelf p.maps n keep → LacksRun a.request p.shelf (known_of s w) n c keep NoRoom → s.memory < room s w
  lacks_at n chosen =
      subst (λ (i : ℕ). IsTurn i → (ruling_of a.request (known_of s w) i c).error ≡ 0 → MayStop a.request → LacksRoom a.request p.shelf p.maps i keep → LacksRun a.request p.shelf (known_of s w) i c keep NoRoom → s.memory < room s w) chosen
      (λ turn none may lacks run.
      lacks_call p s w x (next_of turn.there) live sound a following turn.call c same turn.step turn.ready may
      (subst (λ (r : Cpu). (ruling_of a.request (known_of s w) (next_dispatch s w).current r).error ≡ 0) same none)
      (subst (λ (ids : List SegId). LacksRoom a.request p.shelf p.maps (next_dispatch s w).current ids) turn.keeps lacks)
      (subst (λ (ids : List SegId). LacksRun a.request p.shelf (known_of s w) (next_dispatch s w).current x.cpu ids NoRoom) turn.keeps
      (subst (λ (r : Cpu). LacksRun a.request p.shelf (known_of s w) (next_dispatch s w).current r keep NoRoom) same run)))

  pub full_at : (n : ℕ) → (next_dispatch s w).current ≡ n → IsTurn n → (ruling_of a.request (known_of s w) n c).error ≡ 0 → MayStop a.request → LacksSwap a.request p.shelf p.maps n → LacksRunMemory a.request p.shelf (known_of s w) n c → IsSwapFull p.device s w
  full_at n chosen =
      subst (λ (i : ℕ). IsTurn i → (ruling_of a.request (known_of s w) i c).error ≡ 0 → MayStop a.request → LacksSwap a.request p.shelf p.maps i → LacksRunMemory a.request p.shelf (known_of s w) i c → IsSwapFull p.device s w) chosen
      (λ turn none may lacks run.
      full_call p s w x (next_of turn.there) live sound a following turn.call
      (subst (λ (r : Cpu). (ruling_of a.request (known_of s w) (next_dispatch s w).current r).error ≡ 0) same none) may lacks
      (subst (λ (r : Cpu). LacksRunMemory a.request p.shelf (known_of s w) (next_dispatch s w).current r) same run))

  pub short_at : (n : ℕ) → (next_dispatch s w).current ≡ n → IsTurn n → HasNoError a.request (ruling_of a.request (known_of s w) n c) → MayStop a.request → LacksMemory a.request p.shelf p.maps n → LacksRunMemory a.request p.shelf (known_of s w) n c → s.memory < live_load s w
  short_at n chosen =
      subst (λ (i : ℕ). IsTurn i → HasNoError a.request (ruling_of a.request (known_of s w) i c) → MayStop a.request → LacksMemory a.request p.shelf p.maps i → LacksRunMemory a.request p.shelf (known_of s w) i c → s.memory < live_load s w) chosen
      (λ turn none may lacks run.
      short_call p s w x (next_of turn.there) live sound a following turn.call
      (subst (λ (r : Cpu). HasNoError a.request (ruling_of a.request (known_of s w) (next_dispatch s w).current r)) same none) may lacks
      (subst (λ (r : Cpu). LacksRunMemory a.request p.shelf (known_of s w) (next_dispatch s w).current r) same run))

-- a call that came to no error has none by its ruling
pub unrefused_error : (r : Ruling) (x : Roomed) → AnswersRoomed r x → IsUnrefused x → r.error ≡ 0
unrefused_error r (Done a) answers none = sym answers.error ∙ none
unrefused_error r NoRoom answers none = answers
unrefused_error r SwapFull answers none = answers
unrefused_error r SwapFault answers none = answers

-- a call on a run that stops for want of blocks is short of memory
pub run_full : (a : SegmentArguments) (t : Shelf) (k : Known) (n : ℕ) (c : Cpu) (keep : List SegId) → LacksRun a t k n c keep SwapFull → LacksRunMemory a t k n c
run_full (Alloc size flags) t k n c keep run = tt
run_full (Realloc size z) t k n c keep run = tt
run_full (Free z) t k n c keep run = tt
run_full (Size y) t k n c keep run = tt
run_full (Lock z) t k n c keep run = tt
run_full (Unlock z) t k n c keep run = tt
run_full (Alias y) t k n c keep run = tt
run_full (Shared y) t k n c keep run = tt
run_full (Huge y) t k n c keep run = run

pub unrefused_by : (a : SegmentArguments) (r : Ruling) (x : Roomed) → AnswersRoomed r x → IsUnrefusedBy a x → HasNoError a r
unrefused_by (Alloc size flags) r x answers none = unrefused_error r x answers none
unrefused_by (Realloc size z) r x answers none = unrefused_error r x answers none
unrefused_by (Free z) r x answers none = unrefused_error r x answers none
unrefused_by (Size y) r x answers none = unrefused_error r x answers none
unrefused_by (Lock z) r x answers none = unrefused_error r x answers none
unrefused_by (Unlock z) r x answers none = unrefused_error r x answers none
unrefused_by (Alias y) r x answers none = unrefused_error r x answers none
unrefused_by (Shared y) r x answers none = unrefused_error r x answers none
unrefused_by (Huge y) r x answers none = tt
