-- Steps that are done at once, from the view of a bus to store and tables.
use Rattle.std.proofs.Common.{◌≡◌, ℕ, ◌≤◌, length, zero, suc, ◌+◌, ◌-◌, true, false, List, Option, Some, ap, sym, ◌∙◌, refl, subst, arith}
use Rattle.std.specs.Prelude.{Result, Ok, Err}
use Rattle.o2_outer.proofs.TextLemmas.{gains_none}
use Rattle.o2_isa.specs.declared.cpu.Cpu.{Cpu}
use Rattle.o2_isa.specs.declared.cpu.Outcome.{Outcome}
use Rattle.o2_isa.specs.declared.cpu.Outcome.TheVariants as outcome
use Rattle.o2_isa.specs.declared.cpu.Stop.{Stop}
use Rattle.o2_isa.specs.declared.cpu.Stop.TheVariants as stop
use Rattle.o2_isa.specs.View.{Agrees, Filling, Hold, IsBound, KeepsFrame, View, bound_registers, built_gates, no_hidden, no_rest, whole}
use Rattle.o2_isa.specs.Presence.{whole_state}
use Rattle.o2_isa.specs.Step.{Answers, AsBoundless, step_names}
use Rattle.o2_isa.specs.Steps.{State as Machine, state}
use Rattle.o2_isa.specs.Writes.{WritesData}
use Rattle.o2_regions.specs.Maps.{IsProcess, Maps}
use Rattle.o2_place.specs.Layout.{len_of, over, used}
use Rattle.o2_store.specs.Shelf.{Shelf, place_of}
use Rattle.o2_segbus.specs.declared.seg_bus.SegBus.{SegBus}
use Rattle.o2_segbus.specs.Bus.{bus_view, registers_of}
use Rattle.o2_segbus.specs.Calls.{LeavesBus, view_of}
use Rattle.o2_segbus.specs.Frames.{CanStep}
use Rattle.o2_segbus.specs.Seen.{bytes_in, gone_in, hold_in, present_in, seen, seen_with, size_in}
use Rattle.o2_segbus.proofs.Attempts.{still}
use Rattle.o2_segbus.proofs.Called.{held_data, leaves}
use Rattle.o2_stands.specs.Stands.{AreLawful}
use Rattle.o2_world.specs.Known.{Known}
use Rattle.o2_world.specs.CallParts.{waiting}
use Rattle.o2_world.specs.Calls.{Before, Effect, row_of, serviced}
use Rattle.o2_world.specs.Effect.{answered, effect, has_trap_flag, single_stepped}
use Rattle.o2_gate.specs.Befores.{before_call, boundless}
use Rattle.o2_gate.specs.Pointed.{ArePresent}
use Rattle.o2_run.specs.Room.{call_names, touched}
use Rattle.o2_stepping.specs.Ran.{IsDone}
use Rattle.o2_slices.specs.Slices.{AreSteps, Follows, IsStep, IsTry, Seat, quiet, seat}
use Rattle.o2_stepping.specs.Worlds.{bytes_with, world_view}
use Rattle.o2_stepping.proofs.Buses.{boundless_is, bytes_there, filling, present_there}
use Rattle.o2_stepping.proofs.Gates.{done_boundless, gate_boundless, whole_same}
use Rattle.o2_stepping.proofs.Keeping.{marks_hold}
use Rattle.o2_stepping.proofs.Leaving.{effect_by, waited, without_flag}
use Rattle.o2_stepping.proofs.Touches.{call_present}
use Rattle.o2_stepping.proofs.Worlds.{same_map}

-- what doesn't complete changes nothing
pub not_done : (o : Outcome) (new old : Machine) (m : Result Machine Stop) → (o ≡ outcome.Done → ⊥) → Answers o new old m → new ≡ old
not_done outcome.Done new old m other a = absurd (other refl)
not_done (outcome.Miss t) new old m other a = a.1
not_done (outcome.Trap vector code) new old m other a = a.1
not_done (outcome.Gate service next) new old m other a = a.1

-- a step that completes without the trap flag
pub done_quietly : (f : Filling) (v w : View) (c d : Cpu) (number : ℕ) (bytes : List ℕ) (known : Known) (x r : Option (List ℕ)) → has_trap_flag c.flags ≡ false → AsBoundless f outcome.Done (state d w) (state c v)
    → IsDone (effect (before_call (boundless f v) number c bytes known)) quiet d (whole f w).bytes (Some bytes) x x r r
done_quietly f v w c d number bytes known x r clear done =
    let b : Before = before_call (boundless f v) number c bytes known in
    let o : Result Machine Stop = Ok (state d (boundless f w)) in
    subst (λ (e : Effect). IsDone e quiet d (whole f w).bytes (Some bytes) x x r r)
    (sym (effect_by b o (done_boundless f v w c d done) ∙ without_flag b (answered b o) clear))
    (record {
      state = refl;
      ends = λ late. absurd (cc);
      puts = record { bytes = refl; lines = refl };
      changes = refl;
      cpu = refl;
      bytes = λ n. refl;
      input = refl;
      to_console = gains_none x;
      to_report = gains_none r;
    })

-- A call that waits, told from the machine s before its far CALL, which changes nothing.
module _ (f : Filling) (number : ℕ) (bytes : List ℕ) (known : Known) (service next : ℕ) where
  abbrev pub waits_at : Machine → Type 0
  waits_at s = let b = before_call (boundless f s.view) number s.cpu bytes known in serviced b service next ≡ waiting b

  abbrev pub names_at : Machine → Type 0
  names_at s = ArePresent s.view (call_names (before_call (boundless f s.view) number s.cpu bytes known) (row_of service))

  module _ (v w : View) (c d : Cpu) (gate : AsBoundless f (outcome.Gate service next) (state d w) (state c v)) (same : state d w ≡ state c v) where
    pub waits_quietly : (u : View) (x r : Option (List ℕ)) → u ≡ w → waits_at (state d w)
        → IsDone (effect (before_call (boundless f v) number c bytes known)) quiet d (whole f u).bytes (Some bytes) x x r r
    waits_quietly u x r alike waits =
        let b : Before = before_call (boundless f v) number c bytes known in
        let there : serviced b service next ≡ waiting b = subst waits_at same waits in
        waited b (effect b) (effect_by b (Err (stop.Gate service next)) (gate_boundless f v w c d service next gate) ∙ ap (λ (e : Effect). single_stepped b e) there)
        d (whole f v).bytes (whole f u).bytes (Some bytes) (Some bytes) x x r r (λ n. refl) refl
        (record {
          cpu = ap (λ (s : Machine). s.cpu) same;
          bytes = whole_same f v u (alike ∙ ap (λ (s : Machine). s.view) same);
          input = refl;
          to_console = refl;
          to_report = refl;
        })

    pub waits_present : ArePresent v (step_names (whole_state f (state c v))) → names_at (state d w)
        → ArePresent v (touched (before_call (boundless f v) number c bytes known))
    waits_present loads named =
        call_present f v c number bytes known service next (gate_boundless f v w c d service next gate) loads (subst names_at same named)

-- What a process sees hangs on what it holds, whatever its number.

abbrev by_holds : Shelf → Cpu → (ℕ → Option Hold) → View
by_holds s c held = record {
  held = held;
  gate = built_gates;
  size = size_in s;
  present = present_in s;
  discarded = gone_in s;
  bytes = bytes_in s;
  registers = bound_registers held c;
  rest = no_rest;
  hidden = no_hidden;
}

module _ (s : Shelf) (m : Maps) (p q : ℕ) (c : Cpu) (same : hold_in m p ≡ hold_in m q) where
  pub seen_as : seen s m p c ≡ seen s m q c
  unfolding seen_with
  seen_as = ap (by_holds s c) same

  world_as : (away : ℕ → List ℕ) → world_view away s m p c ≡ world_view away s m q c
  world_as away = ap (λ (v : View). record v { present = λ n. true; bytes = bytes_with away s }) seen_as

  can_step_as : IsProcess m q → CanStep s m p c → CanStep s m q c
  can_step_as process x = record {
    process = process;
    named = x.named;
    settled = x.settled;
    bound = subst (λ (v : View). IsBound v) seen_as x.bound;
  }

-- a bus that agrees with the processor
pub agreed : (b : SegBus) (c : Cpu) → Agrees c (view_of b) → registers_of b.regions.now b.pid b.registers ≡ bound_registers (hold_in b.regions.now b.pid) c
unfolding bus_view seen_with
agreed b c e = e

-- what a bus leaves, by the frame of its view
module _ (a b : SegBus) (pid : ℕ) (frame : KeepsFrame (view_of a) (view_of b)) (process : IsProcess a.regions.now pid) (holds : hold_in a.regions.now a.pid ≡ hold_in a.regions.now pid) where
  left : LeavesBus a b
  left = leaves a b frame

  stays : (n : ℕ) → hold_in b.regions.now n ≡ hold_in a.regions.now n
  stays n = same_map a.regions.now b.regions.now n (marks_hold a.regions.now b.regions.now left.maps)

  pub process_stays : IsProcess b.regions.now pid
  process_stays = still a.regions.now b.regions.now pid left.maps.processes process

  pub holds_stay : hold_in b.regions.now b.pid ≡ hold_in b.regions.now pid
  holds_stay = left.process ∙ stays a.pid ∙ holds ∙ sym (stays pid)

  own_stays : hold_in b.regions.now a.pid ≡ hold_in b.regions.now pid
  own_stays = stays a.pid ∙ holds ∙ sym (stays pid)

  module _ (c d : Cpu) (agrees : Agrees c (view_of a)) (agree : Agrees d (view_of b)) (writes : WritesData (view_of a) (view_of b)) (lawful : AreLawful b.store.now b.regions.now)
      (sum : over (λ k. len_of (place_of b.store.now k)) (length b.store.now.entries) ≡ used b.store.now.places.ranges) (within : used b.store.now.places.ranges ≤ b.store.now.places.size) where
    pub follows : Follows pid (seat a.store.now a.regions.now c) (seat b.store.now b.regions.now d)
    follows = record {
      store = left.store;
      maps = left.maps;
      clean = left.clean (held_data (view_of a) (view_of b) c agrees writes);
      next = can_step_as b.store.now b.regions.now a.pid pid d own_stays process_stays (left.next d agree);
      lawful = lawful;
      sum = sum;
      within = within;
    }

    pub tried_there : d ≡ c → view_of b ≡ view_of a → IsTry pid (seat a.store.now a.regions.now c) (seat b.store.now b.regions.now d)
    tried_there cpu view = record { follows = follows; cpu = cpu; bytes = bytes_there a b view }

  module _ (away : ℕ → List ℕ) (c d : Cpu) (input : List ℕ) (known : Known) (agrees : Agrees c (view_of a)) where
    sight : boundless (filling away) (view_of a) ≡ world_view away a.store.now a.regions.now pid c
    sight = boundless_is away a c agrees ∙ world_as a.store.now a.regions.now a.pid pid c holds away

    pub done_there : (x r : Option (List ℕ)) → IsDone (effect (before_call (boundless (filling away) (view_of a)) pid c input known)) quiet d (whole (filling away) (view_of b)).bytes (Some input) x x r r
        → IsDone (effect (before_call (world_view away a.store.now a.regions.now pid c) pid c input known)) quiet d (bytes_with away b.store.now) (Some input) x x r r
    unfolding bus_view seen_with
    done_there x r h = subst (λ (v : View). IsDone (effect (before_call v pid c input known)) quiet d (bytes_with away b.store.now) (Some input) x x r r) sight h

    pub touched_there : ArePresent (view_of a) (touched (before_call (boundless (filling away) (view_of a)) pid c input known))
        → ArePresent (seen a.store.now a.regions.now pid c) (touched (before_call (world_view away a.store.now a.regions.now pid c) pid c input known))
    touched_there h =
        let names : List ℕ = touched (before_call (world_view away a.store.now a.regions.now pid c) pid c input known) in
        subst (λ (v : View). ArePresent v names) (seen_as a.store.now a.regions.now a.pid pid c holds)
        (present_there a c names (subst (λ (v : View). ArePresent (view_of a) (touched (before_call v pid c input known))) sight h))

-- the bus as it is, by itself
pub same_frame : (v : View) → KeepsFrame v v
same_frame v = record { held = refl; gate = refl; size = refl; present = refl; discarded = refl; rest = refl; hidden = refl }

pub may_begin : (a : SegBus) (pid : ℕ) (c : Cpu) → IsProcess a.regions.now pid → hold_in a.regions.now a.pid ≡ hold_in a.regions.now pid → Agrees c (view_of a) → CanStep a.store.now a.regions.now pid c
may_begin a pid c process holds agrees = can_step_as a.store.now a.regions.now a.pid pid c holds process ((leaves a a (same_frame (view_of a))).next c agrees)

-- One step more.
pub one_more : (pid k : ℕ) (a b d : Seat) → AreSteps pid k a b → IsStep pid b d → AreSteps pid (k + 1) a d
one_more pid k a b d steps step = subst (λ (n : ℕ). AreSteps pid n a d) (next k) (b, (steps, step))
  where
    next : (n : ℕ) → suc n ≡ n + 1
    next n = omega arith

-- A step that left all as it was, from there.
module _ (a b : SegBus) (pid : ℕ) (c d : Cpu) (cpu : d ≡ c) (view : view_of b ≡ view_of a) (f : Filling) (bytes : List ℕ) (known : Known) where
  pub done_again : (x r : Option (List ℕ)) → IsDone (effect (before_call (boundless f (view_of a)) pid c bytes known)) quiet d (whole f (view_of b)).bytes (Some bytes) x x r r
      → IsDone (effect (before_call (boundless f (view_of b)) pid d bytes known)) quiet d (whole f (view_of b)).bytes (Some bytes) x x r r
  done_again x r h =
      subst (λ (z : Cpu). IsDone (effect (before_call (boundless f (view_of b)) pid z bytes known)) quiet d (whole f (view_of b)).bytes (Some bytes) x x r r) (sym cpu)
      (subst (λ (v : View). IsDone (effect (before_call (boundless f v) pid c bytes known)) quiet d (whole f (view_of b)).bytes (Some bytes) x x r r) (sym view) h)

  pub present_again : ArePresent (view_of a) (touched (before_call (boundless f (view_of a)) pid c bytes known))
      → ArePresent (view_of b) (touched (before_call (boundless f (view_of b)) pid d bytes known))
  present_again h =
      subst (λ (z : Cpu). ArePresent (view_of b) (touched (before_call (boundless f (view_of b)) pid z bytes known))) (sym cpu)
      (subst (λ (v : View). ArePresent v (touched (before_call (boundless f v) pid c bytes known))) (sym view) h)

-- Steps up to so many, where the next one leaves all as it is.
pub as_often : (pid : ℕ) (a b : Seat) → IsStep pid b b → (k n : ℕ) → AreSteps pid k a b → k ≤ n → AreSteps pid n a b
as_often pid a b again k n steps within = go (n - k) n (omega (arith, within))
  where
    go : (j m : ℕ) → m ≡ j + k → AreSteps pid m a b
    go zero m e = let is : k ≡ m = omega (arith, e) in subst (λ (i : ℕ). AreSteps pid i a b) is steps
    go (suc j) m e =
        let before : m - 1 ≡ j + k = omega (arith, e) in
        let is : m - 1 + 1 ≡ m = omega (arith, e) in
        subst (λ (i : ℕ). AreSteps pid i a b) is (one_more pid (m - 1) a b b (go j (m - 1) before) again)
