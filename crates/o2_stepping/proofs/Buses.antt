-- What the boundless machine sees where a bus over a store shows its view.
use Rattle.std.proofs.Common.{◌≡◌, ℕ, ◌==◌, ◌&&◌, ◌||◌, Bool, true, List, [], ◌∷◌, Option, ap, sym, ◌∙◌, refl, subst}
use Rattle.std.specs.Prelude.{Result, Ok, Err}
use Rattle.o2_base.specs.declared.selector.Selector.{Selector}
use Rattle.o2_isa.specs.declared.cpu.Cpu.{Cpu}
use Rattle.o2_isa.specs.View.{View, Hold, Registers, Filling, Agrees, bound_in, whole, built_gates, no_rest, no_hidden}
use Rattle.o2_isa.specs.Pointers.{has_present_range, is_ready}
use Rattle.o2_isa.specs.Presence.{IsMissed}
use Rattle.o2_store.specs.Shelf.{Shelf}
use Rattle.o2_segbus.specs.declared.seg_bus.SegBus.{SegBus}
use Rattle.o2_segbus.specs.Seen.{gone_in, hold_in, size_in, bytes_in, seen, seen_with}
use Rattle.o2_segbus.specs.Bus.{bus_view}
use Rattle.o2_segbus.specs.Calls.{view_of}
use Rattle.o2_world.specs.Known.{Known}
use Rattle.o2_world.specs.Calls.{Before}
use Rattle.o2_world.specs.Effect.{effect}
use Rattle.o2_run.specs.declared.fault.Fault.{Fault}
use Rattle.o2_run.specs.Pieces.{Counts}
use Rattle.o2_stepping.specs.Pieces.{AttemptPart}
use Rattle.o2_world.specs.Slots.{Pointer}
use Rattle.o2_run.specs.Room.{touched}
use Rattle.o2_gate.specs.declared.arguments.Arguments.{Arguments}
use Rattle.o2_gate.specs.Befores.{boundless, before_call}
use Rattle.o2_gate.specs.Replies.{bytes_of}
use Rattle.o2_gate.specs.Pointed.{ArePresent, are_ready}
use Rattle.o2_stepping.specs.Ran.{Leaves, OnMissed}
use Rattle.o2_stepping.specs.Worlds.{bytes_with, world_view}
use Rattle.o2_stepping.specs.declared.one_step.Attempt.{Attempt}
use Rattle.o2_stepping.specs.declared.one_step.Attempt.TheVariants as attempt

-- these bytes for what is absent
abbrev pub filling : (ℕ → List ℕ) → Filling
filling away = record { blocks = away; hidden = no_hidden }

abbrev by_registers : (ℕ → List ℕ) → Shelf → (ℕ → Option Hold) → Registers → View
by_registers away s held registers = record {
  held = held;
  gate = built_gates;
  size = size_in s;
  present = λ n. true;
  discarded = gone_in s;
  bytes = bytes_with away s;
  registers = registers;
  rest = no_rest;
  hidden = no_hidden;
}

module _ (away : ℕ → List ℕ) (b : SegBus) where
  pub boundless_is : (c : Cpu) → Agrees c (view_of b) → boundless (filling away) (view_of b) ≡ world_view away b.store.now b.regions.now b.pid c
  unfolding bus_view seen_with
  boundless_is c a = ap (by_registers away b.store.now (hold_in b.regions.now b.pid)) a

  pub bytes_are : (n : ℕ) → (whole (filling away) (view_of b)).bytes n ≡ bytes_with away b.store.now n
  unfolding bus_view seen_with
  bytes_are n = refl

-- what is seen of store and tables is present where it is on the bus
pub present_there : (b : SegBus) (c : Cpu) (names : List ℕ) → ArePresent (view_of b) names → ArePresent (seen b.store.now b.regions.now b.pid c) names
unfolding bus_view seen_with
present_there b c names p = p

pub missed_there : (b : SegBus) (c : Cpu) (s : Selector) (names : List ℕ) → IsMissed (view_of b) s names → IsMissed (seen b.store.now b.regions.now b.pid c) s names
unfolding bus_view seen_with
missed_there b c s names m = record { hold = m.hold; found_it = m.found_it; absent = m.absent; whole = m.whole; named = m.named }

-- where a step is missed
pub on_missed : (P Q : Selector → Type 0) (r : Result Attempt Fault) → ((s : Selector) → P s → Q s) → OnMissed r P → OnMissed r Q
on_missed P Q (Ok (attempt.Missed s)) f p = f s p
on_missed P Q (Ok (attempt.Stepped x)) f p = tt
on_missed P Q (Err x) f p = tt

-- the step, and what is missed
module _ (away : ℕ → List ℕ) (a b : SegBus) (c d : Cpu) (number : ℕ) (input : List ℕ) (known : Known) (agrees : Agrees c (view_of a)) where
  abbrev on_bus : Before
  on_bus = before_call (boundless (filling away) (view_of a)) number c input known

  abbrev in_store : Before
  in_store = before_call (world_view away a.store.now a.regions.now a.pid c) number c input known

  pub leaves_there : (i j x y r q : Option (List ℕ)) (result : Result Attempt Fault)
      → Leaves on_bus (effect on_bus) d (whole (filling away) (view_of a)).bytes (whole (filling away) (view_of b)).bytes i j x y r q result
      → Leaves in_store (effect in_store) d (bytes_with away a.store.now) (bytes_with away b.store.now) i j x y r q result
  unfolding bus_view seen_with
  leaves_there i j x y r q result h =
      subst (λ (v : View). let e = before_call v number c input known in Leaves e (effect e) d (bytes_with away a.store.now) (bytes_with away b.store.now) i j x y r q result)
      (boundless_is away a c agrees) h

  pub part_there : (n : Counts) (result : Result Attempt Fault) → AttemptPart (effect on_bus) n result → AttemptPart (effect in_store) n result
  part_there n result h = subst (λ (v : View). AttemptPart (effect (before_call v number c input known)) n result) (boundless_is away a c agrees) h

  touched_same : touched on_bus ≡ touched in_store
  touched_same = ap (λ (v : View). touched (before_call v number c input known)) (boundless_is away a c agrees)

  pub step_missed : (result : Result Attempt Fault) → OnMissed result (λ s. IsMissed (view_of a) s (touched on_bus)) → OnMissed result (λ s. IsMissed (seen a.store.now a.regions.now a.pid c) s (touched in_store))
  step_missed result h =
      on_missed (λ s. IsMissed (view_of a) s (touched on_bus)) (λ s. IsMissed (seen a.store.now a.regions.now a.pid c) s (touched in_store)) result
      (λ s m. missed_there a c s (touched in_store) (subst (λ (ns : List ℕ). IsMissed (view_of a) s ns) touched_same m)) h

  pub step_present : ArePresent (view_of a) (touched on_bus) → ArePresent (seen a.store.now a.regions.now a.pid c) (touched in_store)
  step_present h = present_there a c (touched in_store) (subst (λ (ns : List ℕ). ArePresent (view_of a) ns) touched_same h)

-- the bytes in memory
pub bytes_there : (a b : SegBus) → view_of b ≡ view_of a → (n : ℕ) → bytes_in b.store.now n ≡ bytes_in a.store.now n
unfolding bus_view seen_with
bytes_there a b e n = ap (λ (v : View). v.bytes n) e

-- Pointers are ready for a write where what is held, its presence and its bytes are the same.

ready_like : (v w : View) (ps : List Pointer) → v.held ≡ w.held → v.present ≡ w.present → v.bytes ≡ w.bytes → are_ready v ps ≡ are_ready w ps
unfolding is_ready
ready_like v w [] held present bytes = refl
ready_like v w (p ∷ ps) held present bytes =
    ap (λ (h : ℕ → Option Hold). ((p.count == 0) || has_present_range p.good v p.offset p.count (bound_in h p.selector)) && are_ready v ps) held
    ∙ (ap (λ (f : ℕ → Bool). ((p.count == 0) || has_present_range p.good (record v { present = f }) p.offset p.count (bound_in w.held p.selector)) && are_ready v ps) present
    ∙ (ap (λ (f : ℕ → List ℕ). ((p.count == 0) || has_present_range p.good (record w { bytes = f }) p.offset p.count (bound_in w.held p.selector)) && are_ready v ps) bytes
    ∙ ap (λ (b : Bool). ((p.count == 0) || has_present_range p.good w p.offset p.count (bound_in w.held p.selector)) && b) (ready_like v w ps held present bytes)))

-- on a bus as in store and tables
pub aimed_there : (a : SegBus) (pid : ℕ) (c : Cpu) (ps : List Pointer) → hold_in a.regions.now a.pid ≡ hold_in a.regions.now pid → are_ready (view_of a) ps ≡ true → are_ready (seen a.store.now a.regions.now pid c) ps ≡ true
unfolding bus_view seen_with
aimed_there a pid c ps held ready = sym (ready_like (view_of a) (seen a.store.now a.regions.now pid c) ps held refl refl) ∙ ready

-- and in store and tables as on the bus
pub aimed_on : (a : SegBus) (c : Cpu) (ps : List Pointer) → are_ready (seen a.store.now a.regions.now a.pid c) ps ≡ true → are_ready (view_of a) ps ≡ true
unfolding bus_view seen_with
aimed_on a c ps ready = ready_like (view_of a) (seen a.store.now a.regions.now a.pid c) ps refl refl refl ∙ ready

-- what is written behind a pointer
pub given_there : (away : ℕ → List ℕ) (a b : SegBus) (x : Arguments) (error value n : ℕ)
    → (whole (filling away) (view_of b)).bytes n ≡ bytes_of x error value (view_of a).held (whole (filling away) (view_of a)).bytes n
    → bytes_with away b.store.now n ≡ bytes_of x error value (hold_in a.regions.now a.pid) (bytes_with away a.store.now) n
unfolding bus_view seen_with
given_there away a b x error value n e = e
