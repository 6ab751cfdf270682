-- A step of a process that is done, or that asks for a call on segments, which is then made.
use Rattle.std.proofs.Common.{◌≡◌, ℕ, ◌≤◌, Bool, true, false, List, Option, length, ap, sym, refl, subst, arith}
use Rattle.std.specs.Prelude.{Result, Ok, Err}
use Rattle.o2_isa.specs.declared.cpu.Cpu.{Cpu}
use Rattle.o2_isa.specs.View.{bound_registers}
use Rattle.o2_regions.specs.Maps.{Maps}
use Rattle.o2_segbus.specs.Seen.{hold_in}
use Rattle.o2_store.specs.Shelf.{Shelf}
use Rattle.o2_gate.specs.declared.arguments.Arguments.{Arguments}
use Rattle.o2_run.specs.declared.fault.Fault.{Fault}
use Rattle.o2_run.specs.declared.fault.Fault.TheVariants as fault
use Rattle.o2_run.specs.declared.steps.Stop.TheVariants as stop
use Rattle.o2_run.specs.Pieces.{Counts, FailsInLine, Hands, counts, puts_of, told_counts}
use Rattle.o2_gate.proofs.Fails.{no_piece}
use Rattle.o2_run.specs.Room.{Fits}
use Rattle.o2_world.specs.Calls.{Before, Effect}
use Rattle.o2_world.specs.Effect.{effect}
use Rattle.o2_world.specs.World.{Process, Setting, World}
use Rattle.o2_stands.specs.Parts.{Parts}
use Rattle.o2_stands.specs.Stands.{Stands}
use Rattle.o2_stepping.specs.Pieces.{HandsWhole, LatePart, RanHands, RanPart, StepHands, StepPart}
use Rattle.o2_stepping.specs.Rooms.{all_names, room_in}
use Rattle.o2_stepping.specs.Shapes.{SameShape}
use Rattle.o2_stepping.specs.Taken.{IsSwapStop, OnAsks, OnNoStep, OnBegun, OnStep, SteppedFor, TakenFor}
use Rattle.o2_stepping.specs.declared.one_step.Ran.{Ran}
use Rattle.o2_stepping.specs.declared.one_step.Stepped.{Stepped}
use Rattle.o2_stepping.specs.declared.one_step.Stepped.TheVariants as stepped
use Rattle.o2_stepping.proofs.Rooms.{room_same}
use Rattle.o2_stepping.proofs.Steps.{at_stop}
use Rattle.o2_stepping.proofs.Worlds.{same_map}
use Rattle.o2_space.specs.Acts.{Acts, AreMarkedBehind}
use Rattle.o2_space.specs.Between.{IsAskedFor, IsBetween, Steps}
use Rattle.o2_space.specs.Nexts.{SaysStep}

-- By what the step came to.

pub hands_whole : (whole : Bool) (n : Counts) (pieces lines : ℕ) → Hands n pieces lines → HandsWhole whole n pieces lines
hands_whole true n pieces lines h = h
hands_whole false n pieces lines h = record {
  to_console = h.to_console;
  at_least = (let r = h.to_report in omega (arith, r));
  at_most = (let r = h.to_report in omega (arith, r));
}

module _ (z : Stepped) (ran : Ran) (is : z ≡ stepped.Ran ran) where
  pub ran_between : (b : Before) (w : World) (cpu : Cpu) (p : Parts) (i j c d r q : Option (List ℕ)) → Steps b w cpu p i j c d r q (Ok z) → IsBetween w (effect b) ran cpu p j c d r q
  ran_between b w cpu p i j c d r q h = subst (λ (x : Stepped). Steps b w cpu p i j c d r q (Ok x)) is h

  pub ran_says : (device : ℕ) (s : Setting) (w : World) → SaysStep device s w (Ok z) → Fits true s w
  ran_says device s w h = subst (λ (x : Stepped). SaysStep device s w (Ok x)) is h

  pub ran_puts : (n : Counts) → StepHands n (Ok z) → RanHands n (Ok ran)
  ran_puts n h = hands_whole ran.whole n (puts_of ran.tally.bytes) ran.tally.lines (subst (λ (x : Stepped). StepHands n (Ok x)) is h)

  pub ran_part : (e : Effect) (n : Counts) → StepPart e n (Ok z) → RanPart e n (Ok ran)
  ran_part e n h = subst (λ (x : Stepped). StepPart e n (Ok x)) is h

  pub ran_cause : (sink input : Type 0) → SteppedFor sink input (Ok z) → ran.whole ≡ false → sink
  ran_cause sink input h = subst (λ (x : Stepped). SteppedFor sink input (Ok x)) is h

module _ (z : Stepped) (a : Arguments) (next : ℕ) (is : z ≡ stepped.Asked a next) where
  pub asked_between : (b : Before) (w : World) (cpu : Cpu) (p : Parts) (i j c d r q : Option (List ℕ)) → Steps b w cpu p i j c d r q (Ok z) → IsAskedFor b w a next cpu p i j c d r q
  asked_between b w cpu p i j c d r q h = subst (λ (x : Stepped). Steps b w cpu p i j c d r q (Ok x)) is h

  pub asked_at : (P : Arguments → Type 0) → OnAsks (Ok z) P → P a
  asked_at P h = subst (λ (x : Stepped). OnAsks (Ok x) P) is h

  pub asked_room : (P : Cpu → Type 0) (done asked : Cpu) → OnStep (Ok z) P done asked → P asked
  asked_room P done asked h = subst (λ (x : Stepped). OnStep (Ok x) P done asked) is h

-- Where nothing was taken or put before the call.

pub acts_from : (b : Before) (w : World) (x : Process) (p : Parts) {i j c d r k : Option (List ℕ)} (q : Option (List ℕ)) (result : Result Ran Fault) → j ≡ i → d ≡ c → k ≡ r
    → Acts b w x p i i c c k q result → Acts b w x p i j c d r q result
acts_from b w x p {i} {j} {c} {d} {r} {k} q result input console report h =
    subst (λ (z : Option (List ℕ)). Acts b w x p i z c d r q result) (sym input)
    (subst (λ (z : Option (List ℕ)). Acts b w x p i i c z r q result) (sym console)
    (subst (λ (z : Option (List ℕ)). Acts b w x p i i c c z q result) report h))

pub puts_from : {c d r k : ℕ} (q : ℕ) (result : Result Ran Fault) → d ≡ c → k ≡ r → RanHands (counts c c k q 0) result → RanHands (counts c d r q 0) result
puts_from {c} {d} {r} {k} q result console report h =
    subst (λ (z : ℕ). RanHands (counts c z r q 0) result) (sym console) (subst (λ (z : ℕ). RanHands (counts c c z q 0) result) report h)

pub marks_from : {old now : List Bool} (new : List Bool) (pid : ℕ) (result : Result Ran Fault) → now ≡ old → AreMarkedBehind now new pid result → AreMarkedBehind old new pid result
marks_from new pid result same h = subst (λ (z : List Bool). AreMarkedBehind z new pid result) same h

-- what a step needs in memory is the same behind a try of it
pub room_kept : (s t : Shelf) (m n : Maps) → SameShape s m t n → (b : Before) (pid : ℕ) (c : Cpu) → room_in s (all_names b (bound_registers (hold_in m pid) c)) ≤ s.places.size
    → room_in t (all_names b (bound_registers (hold_in n pid) c)) ≤ t.places.size
room_kept s t m n shape b pid c h =
    let names : List ℕ = all_names b (bound_registers (hold_in m pid) c) in
    let same = room_same s t names shape.tables in
    let size = shape.tables.size in
    let map = ap (λ held. room_in t (all_names b (bound_registers held c))) (same_map m n pid shape.holds) in
    omega (arith, h, same, size, map)

-- By what the call came to.

pub stop_same : (P Q : Type 0) (result : Result Ran Fault) → (P → Q) → OnNoStep result P → OnNoStep result Q
stop_same P Q (Ok ran) f h = tt
stop_same P Q (Err x) f h = at_stop P P P Q Q Q x f f f h

-- the same fault, of a step, of a call and of what it has done
pub as_failed : {T U : Type 0} (f g : Fault) → (let r : Result T Fault = Err f in r ≡ Err g) → (let r : Result U Fault = Err f in r ≡ Err g)
as_failed f g e = (let same : f ≡ g = cc in ap (λ z. Err z) same)

-- a call on segments reads no input
pub cause_by : (P Q R : Type 0) (result : Result Ran Fault) → (P → Q) → TakenFor P ⊥ result → TakenFor Q R result
cause_by P Q R (Ok ran) f h = λ e. f (h e)
cause_by P Q R (Err fault.Sink) f h = f h
cause_by P Q R (Err (fault.Stopped stop.Input)) f h = absurd h
cause_by P Q R (Err (fault.Stopped stop.NoRoom)) f h = tt
cause_by P Q R (Err (fault.Stopped stop.SwapFull)) f h = tt
cause_by P Q R (Err (fault.Stopped stop.SwapFault)) f h = tt

-- a call stops for room or for swap alone, and then it leaves nothing of its lines
pub part_none : (e : Effect) (n : Counts) (f : Fault) → IsSwapStop f → (let result : Result Ran Fault = Err f in RanPart e n result)
part_none e n fault.Sink is = absurd is
part_none e n (fault.Stopped why) is = tt

-- its line that failed, by the effect
pub part_late : (e : Effect) (c x y : ℕ) (r q : Option (List ℕ)) (ran : Ran) → length e.piece ≡ 0 → (ran.whole ≡ false → FailsInLine e.lines r q x y)
    → (let result : Result Ran Fault = Ok ran in RanPart e (told_counts c c x y 0 r q) result)
part_late e c x y r q ran none late = go ran.whole late
  where
    go : (w : Bool) → (w ≡ false → FailsInLine e.lines r q x y) → LatePart w e (told_counts c c x y 0 r q)
    go true h = tt
    go false h = (no_piece c (length e.piece) none, h refl)

-- from where the report had taken as much
pub part_from : (e : Effect) {c d r k : ℕ} {t s : Option (List ℕ)} (q : ℕ) (u : Option (List ℕ)) (result : Result Ran Fault) → d ≡ c → k ≡ r → s ≡ t
    → RanPart e (told_counts c c k q 0 s u) result → RanPart e (told_counts c d r q 0 t u) result
part_from e {c} {d} {r} {k} {t} {s} q u result console report text h =
    subst (λ (z : ℕ). RanPart e (told_counts c z r q 0 t u) result) (sym console)
    (subst (λ (z : ℕ). RanPart e (told_counts c c z q 0 t u) result) report
    (subst (λ (z : Option (List ℕ)). RanPart e (told_counts c c k q 0 z u) result) text h))

-- A call stops for room or for swap alone.

pub stops_stay : (b : Before) (w : World) (x : Process) (p : Parts) (i c r : Option (List ℕ)) (f : Fault) → IsSwapStop f → Stands p w → (let result : Result Ran Fault = Err f in Acts b w x p i i c c r r result)
stops_stay b w x p i c r fault.Sink is stands = absurd is
stops_stay b w x p i c r (fault.Stopped stop.Input) is stands = absurd is
stops_stay b w x p i c r (fault.Stopped stop.NoRoom) is stands = record { stands = stands; input = refl; to_console = refl; to_report = refl }
stops_stay b w x p i c r (fault.Stopped stop.SwapFull) is stands = record { stands = stands; input = refl; to_console = refl; to_report = refl }
stops_stay b w x p i c r (fault.Stopped stop.SwapFault) is stands = record { stands = stands; input = refl; to_console = refl; to_report = refl }

pub no_step : (P : Type 0) (f : Fault) → P → (let result : Result Ran Fault = Err f in OnNoStep result P)
no_step P fault.Sink h = tt
no_step P (fault.Stopped stop.Input) h = tt
no_step P (fault.Stopped stop.NoRoom) h = h
no_step P (fault.Stopped stop.SwapFull) h = h
no_step P (fault.Stopped stop.SwapFault) h = h

pub not_begun : (f : Fault) → IsSwapStop f → (let result : Result Ran Fault = Err f in OnBegun result ⊥)
not_begun fault.Sink is = absurd is
not_begun (fault.Stopped stop.Input) is = absurd is
not_begun (fault.Stopped stop.NoRoom) is = tt
not_begun (fault.Stopped stop.SwapFull) is = tt
not_begun (fault.Stopped stop.SwapFault) is = tt

pub not_caused : (P : Type 0) (f : Fault) → IsSwapStop f → (let result : Result Ran Fault = Err f in TakenFor P ⊥ result)
not_caused P fault.Sink is = absurd is
not_caused P (fault.Stopped stop.Input) is = absurd is
not_caused P (fault.Stopped stop.NoRoom) is = tt
not_caused P (fault.Stopped stop.SwapFull) is = tt
not_caused P (fault.Stopped stop.SwapFault) is = tt

pub none_put : (c r : ℕ) (f : Fault) → IsSwapStop f → (let result : Result Ran Fault = Err f in RanHands (counts c c r r 0) result)
none_put c r fault.Sink is = absurd is
none_put c r (fault.Stopped why) is = record { to_console = omega arith; to_report = omega arith }

-- What a call puts that is made: its lines alone.
pub told_puts : (c r q : ℕ) (ran : Ran) → ran.tally.bytes ≡ 0 → HandsWhole ran.whole (counts c c r q 0) 0 ran.tally.lines → RanHands (counts c c r q 0) (Ok ran)
told_puts c r q ran none h = subst (λ (n : ℕ). HandsWhole ran.whole (counts c c r q 0) (puts_of n) ran.tally.lines) (sym none) h
