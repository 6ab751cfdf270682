-- A step in a store, from its last try.
use Rattle.std.proofs.Common.{◌≡◌, ℕ, ◌<◌, List, Option, ap, ◌∙◌, subst, arith}
use Rattle.std.specs.Prelude.{Result, Ok, Err}
use mathlib.Core.Path.{fun_ext}
use Rattle.o2_isa.specs.declared.cpu.Cpu.{Cpu}
use Rattle.o2_isa.specs.View.{View}
use Rattle.o2_regions.specs.Maps.{Maps}
use Rattle.o2_store.specs.Shelf.{Shelf}
use Rattle.o2_world.specs.Known.{Known}
use Rattle.o2_world.specs.Calls.{Before, Effect}
use Rattle.o2_world.specs.Effect.{effect}
use Rattle.o2_gate.specs.Befores.{before_call}
use Rattle.o2_run.specs.declared.steps.Stop.TheVariants as stop
use Rattle.o2_run.specs.declared.fault.Fault.{Fault}
use Rattle.o2_run.specs.declared.fault.Fault.TheVariants as fault
use Rattle.o2_run.specs.Pieces.{Counts, counts, told_counts}
use Rattle.o2_stepping.specs.Pieces.{AttemptPart}
use Rattle.o2_base.specs.declared.selector.Selector.{Selector}
use Rattle.o2_swapmap.specs.Piles.{all_of}
use Rattle.o2_store.specs.Loads.{live_load, swap_load}
use Rattle.o2_store.proofs.Loads.{same_live_load, same_swap_load}
use Rattle.o2_stepping.specs.Shapes.{SameShape}
use Rattle.o2_gate.specs.declared.arguments.Arguments.{Arguments}
use Rattle.o2_stepping.specs.Ran.{OnAsked, OnAsking, OnMissed, OnUndone, StepFor, StepLeaves}
use Rattle.o2_stepping.specs.Taken.{OnRan, OnBegunFault, OnSwapFault, OnSwapStop, TriedFor, Tries}
use Rattle.o2_stepping.specs.Worlds.{before_in, bytes_with, world_view}
use Rattle.o2_stepping.specs.declared.one_step.Attempt.{Attempt}
use Rattle.o2_stepping.specs.declared.one_step.Attempt.TheVariants as attempt
use Rattle.o2_stepping.specs.declared.one_step.Stepped.{Stepped}
use Rattle.o2_stepping.specs.declared.one_step.Stepped.TheVariants as stepped

-- what a try did from a state behind others that were missed, it did from the first one
module _ (a b : ℕ → List ℕ) (s t : Shelf) (m n : Maps) (pid : ℕ) (c : Cpu) (bytes : List ℕ) (known : Known)
    (view : world_view b t n pid c ≡ world_view a s m pid c) (same : (k : ℕ) → bytes_with b t k ≡ bytes_with a s k) where
  pub first_same : before_in b t n pid c bytes known ≡ before_in a s m pid c bytes known
  first_same = ap (λ (v : View). before_call v pid c bytes known) view

  pub first_from : (d : Cpu) → d ≡ c → before_in b t n pid d bytes known ≡ before_in a s m pid c bytes known
  first_from d e = ap (λ (z : Cpu). before_in b t n pid z bytes known) e ∙ first_same

  -- what is said of a step from the later state, said from the first one
  said_first : (P : Before → (ℕ → List ℕ) → Type 0) (d : Cpu) → d ≡ c
      → P (before_in b t n pid d bytes known) (bytes_with b t) → P (before_in a s m pid c bytes known) (bytes_with a s)
  said_first P d e h =
      subst (λ (z : Before). P z (bytes_with a s)) (first_from d e)
      (subst (λ (f : ℕ → List ℕ). P (before_in b t n pid d bytes known) f) (fun_ext same) h)

  pub tries_from : (d new : Cpu) (after : ℕ → List ℕ) (i' i j x' x y r' r q : Option (List ℕ)) (result : Result Attempt Fault) → d ≡ c → i' ≡ i → x' ≡ x → r' ≡ r
      → (let e = before_in b t n pid d bytes known in Tries e (effect e) new (bytes_with b t) after i' j x' y r' q result)
      → (let e = before_in a s m pid c bytes known in Tries e (effect e) new (bytes_with a s) after i j x y r q result)
  tries_from d new after i' i j x' x y r' r q result cpu input console report h =
      said_first (λ e f. Tries e (effect e) new f after i j x y r q result) d cpu
      (subst (λ (z : Option (List ℕ)). let e = before_in b t n pid d bytes known in Tries e (effect e) new (bytes_with b t) after z j x y r q result) input
      (subst (λ (z : Option (List ℕ)). let e = before_in b t n pid d bytes known in Tries e (effect e) new (bytes_with b t) after i' j z y r q result) console
      (subst (λ (z : Option (List ℕ)). let e = before_in b t n pid d bytes known in Tries e (effect e) new (bytes_with b t) after i' j x' y z q result) report h)))

  pub part_from : (d : Cpu) → d ≡ c → (k : Counts) (result : Result Attempt Fault)
      → AttemptPart (effect (before_in b t n pid d bytes known)) k result → AttemptPart (effect (before_in a s m pid c bytes known)) k result
  part_from d e k result h = subst (λ (z : Before). AttemptPart (effect z) k result) (first_from d e) h

-- counts from where both sinks had been handed as many
pub counts_from : (P : Counts → Type 0) (c d r q : ℕ) {x y : ℕ} → x ≡ c → y ≡ r → P (counts x d y q 0) → P (counts c d r q 0)
counts_from P c d r q {x} e f h = subst (λ (z : ℕ). P (counts z d r q 0)) e (subst (λ (z : ℕ). P (counts x d z q 0)) f h)

-- the same, and where the report had taken as much
pub told_from : (P : Counts → Type 0) (c d r q : ℕ) (t u : Option (List ℕ)) {x y : ℕ} {s : Option (List ℕ)} → x ≡ c → y ≡ r → s ≡ t → P (told_counts x d y q 0 s u) → P (told_counts c d r q 0 t u)
told_from P c d r q t u {x} {y} {s} e f g h =
    subst (λ (z : ℕ). P (told_counts z d r q 0 t u)) e
    (subst (λ (z : ℕ). P (told_counts x d z q 0 t u)) f
    (subst (λ (z : Option (List ℕ)). P (told_counts x d y q 0 z u)) g h))

-- where a step was missed, or is done
pub missed_at : (P : Selector → Type 0) (x : Attempt) (s : Selector) → x ≡ attempt.Missed s → OnMissed (Ok x) P → P s
missed_at P x s is h = subst (λ (z : Attempt). OnMissed (Ok z) P) is h

pub missed_then : (P : Type 0) (x : Attempt) (s : Selector) → x ≡ attempt.Missed s → OnUndone (Ok x) P → P
missed_then P x s is h = subst (λ (z : Attempt). OnUndone (Ok z) P) is h

pub ran_at : (P : Type 0) (x : Attempt) (r : Stepped) → x ≡ attempt.Stepped r → OnRan (Ok x) P → P
ran_at P x r is h = subst (λ (z : Attempt). OnRan (Ok z) P) is h

-- what holds where a sink failed, or the input
pub at_begun : (P Q : Type 0) (f : Fault) → (P → Q) → OnBegunFault f P → OnBegunFault f Q
at_begun P Q fault.Sink g h = g h
at_begun P Q (fault.Stopped stop.Input) g h = g h
at_begun P Q (fault.Stopped stop.NoRoom) g h = tt
at_begun P Q (fault.Stopped stop.SwapFull) g h = tt
at_begun P Q (fault.Stopped stop.SwapFault) g h = tt

-- at a stop, what holds of it
pub at_stop : (P Q R A B C : Type 0) (f : Fault) → (P → A) → (Q → B) → (R → C) → OnSwapFault P Q R f → OnSwapFault A B C f
at_stop P Q R A B C fault.Sink p q r h = tt
at_stop P Q R A B C (fault.Stopped stop.Input) p q r h = tt
at_stop P Q R A B C (fault.Stopped stop.NoRoom) p q r h = p h
at_stop P Q R A B C (fault.Stopped stop.SwapFull) p q r h = q h
at_stop P Q R A B C (fault.Stopped stop.SwapFault) p q r h = r h

-- what holds where the device failed
pub failed_at : (P Q R : Type 0) (r : Result Stepped Fault) → r ≡ Err (fault.Stopped stop.SwapFault) → OnSwapStop r P Q R → R
failed_at P Q R r e h = subst (λ (z : Result Stepped Fault). OnSwapStop z P Q R) e h

pub ran_tries : (b : Before) (e : Effect) (cpu : Cpu) (old new : ℕ → List ℕ) (i j x y r q : Option (List ℕ)) (z : Attempt) (ran : Stepped) → z ≡ attempt.Stepped ran
    → Tries b e cpu old new i j x y r q (Ok z) → StepLeaves b e cpu old new i j x y r q ran
ran_tries b e cpu old new i j x y r q z ran is h = subst (λ (w : Attempt). Tries b e cpu old new i j x y r q (Ok w)) is h

pub full_then : (s t : Shelf) {m n : Maps} → SameShape s m t n → (all_of t.swap < swap_load t) × (t.places.size < live_load t) → (all_of s.swap < swap_load s) × (s.places.size < live_load s)
full_then s t w p =
    let a = same_swap_load s t w.tables in
    let b = same_live_load s t w.tables in
    let c = w.swap in
    let d = w.tables.size in
    let e = p.0 in
    let f = p.1 in
    (omega (arith, a, c, e), omega (arith, b, d, f))

pub ran_cause : (A B : Type 0) (z : Attempt) (ran : Stepped) → z ≡ attempt.Stepped ran → TriedFor A B (Ok z) → StepFor A ran
ran_cause A B z ran is h = subst (λ (w : Attempt). TriedFor A B (Ok w)) is h

-- what holds of a call on segments that is asked for
pub asked_at : (P : Arguments → Type 0) (z : Attempt) (ran : Stepped) → z ≡ attempt.Stepped ran → OnAsked (Ok z) P → OnAsking ran P
asked_at P z ran is h = subst (λ (w : Attempt). OnAsked (Ok w) P) is h

pub asks_at : (P : Type 0) (z : Attempt) (ran : Stepped) → z ≡ attempt.Stepped ran → OnUndone (Ok z) P → OnAsking ran (λ a. P)
asks_at P z ran is h = subst (λ (w : Attempt). OnUndone (Ok w) P) is h

pub map_asking : (P Q : Arguments → Type 0) (x : Stepped) → ((a : Arguments) → P a → Q a) → OnAsking x P → OnAsking x Q
map_asking P Q (stepped.Ran ran) f p = tt
map_asking P Q (stepped.Asked a next) f p = f a p
