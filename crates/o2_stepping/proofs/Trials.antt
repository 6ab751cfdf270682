-- One try of a step in a store, from what brought its segments in and from the try itself.
use Rattle.std.proofs.Common.{◌≡◌, ◌⊎◌, inl, inr, ℕ, ◌/◌, Bool, true, false, cond, List, Option, Some, None, ap, sym, ◌∙◌, refl, subst, arith}
use Rattle.std.specs.Prelude.{option_map, Result, Ok, Err}
use Rattle.std.proofs.lemmas.Bool.{false≢true}
use mathlib.Core.Path.{fun_ext}
use Rattle.o2_base.specs.declared.selector.Selector.{Selector}
use Rattle.o2_isa.specs.declared.cpu.Cpu.{Cpu}
use Rattle.o2_isa.specs.View.{View, Hold, bound_registers, is_null, is_local}
use Rattle.o2_isa.specs.Presence.{IsMissed, is_in}
use Rattle.o2_place.specs.declared.seg_id.SegId.{SegId}
use Rattle.o2_regions.specs.declared.held.Held.{Held}
use Rattle.o2_regions.specs.Maps.{Maps, held_at}
use Rattle.o2_store.specs.Shelf.{Shelf}
use Rattle.o2_segbus.specs.Frames.{CanStep, KeepsStore}
use Rattle.o2_segbus.specs.Seen.{bytes_in, hold_in, hold_of, present_in, seen, seen_with}
use Rattle.o2_segbus.proofs.Holds.{found_is}
use Rattle.o2_segbus.proofs.Keeping.{presence_stays}
use Rattle.o2_world.specs.Known.{Known}
use Rattle.o2_world.specs.Calls.{Before, Effect}
use Rattle.o2_world.specs.Effect.{effect}
use Rattle.o2_gate.specs.Befores.{before_call}
use Rattle.o2_gate.specs.Pointed.{ArePresent}
use Rattle.o2_run.specs.declared.steps.Stop.TheVariants as stop
use Rattle.o2_run.specs.declared.fault.Fault.{Fault}
use Rattle.o2_run.specs.declared.fault.Fault.TheVariants as fault
use Rattle.o2_run.specs.Pieces.{Counts}
use Rattle.o2_stepping.specs.Pieces.{AttemptPart}
use Rattle.o2_run.specs.Room.{seated, touched}
use Rattle.o2_run.specs.Faults.{CauseOf}
use Rattle.o2_stepping.specs.Ran.{AttemptFor, IsStill, Leaves, OnMissed, is_missed}
use Rattle.o2_stepping.specs.Rooms.{IsWanted, ages_of, all_names, needed_names}
use Rattle.o2_stepping.specs.Taken.{IsSwapStop, OnRan, OnBegun, OnBegunFault, OnSwapFault, OnSwapStop, TakesFault, TriedFor, Tries}
use Rattle.o2_stepping.specs.Worlds.{before_in, bytes_with, world_view}
use Rattle.o2_stepping.specs.declared.one_step.Attempt.{Attempt}
use Rattle.o2_stepping.specs.declared.one_step.Attempt.TheVariants as attempt
use Rattle.o2_stepping.proofs.Named.{both_in, one_of, seated_present}

-- The answer.

leaves_tries : (b : Before) (e : Effect) (cpu : Cpu) (old new : ℕ → List ℕ) (i j x y r q : Option (List ℕ)) (result : Result Attempt Fault)
    → Leaves b e cpu old new i j x y r q result → Tries b e cpu old new i j x y r q result
leaves_tries b e cpu old new i j x y r q (Ok (attempt.Stepped z)) h = h
leaves_tries b e cpu old new i j x y r q (Ok (attempt.Missed s)) h = h
leaves_tries b e cpu old new i j x y r q (Err fault.Sink) h = h
leaves_tries b e cpu old new i j x y r q (Err (fault.Stopped stop.Input)) h = h
leaves_tries b e cpu old new i j x y r q (Err (fault.Stopped stop.NoRoom)) h = absurd h
leaves_tries b e cpu old new i j x y r q (Err (fault.Stopped stop.SwapFull)) h = absurd h
leaves_tries b e cpu old new i j x y r q (Err (fault.Stopped stop.SwapFault)) h = absurd h

pub stays_still : (b : Before) (e : Effect) (cpu : Cpu) (old new : ℕ → List ℕ) (i j x y r q : Option (List ℕ)) (f : Fault) → IsSwapStop f
    → IsStill cpu b.cpu old new i j x y r q → TakesFault b e cpu old new i j x y r q f
stays_still b e cpu old new i j x y r q fault.Sink s h = absurd s
stays_still b e cpu old new i j x y r q (fault.Stopped stop.Input) s h = absurd s
stays_still b e cpu old new i j x y r q (fault.Stopped stop.NoRoom) s h = h
stays_still b e cpu old new i j x y r q (fault.Stopped stop.SwapFull) s h = h
stays_still b e cpu old new i j x y r q (fault.Stopped stop.SwapFault) s h = h

pub away_same : (before after : ℕ → List ℕ) (s : Shelf) → ((n : ℕ) → after n ≡ before n) → (n : ℕ) → bytes_with before s n ≡ bytes_with after s n
away_same before after s e n = ap (λ (x : List ℕ). cond (present_in s n) (bytes_in s n) x) (sym (e n))

-- the world before anything was brought in, behind that, and behind the try
module _ (a b d : ℕ → List ℕ) (s t u : Shelf) (m n : Maps) (pid : ℕ) (c : Cpu) (bytes : List ℕ) (known : Known)
    (view : world_view b t n pid c ≡ world_view a s m pid c) where
  first_step : before_in b t n pid c bytes known ≡ before_in a s m pid c bytes known
  first_step = ap (λ (v : View). before_call v pid c bytes known) view

  pub tried : (new : Cpu) (i j x y r q : Option (List ℕ)) (result : Result Attempt Fault) → ((k : ℕ) → bytes_with b t k ≡ bytes_with a s k) → ((k : ℕ) → bytes_with b u k ≡ bytes_with d u k)
      → (let e = before_in b t n pid c bytes known in Leaves e (effect e) new (bytes_with b t) (bytes_with b u) i j x y r q result)
      → (let e = before_in a s m pid c bytes known in Tries e (effect e) new (bytes_with a s) (bytes_with d u) i j x y r q result)
  tried new i j x y r q result old now h =
      let e : Before = before_in a s m pid c bytes known in
      leaves_tries e (effect e) new (bytes_with a s) (bytes_with d u) i j x y r q result
      (subst (λ (z : Before). Leaves z (effect z) new (bytes_with a s) (bytes_with d u) i j x y r q result) first_step
      (subst (λ (f : ℕ → List ℕ). Leaves (before_in b t n pid c bytes known) (effect (before_in b t n pid c bytes known)) new f (bytes_with d u) i j x y r q result) (fun_ext old)
      (subst (λ (f : ℕ → List ℕ). Leaves (before_in b t n pid c bytes known) (effect (before_in b t n pid c bytes known)) new (bytes_with b t) f i j x y r q result) (fun_ext now) h)))

  -- what a sink's fault leaves
  pub part_first : (k : Counts) (result : Result Attempt Fault) → AttemptPart (effect (before_in b t n pid c bytes known)) k result → AttemptPart (effect (before_in a s m pid c bytes known)) k result
  part_first k result h = subst (λ (z : Before). AttemptPart (effect z) k result) first_step h

  -- What was missed.

  local_some : (z : ℕ) → is_local z ≡ true → is_null z ≡ false
  local_some z e = grind arith

  pub wanted : (o : Maps) (need : List (SegId × ℕ)) (z : Selector) → ((i : ℕ) → held_at o pid i ≡ held_at n pid i) → ((k : ℕ) → is_in k (ages_of need) ≡ true → present_in t k ≡ true)
      → IsMissed (seen t n pid c) z (touched (before_in b t n pid c bytes known)) → IsWanted o pid need (touched (before_in a s m pid c bytes known)) z
  unfolding seen_with
  wanted o need z same here h = by (is_local z.0) refl (held_at n pid (z.0 / 8)) refl (sym (found_is n pid z.0) ∙ h.found_it)
    where
      none_some : None ≡ Some h.hold → ⊥
      none_some p = cc

      name_or : Option Hold → ℕ
      name_or None = 0
      name_or (Some x) = x.name

      by : (l : Bool) → is_local z.0 ≡ l → (g : Option Held) → held_at n pid (z.0 / 8) ≡ g → option_map (hold_of n pid (z.0 / 8)) (cond l g None) ≡ Some h.hold
          → IsWanted o pid need (touched (before_in a s m pid c bytes known)) z
      by false l g e p = absurd (none_some p)
      by true l None e p = absurd (none_some p)
      by true l (Some x) e p =
          let name : x.id.age ≡ h.hold.name = ap name_or p in
          record {
            held = x;
            under = ap (λ (v : Bool). cond v None (cond (is_local z.0) (held_at o pid (z.0 / 8)) None)) (local_some z.0 l) ∙ ap (λ (v : Bool). cond v (held_at o pid (z.0 / 8)) None) l ∙ same (z.0 / 8) ∙ e;
            named =
                ap (λ (v : ℕ). is_in v (touched (before_in a s m pid c bytes known))) name
                ∙ ap (λ (w : Before). is_in h.hold.name (touched w)) (sym first_step)
                ∙ h.named;
            other = not_among (is_in x.id.age (ages_of need)) refl name;
          }
        where
          not_among : (v : Bool) → is_in x.id.age (ages_of need) ≡ v → x.id.age ≡ h.hold.name → v ≡ false
          not_among true q r = absurd (false≢true (sym h.absent ∙ ap (present_in t) (sym r) ∙ here x.id.age q))
          not_among false q r = refl

  -- What was needed is in memory together.

  module _ (o : Maps) (new : Cpu) (keeps : KeepsStore t u) (before : CanStep t n pid c) (after : CanStep u o pid new) (names : ArePresent (seen t n pid c) (touched (before_in b t n pid c bytes known))) (k : ℕ) where
    first_present : (is_in k (seated (bound_registers (hold_in n pid) c)) ≡ true) ⊎ (is_in k (touched (before_in b t n pid c bytes known)) ≡ true) → present_in t k ≡ true
    unfolding seen_with
    first_present (inl x) = seated_present (present_in t) (bound_registers (hold_in n pid) c) before.bound k x
    first_present (inr y) = names k y

    then_present : (is_in k (needed_names (before_in b t n pid c bytes known)) ≡ true) ⊎ (is_in k (seated (bound_registers (hold_in o pid) new)) ≡ true) → present_in t k ≡ true
    unfolding seen_with
    then_present (inl x) = first_present (one_of _ _ (sym (both_in k (seated (bound_registers (hold_in n pid) c)) (touched (before_in b t n pid c bytes known))) ∙ x))
    then_present (inr y) = sym (presence_stays t u keeps k) ∙ seated_present (present_in u) (bound_registers (hold_in o pid) new) after.bound k y

    all_present : is_in k (all_names (before_in a s m pid c bytes known) (bound_registers (hold_in o pid) new)) ≡ true → present_in u k ≡ true
    all_present e =
        presence_stays t u keeps k
        ∙ then_present (one_of (is_in k (needed_names (before_in b t n pid c bytes known))) (is_in k (seated (bound_registers (hold_in o pid) new)))
        (sym (both_in k (needed_names (before_in b t n pid c bytes known)) (seated (bound_registers (hold_in o pid) new)))
        ∙ ap (λ (w : Before). is_in k (all_names w (bound_registers (hold_in o pid) new))) first_step ∙ e))

  pub together : (o : Maps) (new : Cpu) (result : Result Attempt Fault) → KeepsStore t u → CanStep t n pid c → CanStep u o pid new
      → (is_missed result ≡ false → ArePresent (seen t n pid c) (touched (before_in b t n pid c bytes known)))
      → OnRan result (ArePresent (seen u o pid new) (all_names (before_in a s m pid c bytes known) (bound_registers (hold_in o pid) new)))
  unfolding seen_with
  together o new (Ok (attempt.Missed z)) keeps before after names = tt
  together o new (Err x) keeps before after names = tt
  together o new (Ok (attempt.Stepped z)) keeps before after names = λ k e. all_present o new keeps before after (names refl) k e

  pub together_in_part : (o : Maps) (new : Cpu) (result : Result Attempt Fault) → KeepsStore t u → CanStep t n pid c → CanStep u o pid new
      → (is_missed result ≡ false → ArePresent (seen t n pid c) (touched (before_in b t n pid c bytes known)))
      → OnBegun result (ArePresent (seen u o pid new) (all_names (before_in a s m pid c bytes known) (bound_registers (hold_in o pid) new)))
  unfolding seen_with
  together_in_part o new (Ok x) keeps before after names = tt
  together_in_part o new (Err (fault.Stopped stop.Input)) keeps before after names = λ k e. all_present o new keeps before after (names refl) k e
  together_in_part o new (Err (fault.Stopped stop.NoRoom)) keeps before after names = tt
  together_in_part o new (Err (fault.Stopped stop.SwapFull)) keeps before after names = tt
  together_in_part o new (Err (fault.Stopped stop.SwapFault)) keeps before after names = tt
  together_in_part o new (Err fault.Sink) keeps before after names = λ k e. all_present o new keeps before after (names refl) k e

-- At a stop for want of room or of the swap device.

pub not_begun : (P : Type 0) (f : Fault) → IsSwapStop f → OnBegunFault f P
not_begun P fault.Sink s = absurd s
not_begun P (fault.Stopped stop.Input) s = absurd s
not_begun P (fault.Stopped stop.NoRoom) s = tt
not_begun P (fault.Stopped stop.SwapFull) s = tt
not_begun P (fault.Stopped stop.SwapFault) s = tt

pub no_step : (P : Type 0) (f : Fault) → P → OnSwapFault P P P f
no_step P fault.Sink p = tt
no_step P (fault.Stopped stop.Input) p = tt
no_step P (fault.Stopped stop.NoRoom) p = p
no_step P (fault.Stopped stop.SwapFull) p = p
no_step P (fault.Stopped stop.SwapFault) p = p

pub stop_part : (e : Effect) (n : Counts) (f : Fault) → IsSwapStop f → AttemptPart e n (Err f)
stop_part e n fault.Sink s = absurd s
stop_part e n (fault.Stopped why) s = tt

pub no_cause : (A B : Type 0) (f : Fault) → IsSwapStop f → CauseOf A B (Unit {0}) (Unit {0}) f
no_cause A B fault.Sink s = absurd s
no_cause A B (fault.Stopped stop.Input) s = absurd s
no_cause A B (fault.Stopped stop.NoRoom) s = tt
no_cause A B (fault.Stopped stop.SwapFull) s = tt
no_cause A B (fault.Stopped stop.SwapFault) s = tt

-- A try stops for none of these.

pub never_stops : (A B P Q R : Type 0) (r : Result Attempt Fault) → AttemptFor A B r → OnSwapStop r P Q R
never_stops A B P Q R (Ok x) a = tt
never_stops A B P Q R (Err fault.Sink) a = tt
never_stops A B P Q R (Err (fault.Stopped stop.Input)) a = tt
never_stops A B P Q R (Err (fault.Stopped stop.NoRoom)) a = absurd a
never_stops A B P Q R (Err (fault.Stopped stop.SwapFull)) a = absurd a
never_stops A B P Q R (Err (fault.Stopped stop.SwapFault)) a = absurd a

pub tried_for : (A B : Type 0) (r : Result Attempt Fault) → AttemptFor A B r → TriedFor A B r
tried_for A B (Ok (attempt.Stepped x)) a = a
tried_for A B (Ok (attempt.Missed s)) a = tt
tried_for A B (Err fault.Sink) a = a
tried_for A B (Err (fault.Stopped stop.Input)) a = a
tried_for A B (Err (fault.Stopped stop.NoRoom)) a = tt
tried_for A B (Err (fault.Stopped stop.SwapFull)) a = tt
tried_for A B (Err (fault.Stopped stop.SwapFault)) a = tt

pub on_ran : (P : Type 0) (r : Result Attempt Fault) → P → OnRan r P
on_ran P (Ok (attempt.Stepped x)) p = p
on_ran P (Ok (attempt.Missed s)) p = tt
on_ran P (Err f) p = tt

pub map_missed : (P Q : Selector → Type 0) (r : Result Attempt Fault) → ((s : Selector) → P s → Q s) → OnMissed r P → OnMissed r Q
map_missed P Q (Ok (attempt.Missed s)) f p = f s p
map_missed P Q (Ok (attempt.Stepped x)) f p = tt
map_missed P Q (Err x) f p = tt
