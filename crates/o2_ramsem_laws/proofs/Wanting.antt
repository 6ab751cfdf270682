-- What a step answers that wants a clear semaphore.
use Rattle.std.proofs.Common.{◌≡◌, ◌⊎◌, inl, inr, ℕ, ◌/◌, Bool, true, false, not, ◌==◌, ◌&&◌, ◌||◌, List, [], ◌∷◌, ◌++◌, Option, Some, None, if◌then◌else◌, refl, sym, ap, subst, ◌∙◌}
use Rattle.std.specs.Prelude.{Result}
use Rattle.std.proofs.lemmas.Bool.{and_from}
use Rattle.o2_isa.specs.declared.cpu.Stop.{Stop}
use Rattle.o2_isa.specs.Pointers.{is_good}
use Rattle.o2_isa.specs.Steps.{State as Machine, state}
use Rattle.o2_isa.specs.Step.{stepped}
use Rattle.o2_isa.specs.View.{Hold, is_writable}
use Rattle.o2_world.specs.declared.types.State.TheVariants.{Trapped}
use Rattle.o2_world.specs.World.{Line, Starts, HoldsBy, DropsBy, Calls, Exits, Ends, Traps, is_live}
use Rattle.o2_world.specs.CallParts.{Before, Effect, argument, has_arguments}
use Rattle.o2_world.specs.Outcomes.{CallRow, come_out, row}
use Rattle.o2_world.specs.SemRulings.{SemRuling, Becomes, Waiting, Refuses, wanting}
use Rattle.o2_world.specs.Calls.{by_semaphore, nothing_written, number_written, requesting_semaphore, row_of, semaphore_at, serviced, timeout_in, waiting_for_semaphore, wanted_slots}
use Rattle.o2_world.specs.Effect.{answered, effect, has_trap_flag, single_stepped}
use Rattle.o2_world.proofs.Serving.{comes_out, is_worded}
use Rattle.o2_ramsem.specs.Calls.{IsTimeout}
use Rattle.std.specs.Prelude.{codes}
use Rattle.o2_ramsem_laws.specs.Told.{Place}
use Rattle.o2_ramsem_laws.specs.Wants.{Answers, Wants, error_told}
use Rattle.o2_ramsem_laws.proofs.Pointers.{is_here, number_before, number_read}

-- What a ruling answers.

abbrev error_of : SemRuling → Option ℕ
error_of (Becomes m) = Some 0
error_of Waiting = None
error_of (Refuses e) = Some e

abbrev is_waiting : SemRuling → Bool
is_waiting (Becomes m) = false
is_waiting Waiting = true
is_waiting (Refuses e) = false

-- by its tests
abbrev wanted : Bool → Bool → Bool → ℕ → SemRuling
wanted bad clear now behind = if bad then Refuses 87 else if clear then Becomes behind else if now then Refuses 121 else Waiting

error_by : (bad clear now : Bool) (behind : ℕ) → bad ≡ false → error_of (wanted bad clear now behind) ≡ (if clear then Some 0 else if now then Some 121 else None)
error_by true clear now behind e = absurd (cc)
error_by false true now behind e = refl
error_by false false true behind e = refl
error_by false false false behind e = refl

waits_by : (bad clear now : Bool) (behind : ℕ) → bad ≡ false → is_waiting (wanted bad clear now behind) ≡ (not clear && not now)
waits_by true clear now behind e = absurd (cc)
waits_by false true now behind e = refl
waits_by false false true behind e = refl
waits_by false false false behind e = refl

-- a timeout that it may have
is_timely : (timeout : ℕ) → IsTimeout timeout → not ((timeout == 0) || (timeout == 0xFFFF_FFFF)) ≡ false
is_timely timeout (inl e) = ap (λ (n : ℕ). not ((n == 0) || (n == 0xFFFF_FFFF))) e
is_timely timeout (inr e) = ap (λ (n : ℕ). not ((n == 0) || (n == 0xFFFF_FFFF))) e

-- how it comes out
error_comes : (r : CallRow) (b : Before) (next : ℕ) (a : ℕ → ℕ) (written : ℕ → List (List ℕ)) (x : SemRuling)
    → error_told (come_out r b next a (by_semaphore written b x)).lines ≡ error_of x
error_comes r b next a written (Becomes m) = refl
error_comes r b next a written Waiting = refl
error_comes r b next a written (Refuses e) = refl

waits_come : (r : CallRow) (b : Before) (next : ℕ) (a : ℕ → ℕ) (written : ℕ → List (List ℕ)) (x : SemRuling)
    → (come_out r b next a (by_semaphore written b x)).waits ≡ is_waiting x
waits_come r b next a written (Becomes m) = refl
waits_come r b next a written Waiting = refl
waits_come r b next a written (Refuses e) = refl

wanting_answers : (r : CallRow) (b : Before) (next : ℕ) (a : ℕ → ℕ) (written : ℕ → List (List ℕ)) (behind word timeout : ℕ) → IsTimeout timeout
    → Answers (come_out r b next a (by_semaphore written b (wanting word behind timeout))) word timeout
wanting_answers r b next a written behind word timeout timely =
    let good = is_timely timeout timely in
    record {
      error =
          error_comes r b next a written (wanting word behind timeout)
          ∙ error_by (not ((timeout == 0) || (timeout == 0xFFFF_FFFF))) (word == 0) (timeout == 0) behind good;
      waits =
          waits_come r b next a written (wanting word behind timeout)
          ∙ waits_by (not ((timeout == 0) || (timeout == 0xFFFF_FFFF))) (word == 0) (timeout == 0) behind good;
    }

-- Exception 1 behind it has no line of a call.

trap_last : (ls : List Line) (q vector t offset : ℕ) → error_told (ls ++ Traps q vector t offset ∷ []) ≡ error_told ls
trap_last [] q vector t offset = refl
trap_last (Starts p name ∷ ls) q vector t offset = refl
trap_last (HoldsBy p s cause ∷ ls) q vector t offset = refl
trap_last (DropsBy p s cause ∷ ls) q vector t offset = refl
trap_last (Calls p name args error values ∷ ls) q vector t offset = refl
trap_last (Exits p action code ∷ ls) q vector t offset = refl
trap_last (Ends p code ∷ ls) q vector t offset = refl
trap_last (Traps p v s o ∷ ls) q vector t offset = refl

by_flag : (b : Before) (e : Effect) (n timeout : ℕ) → Answers e n timeout → (t : Bool)
    → Answers (if t then record e { state = Trapped 1; lines = e.lines ++ Traps b.number 1 b.cpu.cs b.cpu.ip ∷ [] } else e) n timeout
by_flag b e n timeout answers true = record { error = trap_last e.lines b.number 1 b.cpu.cs b.cpu.ip ∙ answers.error; waits = answers.waits }
by_flag b e n timeout answers false = answers

single_answers : (b : Before) (e : Effect) (n timeout : ℕ) → Answers e n timeout → Answers (single_stepped b e) n timeout
single_answers b e n timeout answers = by_flag b e n timeout answers (has_trap_flag b.cpu.flags && (is_live e.state && not e.waits))

-- The two calls.

good_pointer : (b : Before) (s o : ℕ) → is_good is_writable b.view s o 4 ≡ true → (is_good is_writable b.view s o 4 && true) ≡ true
good_pointer b s o e = and_from (is_good is_writable b.view s o 4) true e refl

module _ (b : Before) (words : has_arguments b.view b.cpu 4 ≡ true) (good : is_good is_writable b.view (argument b.view b.cpu 3) (argument b.view b.cpu 2) 4 ≡ true) (next : ℕ) where
  abbrev a : ℕ → ℕ
  a = argument b.view b.cpu

  abbrev request : CallRow
  request = row (codes "DosSemRequest") wanted_slots requesting_semaphore

  abbrev wait : CallRow
  wait = row (codes "DosSemWait") wanted_slots waiting_for_semaphore

  request_is : serviced b 25 next ≡ come_out request b next a (request.outcome b a)
  unfolding row_of
  request_is = is_worded request b next words ∙ comes_out request b next a (good_pointer b (a 3) (a 2) good)

  wait_is : serviced b 27 next ≡ come_out wait b next a (wait.outcome b a)
  unfolding row_of
  wait_is = is_worded wait b next words ∙ comes_out wait b next a (good_pointer b (a 3) (a 2) good)

  serviced_answers : (service : ℕ) → (service ≡ 25) ⊎ (service ≡ 27) → IsTimeout (timeout_in a)
      → Answers (serviced b service next) (semaphore_at b (a 3) (a 2)) (timeout_in a)
  serviced_answers service (inl e) timely =
      subst (λ (k : ℕ). Answers (serviced b k next) (semaphore_at b (a 3) (a 2)) (timeout_in a)) (sym e)
      (subst (λ (x : Effect). Answers x (semaphore_at b (a 3) (a 2)) (timeout_in a)) (sym request_is)
      (wanting_answers request b next a number_written b.number (semaphore_at b (a 3) (a 2)) (timeout_in a) timely))
  serviced_answers service (inr e) timely =
      subst (λ (k : ℕ). Answers (serviced b k next) (semaphore_at b (a 3) (a 2)) (timeout_in a)) (sym e)
      (subst (λ (x : Effect). Answers x (semaphore_at b (a 3) (a 2)) (timeout_in a)) (sym wait_is)
      (wanting_answers wait b next a nothing_written (semaphore_at b (a 3) (a 2)) (semaphore_at b (a 3) (a 2)) (timeout_in a) timely))

-- a step that is such a call answers by the number that stands there
pub wants_answered : (b : Before) (place : Place) (timeout : ℕ) → ((h : Hold) → b.view.held (place.selector / 8) ≡ Some h → h.name ≡ place.name)
    → Wants b place timeout → Answers (effect b) (number_before b place) timeout
unfolding effect
wants_answered b place timeout one wants =
    let a : ℕ → ℕ = argument b.view b.cpu in
    let here = is_here b place (a 3) (a 2) one wants.good wants.there in
    let timely = subst IsTimeout (sym wants.timeout_is) wants.timely in
    let call = serviced_answers b wants.words wants.good wants.next wants.service wants.wants timely in
    let read = subst (λ (n : ℕ). Answers (serviced b wants.service wants.next) n (timeout_in a)) (number_read b place (a 3) (a 2) here) call in
    let said = subst (λ (t : ℕ). Answers (serviced b wants.service wants.next) (number_before b place) t) wants.timeout_is read in
    single_answers b (answered b (stepped (state b.cpu b.view))) (number_before b place) timeout
    (subst (λ (r : Result Machine Stop). Answers (answered b r) (number_before b place) timeout) (sym wants.calls) said)
