-- Steps that change nothing but bytes.
use Rattle.std.proofs.Common.{◌≡◌, ℕ, zero, suc, ◌-◌, Bool, true, false, cond, if◌then◌else◌, ◌==◌, List, [], ◌∷◌, Option, ap, ◌∙◌, refl, slice_set}
use Rattle.o2_conf.specs.Dispatch.{Dispatch}
use Rattle.o2_world.specs.World.{World, Process, is_live}
use Rattle.o2_world.specs.Holders.{with_process}
use Rattle.o2_world.specs.Changes.{at_place, at_number, with_changes, swept}
use Rattle.o2_world.specs.declared.types.Slot.{Slot}
use Rattle.o2_world.specs.CallParts.{Before, Effect, argument}
use Rattle.o2_world.specs.Slots.{may_have_heap}
use Rattle.o2_world.specs.HeapRulings.{HeapRuling, giving_back, setting_up, taking}
use Rattle.o2_world.specs.Outcomes.{CallRow, Does, Fails, Waits, Leaves, Outcome, come_out, served}
use Rattle.o2_world.specs.SemRulings.{SemRuling, Becomes, Refuses, Waiting, requesting, waiting_for}
use Rattle.o2_world.specs.Calls.{alloc_slots, by_semaphore, free_slots, giving_to_heap, heap_bytes, is_console, nothing_written, number_written, on_heap, reading, requesting_semaphore, semaphore_at, served_by, set_slots, setting_heap, taking_of_heap, timeout_in, waiting_for_semaphore, writing}
use Rattle.o2_world.specs.RowLaws.{ErrorChangesNothing, IsQuiet, changes_of}
use Rattle.o2_world.specs.Run.{changed, plainly, worked}
use Rattle.o2_world.proofs.Serving.{by_parts, by_row}

set_then : {X : Type 0} (xs : List X) (i : ℕ) (x : X) (f : X → X) → at_place i f (slice_set xs i x) ≡ slice_set xs i (f x)
set_then [] i x f = refl
set_then (a ∷ xs) zero x f = refl
set_then (a ∷ xs) (suc i) x f = ap (λ z. a ∷ z) (set_then xs i x f)

then_at : (ps : List Process) (n : ℕ) (x : Process) (f : Process → Process) → at_number n f (with_process ps n x) ≡ with_process ps n (f x)
then_at ps n x f = go (n == 0)
  where
    go : (b : Bool)
        → (if b then (if b then ps else slice_set ps (n - 1) x) else at_place (n - 1) f (if b then ps else slice_set ps (n - 1) x)) ≡ (if b then ps else slice_set ps (n - 1) (f x))
    go true = refl
    go false = set_then ps (n - 1) x f

pub changed_plain : (w : World) (d : Dispatch) (p : Process) (e : Effect) → e.changes ≡ [] → changed w d p e ≡ plainly w d p e
unfolding changed plainly with_changes
changed_plain w d p e quiet = go (is_live e.state) refl
  where
    f : Process → Process
    f x = record x { state = e.state; held = [] }

    go : (b : Bool) → is_live e.state ≡ b → changed w d p e ≡ plainly w d p e
    go true is = rw (is, quiet) refl
    go false is = rw (is, quiet) (ap (λ (ps : List Process). swept (record (worked w d p e) { processes = ps })) (then_at w.processes d.current (record p { cpu = e.cpu }) f))

either : (t : Bool) (e f : Effect) → e.changes ≡ [] → f.changes ≡ [] → (cond t e f).changes ≡ []
either true e f h k = h
either false e f h k = k

-- a call changes what its row's outcome says
pub changes_come : (r : CallRow) (b : Before) (next : ℕ) (a : ℕ → ℕ) (o : Outcome) → (come_out r b next a o).changes ≡ changes_of o
changes_come r b next a (Fails error values) = refl
changes_come r b next a (Does d) = refl
changes_come r b next a Waits = refl
changes_come r b next a (Leaves action code) = refl

pub served_quiet : (r : CallRow) (b : Before) (next : ℕ) → IsQuiet r → (served r b next).changes ≡ []
served_quiet r b next quiet = by_parts (λ (e : Effect). e.changes ≡ []) r b next refl refl (λ lies good. changes_come r b next (argument b.view b.cpu) (r.outcome b (argument b.view b.cpu)) ∙ quiet b (argument b.view b.cpu))

either_quiet : (t : Bool) (o q : Outcome) → changes_of o ≡ [] → changes_of q ≡ [] → changes_of (cond t o q) ≡ []
either_quiet true o q h k = h
either_quiet false o q h k = k

pub read_quiet : (b : Before) (a : ℕ → ℕ) → changes_of (reading b a) ≡ []
read_quiet b a = either_quiet (a 5 == 0) _ _ refl refl

pub write_quiet : (b : Before) (a : ℕ → ℕ) → changes_of (writing b a) ≡ []
write_quiet b a = either_quiet (is_console (a 5)) _ _ refl refl

heap_quiet : (b : Before) (slots : List Slot) (s : ℕ) (ruling : List ℕ → HeapRuling) → changes_of (on_heap slots b s ruling) ≡ []
heap_quiet b slots s ruling = either_quiet (may_have_heap b.view s) _ _ (either_quiet ((ruling (heap_bytes b s)).error == 0) _ _ refl refl) refl

pub set_quiet : (b : Before) (a : ℕ → ℕ) → changes_of (setting_heap b a) ≡ []
set_quiet b a = heap_quiet b set_slots (a 2) (setting_up (a 1) (a 0))

pub alloc_quiet : (b : Before) (a : ℕ → ℕ) → changes_of (taking_of_heap b a) ≡ []
alloc_quiet b a = heap_quiet b alloc_slots (a 3) (taking (a 0))

semaphore_quiet : (written : ℕ → List (List ℕ)) (b : Before) (r : SemRuling) → changes_of (by_semaphore written b r) ≡ []
semaphore_quiet written b (Becomes number) = refl
semaphore_quiet written b Waiting = refl
semaphore_quiet written b (Refuses error) = refl

pub request_quiet : (b : Before) (a : ℕ → ℕ) → changes_of (requesting_semaphore b a) ≡ []
request_quiet b a = semaphore_quiet number_written b (requesting (semaphore_at b (a 3) (a 2)) b.number (timeout_in a))

pub wait_quiet : (b : Before) (a : ℕ → ℕ) → changes_of (waiting_for_semaphore b a) ≡ []
wait_quiet b a = semaphore_quiet nothing_written b (waiting_for (semaphore_at b (a 3) (a 2)) (timeout_in a))

pub free_quiet : (b : Before) (a : ℕ → ℕ) → changes_of (giving_to_heap b a) ≡ []
free_quiet b a = heap_quiet b free_slots (a 2) (giving_back (a 1) (a 0))

-- an error number changes nothing and writes nothing
error_quiet : (b : Before) (r : CallRow) (next : ℕ) (a : ℕ → ℕ) (o : Outcome) → ErrorChangesNothing b (come_out r b next a o)
error_quiet b r next a (Fails e vs) number name args error values rest line some =
    record { changes = refl; bytes = refl; input = refl; piece = refl; state = refl; selectors = record { es = refl; cs = refl; ss = refl; ds = refl } }
error_quiet b r next a (Does d) number name args error values rest line some = absurd (let none : error ≡ 0 = cc in some none)
error_quiet b r next a Waits number name args error values rest line some = absurd (cc)
error_quiet b r next a (Leaves action code) number name args error values rest line some = absurd (cc)

pub served_errors : (o : Option CallRow) (b : Before) (next : ℕ) → ErrorChangesNothing b (served_by o b next)
served_errors o b next =
    by_row (ErrorChangesNothing b) b next (λ number name args error values rest line some. absurd (cc)) (λ number name args error values rest line some. absurd (cc))
    (λ r a good. error_quiet b r next a (r.outcome b a)) o
