-- What each call tells of a semaphore, and does to its number.
use Rattle.std.proofs.Common.{◌≡◌, ◌≢◌, ℕ, ◌/◌, Bool, true, false, not, ◌==◌, ◌&&◌, ◌||◌, ◌++◌, List, [], ◌∷◌, take, drop, refl, sym, ap, ◌∙◌, arith, if◌then◌else◌}
use Rattle.std.specs.Prelude.{Result, Ok, Err, Some, codes, is_some}
use Rattle.std.specs.List.{list_all}
use Rattle.std.proofs.lemmas.Bool.{and_parts}
use Rattle.std.proofs.lemmas.Bool.Decides.{nat_tests}
use Rattle.o2_isa.specs.declared.cpu.Stop.{Stop}
use Rattle.o2_isa.specs.declared.cpu.Stop.TheVariants as stop
use Rattle.o2_isa.specs.Pointers.{is_good}
use Rattle.o2_isa.specs.Steps.{State as Machine, state}
use Rattle.o2_isa.specs.Step.{stepped}
use Rattle.o2_isa.specs.View.{Hold, is_writable}
use Rattle.o2_world.specs.declared.types.Argument.{Argument}
use Rattle.o2_world.specs.declared.types.Argument.TheVariants as shown
use Rattle.o2_world.specs.declared.types.State.TheVariants.{Trapped}
use Rattle.o2_world.specs.declared.types.Slot.TheVariants.{ToWords}
use Rattle.o2_world.specs.World.{Line, Calls, Traps, is_live}
use Rattle.o2_world.specs.Changes.{moved_lines}
use Rattle.o2_world.specs.CallParts.{Before, Effect, trapped}
use Rattle.o2_world.specs.Slots.{are_good, pointers_in, shown_in}
use Rattle.o2_world.specs.Outcomes.{CallRow, Does, Fails, Waits, Leaves, Outcome, come_out, row}
use Rattle.o2_world.specs.SemRulings.{SemRuling, Becomes, Waiting, Refuses, requesting, waiting_for, wanting}
use Rattle.o2_world.specs.Calls.{by_semaphore, clearing_semaphore, nothing_written, number_written, requesting_semaphore, rows, semaphore_at, serviced, setting_semaphore, timeout_in, waiting_for_semaphore, wanted_slots}
use Rattle.o2_world.specs.RowLaws.{EachRow}
use Rattle.o2_world.specs.Effect.{answered, effect, has_trap_flag, single_stepped}
use Rattle.o2_world.proofs.Serving.{by_service}
use Rattle.o2_ramsem.specs.Calls.{SemCall, Requests, Clears, Awaits, Sets, number_behind, ruling_at}
use Rattle.o2_ramsem_laws.specs.Told.{Place, call_at, call_told, is_at, ruling_told, timeout_told, told}
use Rattle.o2_ramsem_laws.specs.Kept.{number_from}
use Rattle.o2_ramsem_laws.proofs.Sequences.{IsNumbered}
use Rattle.o2_ramsem_laws.proofs.Lines.{AreUntold, is_other, moved_untold, none_moved, other_call, told_elsewhere, told_here, told_one, told_trapped, untold}
use Rattle.o2_ramsem_laws.proofs.Pointers.{IsHere, is_here, number_before, number_read, number_written_there}

-- Rulings of a call that wants a clear semaphore.

-- by its tests
abbrev wanted : Bool → Bool → Bool → ℕ → SemRuling
wanted bad clear now behind = if bad then Refuses 87 else if clear then Becomes behind else if now then Refuses 121 else Waiting

-- where it answers 0 the semaphore was clear, and has the number that it was to have
becomes : (bad clear now : Bool) (behind m : ℕ) → wanted bad clear now behind ≡ Becomes m → (clear ≡ true) × (m ≡ behind)
becomes true clear now behind m h = absurd (cc)
becomes false true now behind m h = (refl, cc)
becomes false false true behind m h = absurd (cc)
becomes false false false behind m h = absurd (cc)

same_error : (e f : ℕ) → e ≡ f → (e == 0) ≡ false → (f == 0) ≡ false
same_error e f same none = ap (λ (n : ℕ). n == 0) (sym same) ∙ none

-- else its error isn't 0
refuses : (bad clear now : Bool) (behind e : ℕ) → wanted bad clear now behind ≡ Refuses e → (e == 0) ≡ false
refuses true clear now behind e h = let same : 87 ≡ e = cc in same_error 87 e same refl
refuses false true now behind e h = absurd (cc)
refuses false false true behind e h = let same : 121 ≡ e = cc in same_error 121 e same refl
refuses false false false behind e h = absurd (cc)

is_zero : (n : ℕ) → (n == 0) ≡ true → n ≡ 0
is_zero n h = grind (arith, nat_tests)

wanting_becomes : (word behind timeout m : ℕ) → wanting word behind timeout ≡ Becomes m → (word ≡ 0) × (m ≡ behind)
wanting_becomes word behind timeout m h =
    let both = becomes (not ((timeout == 0) || (timeout == 0xFFFF_FFFF))) (word == 0) (timeout == 0) behind m h in
    (is_zero word both.0, both.1)

wanting_refuses : (word behind timeout e : ℕ) → wanting word behind timeout ≡ Refuses e → (e == 0) ≡ false
wanting_refuses word behind timeout e h = refuses (not ((timeout == 0) || (timeout == 0xFFFF_FFFF))) (word == 0) (timeout == 0) behind e h

-- what a line with an error says
error_said : (behind e : ℕ) → (e == 0) ≡ false → ruling_told behind e ≡ Refuses e
error_said behind e none = ap (λ (t : Bool). if t then Becomes behind else Refuses e) none

-- What the lines of an effect tell: one call on the semaphore, which answers by its ruling and leaves the number of that.
pub record IsCall (place : Place) (b : Before) (e : Effect) (c : SemCall) : Type 0 where
  pub held : is_some (b.view.held (place.selector / 8)) ≡ true
  pub numbered : IsNumbered c
  pub tells : told place e.lines ≡ (c, ruling_at (number_before b place) c) ∷ []
  pub number : number_from (e.bytes place.name) place.offset ≡ number_behind (number_before b place) (ruling_at (number_before b place) c)
  pub changes : e.changes ≡ []

-- or none
pub data Tells (place : Place) (b : Before) (e : Effect) : Type 0 where
  TellsNone : told place e.lines ≡ [] → Tells place b e
  TellsOne : (c : SemCall) → IsCall place b e c → Tells place b e

module _ (place : Place) (b : Before) (some : b.number ≢ 0) (one : (h : Hold) → b.view.held (place.selector / 8) ≡ Some h → h.name ≡ place.name) where
  -- a call with a good pointer, by its one line
  by_line : (c : SemCall) (e : Effect) (name : List ℕ) (s o : ℕ) (args : List Argument) (error : ℕ)
      → is_good is_writable b.view s o 4 ≡ true → IsNumbered c
      → e.lines ≡ Calls b.number name (shown.Far s o ∷ args) error [] ∷ [] → e.changes ≡ []
      → (IsHere b place s o → call_told b.number name (timeout_told args) error ≡ (c, ruling_at (number_before b place) c) ∷ [])
      → (IsHere b place s o → number_from (e.bytes place.name) place.offset ≡ number_behind (number_before b place) (ruling_at (number_before b place) c))
      → Tells place b e
  by_line c e name s o args error good numbered lines none says leaves = go (is_at place s o) refl
    where
      line : told place e.lines ≡ told place (Calls b.number name (shown.Far s o ∷ args) error [] ∷ [])
      line = ap (told place) lines

      alone : told place (Calls b.number name (shown.Far s o ∷ args) error [] ∷ []) ≡ call_at place b.number name (shown.Far s o ∷ args) error
      alone = told_one place (Calls b.number name (shown.Far s o ∷ args) error [])

      go : (t : Bool) → is_at place s o ≡ t → Tells place b e
      go true at =
          let here : IsHere b place s o = is_here b place s o one good at in
          TellsOne c (record {
            held = here.held;
            numbered = numbered;
            tells = line ∙ alone ∙ told_here place b.number name s o args error at ∙ says here;
            number = leaves here;
            changes = none;
          })
      go false at = TellsNone (line ∙ alone ∙ told_elsewhere place b.number name s o args error at)

  -- the line of a call that is done has nothing behind it
  only_line : (name : List ℕ) (args : List Argument) → Calls b.number name args 0 [] ∷ moved_lines name [] ≡ Calls b.number name args 0 [] ∷ []
  only_line name args = ap (λ (ls : List Line). Calls b.number name args 0 [] ∷ ls) (none_moved name)

  abbrev Answers : CallRow → Type 0
  Answers r = (next : ℕ) (a : ℕ → ℕ) → are_good b.view (pointers_in r.slots b.view a) ≡ true → Tells place b (come_out r b next a (r.outcome b a))

  -- the calls that are none on a semaphore
  others : (r : CallRow) → is_other r.name ≡ true → Answers r
  others r is next a good = TellsNone (untold place (come_out r b next a (r.outcome b a)).lines (out (r.outcome b a)))
    where
      out : (o : Outcome) → AreUntold place (come_out r b next a o).lines
      out (Fails error values) = (other_call place b.number r.name (shown_in r.slots a) error is, tt)
      out (Does d) = (other_call place b.number r.name (shown_in r.slots a) 0 is, moved_untold place r.name d.changes)
      out Waits = tt
      out (Leaves action code) = (refl, (refl, tt))

  -- the number that a call reads
  read : (s o : ℕ) → IsHere b place s o → number_before b place ≡ semaphore_at b s o
  read s o here = sym (number_read b place s o here)

  requests : Answers (row (codes "DosSemRequest") wanted_slots requesting_semaphore)
  requests next a good = go (requesting (semaphore_at b (a 3) (a 2)) b.number (timeout_in a)) refl
    where
      r : CallRow
      r = row (codes "DosSemRequest") wanted_slots requesting_semaphore

      fine : is_good is_writable b.view (a 3) (a 2) 4 ≡ true
      fine = (and_parts (is_good is_writable b.view (a 3) (a 2) 4) true good).0

      c : SemCall
      c = Requests b.number (timeout_in a)

      rule : (x : SemRuling) → requesting (semaphore_at b (a 3) (a 2)) b.number (timeout_in a) ≡ x → IsHere b place (a 3) (a 2) → ruling_at (number_before b place) c ≡ x
      rule x is here = ap (λ (n : ℕ). requesting n b.number (timeout_in a)) (read (a 3) (a 2) here) ∙ is

      go : (x : SemRuling) → requesting (semaphore_at b (a 3) (a 2)) b.number (timeout_in a) ≡ x → Tells place b (come_out r b next a (by_semaphore number_written b x))
      go (Becomes m) is =
          let both = wanting_becomes (semaphore_at b (a 3) (a 2)) b.number (timeout_in a) m is in
          by_line c (come_out r b next a (by_semaphore number_written b (Becomes m))) (codes "DosSemRequest") (a 3) (a 2) (shown.Long (a 1) (a 0) ∷ []) 0 fine some
          (only_line (codes "DosSemRequest") (shown.Far (a 3) (a 2) ∷ shown.Long (a 1) (a 0) ∷ [])) refl
          (λ here. ap {B = List (SemCall × SemRuling)} (λ (x : SemRuling). (c, x) ∷ []) (ap Becomes (sym both.1) ∙ sym (rule (Becomes m) is here)))
          (λ here. number_written_there b place (a 3) (a 2) m here ∙ ap (number_behind (number_before b place)) (sym (rule (Becomes m) is here)))
      go Waiting is = TellsNone refl
      go (Refuses e) is =
          let not_zero = wanting_refuses (semaphore_at b (a 3) (a 2)) b.number (timeout_in a) e is in
          by_line c (come_out r b next a (by_semaphore number_written b (Refuses e))) (codes "DosSemRequest") (a 3) (a 2) (shown.Long (a 1) (a 0) ∷ []) e fine some
          refl refl
          (λ here. ap {B = List (SemCall × SemRuling)} (λ (x : SemRuling). (c, x) ∷ []) (error_said b.number e not_zero ∙ sym (rule (Refuses e) is here)))
          (λ here. ap (number_behind (number_before b place)) (sym (rule (Refuses e) is here)))

  waits : Answers (row (codes "DosSemWait") wanted_slots waiting_for_semaphore)
  waits next a good = go (waiting_for (semaphore_at b (a 3) (a 2)) (timeout_in a)) refl
    where
      r : CallRow
      r = row (codes "DosSemWait") wanted_slots waiting_for_semaphore

      fine : is_good is_writable b.view (a 3) (a 2) 4 ≡ true
      fine = (and_parts (is_good is_writable b.view (a 3) (a 2) 4) true good).0

      c : SemCall
      c = Awaits b.number (timeout_in a)

      rule : (x : SemRuling) → waiting_for (semaphore_at b (a 3) (a 2)) (timeout_in a) ≡ x → IsHere b place (a 3) (a 2) → ruling_at (number_before b place) c ≡ x
      rule x is here = ap (λ (n : ℕ). waiting_for n (timeout_in a)) (read (a 3) (a 2) here) ∙ is

      go : (x : SemRuling) → waiting_for (semaphore_at b (a 3) (a 2)) (timeout_in a) ≡ x → Tells place b (come_out r b next a (by_semaphore nothing_written b x))
      go (Becomes m) is =
          let both = wanting_becomes (semaphore_at b (a 3) (a 2)) (semaphore_at b (a 3) (a 2)) (timeout_in a) m is in
          by_line c (come_out r b next a (by_semaphore nothing_written b (Becomes m))) (codes "DosSemWait") (a 3) (a 2) (shown.Long (a 1) (a 0) ∷ []) 0 fine tt
          (only_line (codes "DosSemWait") (shown.Far (a 3) (a 2) ∷ shown.Long (a 1) (a 0) ∷ [])) refl
          (λ here. ap {B = List (SemCall × SemRuling)} (λ (x : SemRuling). (c, x) ∷ []) (ap Becomes (sym (both.1 ∙ both.0)) ∙ sym (rule (Becomes m) is here)))
          (λ here. read (a 3) (a 2) here ∙ sym both.1 ∙ ap (number_behind (number_before b place)) (sym (rule (Becomes m) is here)))
      go Waiting is = TellsNone refl
      go (Refuses e) is =
          let not_zero = wanting_refuses (semaphore_at b (a 3) (a 2)) (semaphore_at b (a 3) (a 2)) (timeout_in a) e is in
          by_line c (come_out r b next a (by_semaphore nothing_written b (Refuses e))) (codes "DosSemWait") (a 3) (a 2) (shown.Long (a 1) (a 0) ∷ []) e fine tt
          refl refl
          (λ here. ap {B = List (SemCall × SemRuling)} (λ (x : SemRuling). (c, x) ∷ []) (error_said 0 e not_zero ∙ sym (rule (Refuses e) is here)))
          (λ here. ap (number_behind (number_before b place)) (sym (rule (Refuses e) is here)))

  clears : Answers (row (codes "DosSemClear") (ToWords 2 ∷ []) clearing_semaphore)
  clears next a good =
      by_line (Clears b.number) (come_out (row (codes "DosSemClear") (ToWords 2 ∷ []) clearing_semaphore) b next a (by_semaphore number_written b (Becomes 0)))
      (codes "DosSemClear") (a 1) (a 0) [] 0 (and_parts (is_good is_writable b.view (a 1) (a 0) 4) true good).0 tt
      (only_line (codes "DosSemClear") (shown.Far (a 1) (a 0) ∷ [])) refl (λ here. refl) (λ here. number_written_there b place (a 1) (a 0) 0 here)

  sets : Answers (row (codes "DosSemSet") (ToWords 2 ∷ []) setting_semaphore)
  sets next a good =
      by_line (Sets b.number) (come_out (row (codes "DosSemSet") (ToWords 2 ∷ []) setting_semaphore) b next a (by_semaphore number_written b (Becomes 0xFFFF)))
      (codes "DosSemSet") (a 1) (a 0) [] 0 (and_parts (is_good is_writable b.view (a 1) (a 0) 4) true good).0 tt
      (only_line (codes "DosSemSet") (shown.Far (a 1) (a 0) ∷ [])) refl (λ here. refl) (λ here. number_written_there b place (a 1) (a 0) 0xFFFF here)

  with_others : (es rest : List (ℕ × CallRow)) → list_all (λ (e : ℕ × CallRow). is_other e.1.name) es ≡ true → EachRow Answers rest → EachRow Answers (es ++ rest)
  with_others [] rest is each = each
  with_others (e ∷ es) rest is each =
      let parts = and_parts (is_other e.1.name) (list_all (λ (x : ℕ × CallRow). is_other x.1.name) es) is in
      (others e.1 parts.0, with_others es rest parts.1 each)

  -- the first 22 rows are those of other calls
  rows_answer : EachRow Answers rows
  rows_answer = with_others (take 22 rows) (drop 22 rows) refl (requests, (clears, (waits, (sets, tt))))

  -- An effect.

  trap_tells : (vector : ℕ) → Tells place b (trapped b vector)
  trap_tells vector = TellsNone refl

  service_tells : (service next : ℕ) → Tells place b (serviced b service next)
  service_tells service next =
      by_service (Tells place b) Answers b next rows_answer (trap_tells 12) (trap_tells 13) (λ r answers a good. answers next a good) service

  answered_tells : (r : Result Machine Stop) → Tells place b (answered b r)
  answered_tells (Ok s) = TellsNone refl
  answered_tells (Err (stop.Trap vector code)) = trap_tells vector
  answered_tells (Err (stop.Gate service next)) = service_tells service next
  answered_tells (Err (stop.Miss s)) = trap_tells 11

  -- exception 1 behind it
  trapped_tells : (e : Effect) → Tells place b e → Tells place b (record e { state = Trapped 1; lines = e.lines ++ Traps b.number 1 b.cpu.cs b.cpu.ip ∷ [] })
  trapped_tells e (TellsNone none) = TellsNone (told_trapped place e.lines b.number 1 b.cpu.cs b.cpu.ip ∙ none)
  trapped_tells e (TellsOne c is) =
      TellsOne c (record {
        held = is.held;
        numbered = is.numbered;
        tells = told_trapped place e.lines b.number 1 b.cpu.cs b.cpu.ip ∙ is.tells;
        number = is.number;
        changes = is.changes;
      })

  by_flag : (e : Effect) → Tells place b e → (t : Bool)
      → Tells place b (if t then record e { state = Trapped 1; lines = e.lines ++ Traps b.number 1 b.cpu.cs b.cpu.ip ∷ [] } else e)
  by_flag e tells true = trapped_tells e tells
  by_flag e tells false = tells

  single_tells : (e : Effect) → Tells place b e → Tells place b (single_stepped b e)
  single_tells e tells = by_flag e tells (has_trap_flag b.cpu.flags && (is_live e.state && not e.waits))

  pub effect_tells : Tells place b (effect b)
  unfolding effect
  effect_tells = single_tells (answered b (stepped (state b.cpu b.view))) (answered_tells (stepped (state b.cpu b.view)))
