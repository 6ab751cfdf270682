-- Calls on RAM semaphores by their rows, and the four bytes behind their pointers.
use Rattle.std.proofs.Common.{◌≡◌, ℕ, zero, suc, ◌+◌, ◌-◌, ◌≤◌, ◌==◌, ◌&&◌, ◌||◌, Bool, true, false, not, cond, nat_le, List, [], ◌∷◌, length, Option, Some, None, ap, sym, ◌∙◌, refl, subst, arith}
use Rattle.o2_isa.specs.View.{View, Filling, Hold, bound_in, is_readable, is_writable}
use Rattle.o2_isa.specs.Pointers.{has_present_range, is_ready, put_at_pointer}
use Rattle.o2_world.specs.Calls.{Before, by_semaphore, long_bytes, row_of, semaphore_at, wanted_slots}
use Rattle.o2_world.specs.Outcomes.{CallRow}
use Rattle.o2_world.specs.SemRulings.{SemRuling}
use Rattle.o2_world.specs.Slots.{pointers_in, put_all, targets_in}
use Rattle.o2_world.specs.declared.types.Slot.{Slot}
use Rattle.o2_world.specs.declared.types.Slot.TheVariants.{ToWords}
use Rattle.o2_gate.specs.declared.row.Row.{Row}
use Rattle.o2_gate.specs.Befores.{boundless}
use Rattle.o2_gate.specs.Given.{pointers_by}
use Rattle.o2_gate.specs.Pointed.{IsGoodTest, are_ready}
use Rattle.o2_gate.specs.Rows.{IsRow}
use Rattle.o2_gate.specs.Semaphores.{is_wanting, place_of, sem_parts, sem_ruling, sem_slots}
use Rattle.o2_gate.proofs.Asks.{by_number}
use Rattle.o2_gate.proofs.Heaps.{all_three, first_and, last_and, next_and, written_read}

-- The rows.

pub record IsBySemaphore (service : ℕ) (r : CallRow) : Type 0 where
  pub slots : r.slots ≡ sem_slots service
  pub outcome : (b : Before) (a : ℕ → ℕ)
      → r.outcome b a ≡ by_semaphore (sem_parts service) b (sem_ruling service a b.number (semaphore_at b (a (place_of service + 1)) (a (place_of service))))

of_number : (service n : ℕ) → service ≡ n → {q : CallRow} → row_of n ≡ Some q → IsBySemaphore n q → (r : CallRow) → row_of service ≡ Some r → IsBySemaphore service r
of_number service n e there is r at = subst (λ (s : ℕ). IsBySemaphore s r) (sym e) (by_number (IsBySemaphore n) service n e there is r at)

module _ (service : ℕ) (r : CallRow) (is : row_of service ≡ Some r) where
  at_request : service ≡ 25 → IsBySemaphore service r
  unfolding row_of
  at_request e = of_number service 25 e refl (record { slots = refl; outcome = λ b a. refl }) r is

  at_clear : service ≡ 26 → IsBySemaphore service r
  unfolding row_of
  at_clear e = of_number service 26 e refl (record { slots = refl; outcome = λ b a. refl }) r is

  at_wait : service ≡ 27 → IsBySemaphore service r
  unfolding row_of
  at_wait e = of_number service 27 e refl (record { slots = refl; outcome = λ b a. refl }) r is

  at_set : service ≡ 28 → IsBySemaphore service r
  unfolding row_of
  at_set e = of_number service 28 e refl (record { slots = refl; outcome = λ b a. refl }) r is

  pub by_semaphore_row : 25 ≤ service → service ≤ 28 → IsBySemaphore service r
  by_semaphore_row first last = go (service - 25) (omega (arith, first, last)) (omega (arith, first))
    where
      go : (k : ℕ) → k ≤ 3 → service ≡ k + 25 → IsBySemaphore service r
      go zero less e = at_request e
      go (suc zero) less e = at_clear e
      go (suc (suc zero)) less e = at_wait e
      go (suc (suc (suc zero))) less e = at_set e
      go (suc (suc (suc (suc k)))) less e = absurd (omega (arith, less))

first_of : (a : Bool) → (a && true) ≡ true → a ≡ true
first_of a e = grind arith

module _ (service : ℕ) (first : 25 ≤ service) (last : service ≤ 28) (x : Row) (r : CallRow) (is : row_of service ≡ Some r) (same : IsRow r x) where
  abbrev by : IsBySemaphore service r
  by = by_semaphore_row service r is first last

  pub slots_are : x.slots.now ≡ sem_slots service
  slots_are = same.slots ∙ by.slots

  pub outcome_is : (b : Before) (a : ℕ → ℕ) (place word : ℕ) (m : SemRuling) → place ≡ place_of service → word ≡ semaphore_at b (a (place + 1)) (a place)
      → m ≡ sem_ruling service a b.number word → r.outcome b a ≡ by_semaphore (sem_parts service) b m
  outcome_is b a place word m at number rules =
      by.outcome b a
      ∙ ap (λ (p : ℕ). by_semaphore (sem_parts service) b (sem_ruling service a b.number (semaphore_at b (a (p + 1)) (a p)))) (sym at)
      ∙ ap (λ (n : ℕ). by_semaphore (sem_parts service) b (sem_ruling service a b.number n)) (sym number)
      ∙ ap (by_semaphore (sem_parts service) b) (sym rules)

  pub ready_there : (v : View) (a : ℕ → ℕ) (place : ℕ) → place ≡ place_of service → IsGoodTest v (pointers_by x.slots.now a) → is_ready is_writable v (a (place + 1)) (a place) 4 ≡ true
  ready_there v a place at test =
      let f : Filling = record { blocks = λ n. []; hidden = v.hidden } in
      subst (λ (p : ℕ). is_ready is_writable v (a (p + 1)) (a p) 4 ≡ true) (sym at)
      (go (boundless f v) (is_wanting service) (subst (λ (ss : List Slot). are_ready v (pointers_in ss (boundless f v) a) ≡ true) slots_are (test.ready f)))
    where
      go : (u : View) (c : Bool) → are_ready v (pointers_in (cond c wanted_slots (ToWords 2 ∷ [])) u a) ≡ true
          → is_ready is_writable v (a (cond c 2 0 + 1)) (a (cond c 2 0)) 4 ≡ true
      go u true e = first_of _ e
      go u false e = first_of _ e

-- What is written.

pub not_true : (a : Bool) → not a ≡ true → a ≡ false
not_true a e = grind arith

pub not_false : (a : Bool) → not a ≡ false → a ≡ true
not_false a e = grind arith

module _ (service word : ℕ) (a : ℕ → ℕ) (held : ℕ → Option Hold) (bytes : ℕ → List ℕ) (n : ℕ) where
  pub none_stored : (service == 27) ≡ true → put_all held (targets_in (sem_slots service) a) (sem_parts service word) bytes n ≡ bytes n
  none_stored e =
      ap (λ (c : Bool). put_all held (targets_in (sem_slots service) a) (cond c [] (long_bytes word ∷ [])) bytes n) e
      ∙ go (is_wanting service)
    where
      go : (c : Bool) → put_all held (targets_in (cond c wanted_slots (ToWords 2 ∷ [])) a) [] bytes n ≡ bytes n
      go true = refl
      go false = refl

  pub number_stored : (place : ℕ) → place ≡ place_of service → (service == 27) ≡ false
      → put_at_pointer held bytes (a (place + 1)) (a place) (long_bytes word) n ≡ put_all held (targets_in (sem_slots service) a) (sem_parts service word) bytes n
  number_stored place at e =
      ap (λ (p : ℕ). put_at_pointer held bytes (a (p + 1)) (a p) (long_bytes word) n) at
      ∙ go (is_wanting service)
      ∙ ap (λ (c : Bool). put_all held (targets_in (sem_slots service) a) (cond c [] (long_bytes word ∷ [])) bytes n) (sym e)
    where
      go : (c : Bool) → put_at_pointer held bytes (a (cond c 2 0 + 1)) (a (cond c 2 0)) (long_bytes word) n
          ≡ put_all held (targets_in (cond c wanted_slots (ToWords 2 ∷ [])) a) (long_bytes word ∷ []) bytes n
      go true = refl
      go false = refl

-- What may be written may be read.

read_range : (v : View) (o n : ℕ) (h : Option Hold) → has_present_range is_writable v o n h ≡ true → has_present_range is_readable v o n h ≡ true
read_range v o n None e = e
read_range v o n (Some h) e =
    let here : Bool = v.present h.name in
    let fits : Bool = nat_le (o + n) (length (v.bytes h.name)) in
    all_three here (is_readable h.rights) fits (first_and here (is_writable h.rights) fits e) (written_read h.rights (next_and here (is_writable h.rights) fits e))
    (last_and here (is_writable h.rights) fits e)

or_then : (z a b : Bool) → (a ≡ true → b ≡ true) → (z || a) ≡ true → (z || b) ≡ true
or_then true a b f e = refl
or_then false a b f e = f e

pub ready_read : (v : View) (s o n : ℕ) → is_ready is_writable v s o n ≡ true → is_ready is_readable v s o n ≡ true
unfolding is_ready
ready_read v s o n e = or_then (n == 0) _ _ (read_range v o n (bound_in v.held s)) e
