-- A call by its row: exception 12, exception 13, or what it comes to.
use Rattle.std.proofs.Common.{◌≡◌, ℕ, Bool, true, false, if◌then◌else◌, refl}
use Rattle.std.specs.Prelude.{Option, Some, None}
use Rattle.o2_world.specs.CallParts.{Before, Effect, argument, has_arguments, trapped}
use Rattle.o2_world.specs.Slots.{are_good, pointers_in, words_in}
use Rattle.o2_world.specs.Outcomes.{CallRow, come_out, served, worded}
use Rattle.o2_world.specs.Calls.{row_of, rows, served_by, serviced}
use Rattle.o2_world.specs.RowLaws.{EachEntry, EachRow}
use Rattle.o2_world.proofs.Rows.{of_entry}

pub is_worded : (r : CallRow) (b : Before) (next : ℕ) → has_arguments b.view b.cpu (words_in r.slots) ≡ true → served r b next ≡ worded r b next (argument b.view b.cpu)
unfolding served
is_worded r b next lies = rw (lies) refl

pub points_badly : (r : CallRow) (b : Before) (next : ℕ) (a : ℕ → ℕ) → are_good b.view (pointers_in r.slots b.view a) ≡ false → worded r b next a ≡ trapped b 13
points_badly r b next a bad = rw (bad) refl

pub comes_out : (r : CallRow) (b : Before) (next : ℕ) (a : ℕ → ℕ) → are_good b.view (pointers_in r.slots b.view a) ≡ true
    → worded r b next a ≡ come_out r b next a (r.outcome b a)
comes_out r b next a good = rw (good) refl

-- what goes for the exceptions, and for what a row comes to whose words lie in the stack and whose pointers are good, goes for its call
pub by_parts : (P : Effect → Type 0) (r : CallRow) (b : Before) (next : ℕ) → P (trapped b 12) → P (trapped b 13)
    → (let a : ℕ → ℕ = argument b.view b.cpu in
    has_arguments b.view b.cpu (words_in r.slots) ≡ true → are_good b.view (pointers_in r.slots b.view a) ≡ true → P (come_out r b next a (r.outcome b a)))
    → P (served r b next)
unfolding served
by_parts P r b next few bad done = go (has_arguments b.view b.cpu (words_in r.slots)) (are_good b.view (pointers_in r.slots b.view (argument b.view b.cpu))) refl refl
  where
    go : (t g : Bool) → has_arguments b.view b.cpu (words_in r.slots) ≡ t → are_good b.view (pointers_in r.slots b.view (argument b.view b.cpu)) ≡ g
        → P (if t then (if g then come_out r b next (argument b.view b.cpu) (r.outcome b (argument b.view b.cpu)) else trapped b 13) else trapped b 12)
    go true true lies good = done lies good
    go true false lies wrong = bad
    go false g none e = few

-- the same for the call of any row, or of none
pub by_row : (P : Effect → Type 0) (b : Before) (next : ℕ) → P (trapped b 12) → P (trapped b 13)
    → ((r : CallRow) (a : ℕ → ℕ) → are_good b.view (pointers_in r.slots b.view a) ≡ true → P (come_out r b next a (r.outcome b a)))
    → (o : Option CallRow) → P (served_by o b next)
by_row P b next few bad done None = bad
by_row P b next few bad done (Some r) = by_parts P r b next few bad (λ lies good. done r (argument b.view b.cpu) good)

-- and for that of a service, by its entry of the table
pub by_entry : (P : Effect → Type 0) (Q : ℕ → CallRow → Type 0) (b : Before) (next : ℕ) → EachEntry Q rows → P (trapped b 12) → P (trapped b 13)
    → (service : ℕ)
    → ((r : CallRow) → Q service r → let a : ℕ → ℕ = argument b.view b.cpu in
    has_arguments b.view b.cpu (words_in r.slots) ≡ true → are_good b.view (pointers_in r.slots b.view a) ≡ true → P (come_out r b next a (r.outcome b a)))
    → P (serviced b service next)
by_entry P Q b next each few bad service done = go (row_of service) refl
  where
    go : (o : Option CallRow) → row_of service ≡ o → P (served_by o b next)
    go None e = bad
    go (Some r) e = by_parts P r b next few bad (done r (of_entry Q each service r e))

pub by_service : (P : Effect → Type 0) (Q : CallRow → Type 0) (b : Before) (next : ℕ) → EachRow Q rows → P (trapped b 12) → P (trapped b 13)
    → ((r : CallRow) → Q r → (a : ℕ → ℕ) → are_good b.view (pointers_in r.slots b.view a) ≡ true → P (come_out r b next a (r.outcome b a)))
    → (service : ℕ) → P (serviced b service next)
by_service P Q b next each few bad done service =
    by_entry P (λ (n : ℕ) (r : CallRow). Q r) b next each few bad service (λ r h lies good. done r h (argument b.view b.cpu) good)
