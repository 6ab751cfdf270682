-- The calls that are made over the bus, by their rows.
use Rattle.std.proofs.Common.{◌≡◌, ℕ, ◌<◌, ◌==◌, ◌&&◌, not, Bool, true, List, [], Option, Some, ap, sym, ◌∙◌, refl, subst, arith}
use Rattle.o2_isa.specs.declared.cpu.Cpu.{Cpu}
use Rattle.o2_isa.specs.View.{View, Filling, IsBound, is_readable, is_writable}
use Rattle.o2_isa.specs.Pointers.{is_ready}
use Rattle.o2_world.specs.Calls.{Before, argument, asks, has_arguments, read_slots, row_of}
use Rattle.o2_world.specs.Known.{Known}
use Rattle.o2_world.specs.Outcomes.{CallRow, Outcome, Fails, Does, Waits, Leaves, by_ruling, come_out, row, ruled}
use Rattle.o2_world.specs.Slots.{Pointer, are_good, pointers_in, targets_in, words_in}
use Rattle.o2_world.specs.declared.types.Slot.{Slot}
use Rattle.o2_gate.specs.declared.arguments.Arguments.{Arguments}
use Rattle.o2_gate.specs.declared.row.Row.{Row}
use Rattle.o2_gate.specs.Befores.{before_call, boundless}
use Rattle.o2_gate.specs.Given.{AreRead, AreSame, pointers_by, word_in}
use Rattle.o2_gate.specs.Overs.{avail_slots, pid_slots, write_slots}
use Rattle.o2_gate.specs.Pointed.{IsGoodTest, are_ready}
use Rattle.o2_gate.specs.Requests.{ruling_of}
use Rattle.o2_gate.specs.Rows.{IsRow, IsRowOf, name_by, slots_by}
use Rattle.o2_gate.specs.Targets.{asked, looked_in, target_in, targets}
use Rattle.o2_gate.proofs.Agree.{pointers_same}

-- the row of a service by its number
pub row_at : (x : Row) (s n : ℕ) → s ≡ n → IsRowOf (row_of s) (Some x) → IsRowOf (row_of n) (Some x)
row_at x s n is e = subst (λ (k : ℕ). IsRowOf (row_of k) (Some x)) is e

first : (a b : Bool) → (a && b) ≡ true → a ≡ true
first a b e = grind arith

last : (a b : Bool) → (a && (b && true)) ≡ true → b ≡ true
last a b e = grind arith

module _ (v : View) (w : ℕ → ℕ) {ss ts : List Slot} (is : ss ≡ ts) (test : IsGoodTest v (pointers_by ss w)) where
  nothing : Filling
  nothing = record { blocks = λ n. []; hidden = v.hidden }

  tested : are_ready v (pointers_by ts w (boundless nothing v)) ≡ true
  tested = subst (λ (x : List Slot). are_ready v (pointers_by x w (boundless nothing v)) ≡ true) is (test.ready nothing)

module _ (v : View) (w : ℕ → ℕ) (ss : List Slot) (test : IsGoodTest v (pointers_by ss w)) where
  pub pid_ready : ss ≡ pid_slots → is_ready is_writable v (w 1) (w 0) 6 ≡ true
  pid_ready is = first _ _ (tested v w is test)

  pub avail_ready : ss ≡ avail_slots → are_ready v (targets_in avail_slots w) ≡ true
  avail_ready is = tested v w is test

  pub write_buffer : ss ≡ write_slots → is_ready is_readable v (w 4) (w 3) (w 2) ≡ true
  write_buffer is = first _ _ (tested v w is test)

  pub write_done : ss ≡ write_slots → is_ready is_writable v (w 1) (w 0) 2 ≡ true
  write_done is = last _ _ (tested v w is test)

  pub read_buffer : ss ≡ read_slots → is_ready is_writable v (w 4) (w 3) (w 2) ≡ true
  read_buffer is = first _ _ (tested v w is test)

  pub read_done : ss ≡ read_slots → is_ready is_writable v (w 1) (w 0) 2 ≡ true
  read_done is = last _ _ (tested v w is test)

-- What a call that comes out so does goes by the name and the slots of its row alone.
pub come_out_row : (r : CallRow) (outcome : Before → (ℕ → ℕ) → Outcome) (b : Before) (next : ℕ) (a : ℕ → ℕ) (o : Outcome)
    → come_out r b next a o ≡ come_out (row r.name r.slots outcome) b next a o
come_out_row r outcome b next a (Fails error values) = refl
come_out_row r outcome b next a (Does d) = refl
come_out_row r outcome b next a Waits = refl
come_out_row r outcome b next a (Leaves action code) = refl

-- the same by the name and the slots that the code has
pub come_is : (x : Row) (r : CallRow) (same : IsRow r x) (outcome : Before → (ℕ → ℕ) → Outcome) (b : Before) (next : ℕ) (a : ℕ → ℕ) (o : Outcome) → r.outcome b a ≡ o
    → come_out (row x.name.now x.slots.now outcome) b next a o ≡ come_out r b next a (r.outcome b a)
come_is x r same outcome b next a o e =
    ap (λ (n : List ℕ). come_out (row n x.slots.now outcome) b next a o) same.name
    ∙ ap (λ (ss : List Slot). come_out (row r.name ss outcome) b next a o) same.slots
    ∙ sym (come_out_row r outcome b next a o)
    ∙ ap (come_out r b next a) (sym e)

module _ (x : Arguments) (service : ℕ) (words : List ℕ) (same : x.service ≡ service) (same_words : x.words ≡ words) (r : CallRow) (e : row_of service ≡ Some r) where
  its_row : row_of x.service ≡ Some r
  its_row = ap row_of same ∙ e

  pub asked_is : (b : Before) (next : ℕ) → r.outcome b (word_in words) ≡ by_ruling r.slots b (ruling_of x.request b.known b.number b.cpu)
      → come_out r b next (word_in words) (r.outcome b (word_in words)) ≡ asked x b next
  asked_is b next rules =
      come_out_row r (λ c w. by_ruling r.slots c (ruling_of x.request c.known c.number c.cpu)) b next (word_in words) (r.outcome b (word_in words))
      ∙ ap (come_out (ruled r.name r.slots (λ c w. ruling_of x.request c.known c.number c.cpu)) b next (word_in words)) rules
      ∙ ap (λ (ws : List ℕ). come_out (ruled r.name r.slots (λ c w. ruling_of x.request c.known c.number c.cpu)) b next (word_in ws) (by_ruling r.slots b (ruling_of x.request b.known b.number b.cpu))) (sym same_words)
      ∙ ap (λ (o : Option CallRow). come_out (ruled (name_by o) (slots_by o) (λ c w. ruling_of x.request c.known c.number c.cpu)) b next (word_in x.words) (by_ruling (slots_by o) b (ruling_of x.request b.known b.number b.cpu))) (sym its_row)

  pub targets_are : (ps : List Pointer) → ps ≡ target_in r.slots (looked_in x.request) (word_in words) → ps ≡ targets x
  targets_are ps is =
      is
      ∙ ap (λ (ws : List ℕ). target_in r.slots (looked_in x.request) (word_in ws)) (sym same_words)
      ∙ ap (λ (o : Option CallRow). target_in (slots_by o) (looked_in x.request) (word_in x.words)) (sym its_row)

-- A DosRead goes to the input where its pointers are good, its handle is 0, and it wants bytes.
module _ (v : View) (c : Cpu) {ss : List Slot} (is : ss ≡ read_slots) (words : List ℕ) (f : Filling) (bound : IsBound v) where
  pub given_word : AreRead v c ss words → (i : ℕ) → i < 6 → argument (boundless f v) c i ≡ word_in words i
  given_word given i lt = subst (λ (x : List Slot). AreSame (words_in x) (argument (boundless f v) c) (word_in words)) is (given.same f bound) i lt

  all_true : (p q r : Bool) → p ≡ true → q ≡ true → r ≡ true → (p && (q && r)) ≡ true
  all_true p q r x y z = grind arith

  pub asks_by : (number : ℕ) (input : List ℕ) (known : Known) → AreRead v c ss words → IsGoodTest v (pointers_by ss (word_in words))
      → ((word_in words 5 == 0) && not (word_in words 2 == 0)) ≡ true → asks (before_call (boundless f v) number c input known) ≡ true
  unfolding asks
  asks_by number input known given test wants =
      all_true _ _ _ (subst (λ (x : List Slot). has_arguments (boundless f v) c (words_in x) ≡ true) is (given.has f bound))
      (ap (are_good (boundless f v)) (pointers_same (argument (boundless f v) c) (word_in words) (boundless f v) read_slots (given_word given))
      ∙ subst (λ (x : List Slot). are_good (boundless f v) (pointers_in x (boundless f v) (word_in words)) ≡ true) is (test.good f))
      (rw (given_word given 5 (omega arith), given_word given 2 (omega arith)) wants)
