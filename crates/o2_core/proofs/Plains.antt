-- From the view of a plain bus to what its memory holds.
use Rattle.std.proofs.Common.{◌≡◌, refl, sym, ◌∙◌, ap, subst, ℕ, true, false, List, [], length}
use Rattle.std.specs.Prelude.{Option, Some, None}
use Rattle.std.specs.Borrow.{GName}
use Rattle.std.proofs.lemmas.Bool.{false≢true}
use Rattle.o2_base.specs.declared.selector.Selector.{Selector}
use Rattle.o2_isa.specs.declared.cpu.Cpu.{Cpu}
use Rattle.o2_isa.specs.declared.cpu.Outcome.{Outcome}
use Rattle.o2_isa.specs.declared.cpu.Outcome.TheVariants as outcome
use Rattle.o2_isa.specs.View.{View, Hold, Hidden, Rest, Registers, Filling, KeepsFrame, IsBound, Agrees, bound_registers, simple_view, present_or_none, in_register, no_rest, no_hidden}
use Rattle.o2_isa.specs.Steps.{State, state}
use Rattle.o2_isa.specs.Presence.{unseen, IsMissed}
use Rattle.o2_isa.specs.Step.{Answers, stepped, is_miss}
use Rattle.o2_isa.proofs.StepLaws.{answers_unseen, stepped_missed}
use Rattle.o2_bus.specs.declared.plain.Plain.{Plain}
use Rattle.o2_bus.specs.declared.plain_bus.Holds.{Holds}
use Rattle.o2_bus.specs.Plain.{plain_view, bus_view, held_in, shown_in, bytes_in, count_in, registers_of}

-- what the frame says of the memory, and that the bus holds the same reference
pub record Framed (nm nm' : GName) (p q : Plain) (pid pid' : ℕ) : Type 0 where
  pub reference : nm' ≡ nm
  pub held : held_in q pid' ≡ held_in p pid
  pub maps : held_in q ≡ held_in p
  pub shown : shown_in q ≡ shown_in p
  pub sizes : (n : ℕ) → length (bytes_in q n) ≡ length (bytes_in p n)
  pub count : count_in q ≡ count_in p

pub framed : (nm nm' : GName) (p q : Plain) (pid pid' : ℕ) (h h' : Holds) → KeepsFrame (bus_view nm p pid h) (bus_view nm' q pid' h') → Framed nm nm' p q pid pid'
unfolding bus_view
framed nm nm' p q pid pid' h h' f = record {
  reference = name_is (ap (λ (x : Hidden). x.store) f.hidden);
  held = f.held;
  maps = ap (λ (x : Rest). x.maps) f.rest;
  shown = f.present;
  sizes = λ n. ap (λ (s : ℕ → ℕ). s n) f.size;
  count = ap (λ (x : Rest). x.most) f.rest;
}
  where
    name_is : Some nm' ≡ Some nm → nm' ≡ nm
    name_is e = cc

-- the state of a plain memory is that of its bus, without what no instruction sees
pub plain_state : (nm : GName) (p : Plain) (pid pid' : ℕ) (h : Holds) (c : Cpu) → held_in p pid' ≡ held_in p pid → Agrees c (bus_view nm p pid' h) → unseen no_rest no_hidden (state c (bus_view nm p pid' h)) ≡ state c (plain_view p pid c)
unfolding bus_view
plain_state nm p pid pid' h c e a =
    ap (λ (r : Registers). state c (simple_view (held_in p pid') (shown_in p) (bytes_in p) r)) a
    ∙ ap (λ (m : ℕ → Option Hold). state c (simple_view m (shown_in p) (bytes_in p) (bound_registers m c))) e

pub agrees_at : (nm : GName) (p : Plain) (pid : ℕ) (h : Holds) (c : Cpu) → registers_of h ≡ bound_registers (held_in p pid) c → Agrees c (bus_view nm p pid h)
unfolding bus_view
agrees_at nm p pid h c e = e

same_index : (nm nm' : GName) (p q : Plain) (pid pid' : ℕ) → Framed nm nm' p q pid pid' → held_in q pid' ≡ held_in q pid
same_index nm nm' p q pid pid' f = f.held ∙ sym (ap (λ (m : ℕ → ℕ → Option Hold). m pid) f.maps)

pub plain_answers : (o : Outcome) (nm nm' : GName) (p q : Plain) (pid pid' : ℕ) (h h' : Holds) (c c' : Cpu) → Framed nm nm' p q pid pid'
    → Agrees c (bus_view nm p pid h) → Agrees c' (bus_view nm' q pid' h')
    → Answers o (state c' (bus_view nm' q pid' h')) (state c (bus_view nm p pid h)) (stepped (state c (bus_view nm p pid h)))
    → Answers o (state c' (plain_view q pid c')) (state c (plain_view p pid c)) (stepped (state c (plain_view p pid c)))
plain_answers o nm nm' p q pid pid' h h' c c' f a a' r =
    subst (λ (z : State). Answers o z (state c (plain_view p pid c)) (stepped (state c (plain_view p pid c)))) (plain_state nm' q pid pid' h' c' (same_index nm nm' p q pid pid' f) a')
    (subst (λ (z : State). Answers o (unseen no_rest no_hidden (state c' (bus_view nm' q pid' h'))) z (stepped z)) (plain_state nm p pid pid h c refl a)
    (answers_unseen no_rest no_hidden o (state c' (bus_view nm' q pid' h')) (state c (bus_view nm p pid h)) r))

any : Filling
any = record { blocks = λ n. []; hidden = no_hidden }

all_bound : (v : View) → ((n : ℕ) → v.present n ≡ true) → IsBound v
all_bound v e r = by_hold (in_register v.registers r)
  where
    by_hold : (o : Option Hold) → present_or_none v.present o ≡ true
    by_hold None = refl
    by_hold (Some h) = e h.name

not_absent : (s : State) (t : Selector) (names : List ℕ) → ((n : ℕ) → s.view.present n ≡ true) → IsMissed s.view t names → ⊥
not_absent s t names e m = false≢true (sym m.absent ∙ e m.hold.name)

pub never_missed : (o : Outcome) (new old : State) → Answers o new old (stepped old) → ((n : ℕ) → old.view.present n ≡ true) → is_miss o ≡ false
never_missed outcome.Done new old a e = refl
never_missed (outcome.Miss t) new old a e = absurd (not_absent old t _ e (stepped_missed any old t (all_bound old.view e) a.0))
never_missed (outcome.Trap vector code) new old a e = refl
never_missed (outcome.Gate service next) new old a e = refl
