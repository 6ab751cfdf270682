-- The names that a step touches, by what the instruction and the call tell of theirs.
use Rattle.std.proofs.Common.{◌≡◌, ◌⊎◌, inl, inr, ℕ, ◌%◌, ◌==◌, Bool, true, false, cond, ◌||◌, List, [], ◌++◌, take, ap, sym, ◌∙◌, refl, subst, arith}
use Rattle.std.specs.Prelude.{Option, Some, None, Result, Ok, Err, drop}
use Rattle.std.proofs.lemmas.List.Folds.{list_any-append}
use Rattle.o2_base.specs.declared.selector.Selector.{Selector}
use Rattle.o2_isa.specs.declared.cpu.Cpu.{Cpu}
use Rattle.o2_isa.specs.declared.cpu.Loaded.{Loaded}
use Rattle.o2_isa.specs.declared.cpu.Loaded.TheVariants as loaded
use Rattle.o2_isa.specs.declared.cpu.Purpose.{Purpose}
use Rattle.o2_isa.specs.declared.cpu.Purpose.TheVariants.{DataReg, StackReg, Jump, Call, Return}
use Rattle.o2_isa.specs.declared.cpu.Stop.{Stop}
use Rattle.o2_isa.specs.declared.cpu.Stop.TheVariants as stop
use Rattle.o2_isa.specs.declared.instr.Sreg.{Sreg}
use Rattle.o2_isa.specs.declared.instr.Width.{Width}
use Rattle.o2_isa.specs.Reading.{decoded}
use Rattle.o2_isa.specs.View.{View, Hold, read_of, Rest, Hidden, Filling, no_rest, no_hidden, found, is_null, is_readable, is_writable, is_code, in_register, reached, room_of, size_at, rights_at, probe_of, when, called, refused, hold_bytes, fetched}
use Rattle.o2_isa.specs.Steps.{State as Machine, state, Steps, Stops, Ends, Reads, Room, Loads, Sizes, Rights, or_trap, passed, selector}
use Rattle.o2_isa.specs.Presence.{with_unseen, unseen, whole_state, loaded_names, names_after, hold_name, is_in, IsMissed}
use Rattle.o2_isa.specs.Step.{steps_at, stepped, step_names}
use Rattle.o2_isa.proofs.Alike.{read_unseen}
use Rattle.o2_world.specs.Known.{Known}
use Rattle.o2_world.specs.Calls.{Before, row_of}
use Rattle.o2_run.specs.Room.{touched, gate_names, call_names}
use Rattle.o2_gate.specs.Befores.{boundless, before_call}
use Rattle.o2_gate.specs.Pointed.{ArePresent}
use Rattle.o2_gate.specs.Names.{TellsNames}
use Rattle.o2_gate.specs.declared.called.Called.{Called}
use Rattle.o2_run.specs.declared.fault.Fault.{Fault}

-- What no instruction sees doesn't matter for the names that a step loads.

module _ (u : Rest) (h : Hidden) where
  reached_unseen : (v : View) (o : Option Hold) (r : Sreg) (k : ℕ) (w : Width) → reached o is_writable (with_unseen u h v) r k w ≡ reached o is_writable v r k w
  reached_unseen v None r k w = refl
  reached_unseen v (Some x) r k w = refl

  room_unseen : (v : View) (r : Sreg) (k : ℕ) (w : Width) → room_of (with_unseen u h v) r k w ≡ room_of v r k w
  unfolding room_of
  room_unseen v r k w = reached_unseen v (in_register v.registers r) r k w

  when_unseen : (v : View) (a s : ℕ) (ok : ℕ → Bool) (o : Option Hold) → when (with_unseen u h v) a s ok o ≡ when v a s ok o
  when_unseen v a s ok None = refl
  when_unseen v a s ok (Some x) = refl

  called_unseen : (v : View) (s : ℕ) (o : Option Hold) → called (with_unseen u h v) s o ≡ called v s o
  called_unseen v s None = refl
  called_unseen v s (Some x) = refl

  probe_unseen : (v : View) (p : Purpose) (s : ℕ) → probe_of (with_unseen u h v) p (selector s) ≡ probe_of v p (selector s)
  unfolding probe_of
  probe_unseen v DataReg s = ap (λ (z : Loaded). cond (is_null s) loaded.Done z) (when_unseen v 11 s is_readable (found v s))
  probe_unseen v StackReg s = ap (λ (z : Loaded). cond (is_null s) (loaded.Trap 13 0) (cond (s % 4 == 3) z (refused s))) (when_unseen v 12 s is_writable (found v s))
  probe_unseen v Jump s = ap (λ (z : Loaded). cond (is_null s) (loaded.Trap 13 0) z) (when_unseen v 11 s is_code (found v s))
  probe_unseen v Call s = ap (λ (z : Loaded). cond (is_null s) (loaded.Trap 13 0) z) (called_unseen v s (found v s))
  probe_unseen v Return s = ap (λ (z : Loaded). cond (is_null s) (loaded.Trap 13 0) (cond (s % 4 == 3) z (refused s))) (when_unseen v 11 s is_code (found v s))

  size_unseen : (v : View) (s : ℕ) → size_at (with_unseen u h v) s ≡ size_at v s
  unfolding size_at
  size_unseen v s = refl

  rights_unseen : (v : View) (s : ℕ) → rights_at (with_unseen u h v) s ≡ rights_at v s
  unfolding rights_at
  rights_unseen v s = refl

  after_same : (q r : Result ℕ Stop) (f g : ℕ → List ℕ) → q ≡ r → ((x : ℕ) → f x ≡ g x) → names_after q f ≡ names_after r g
  after_same q (Ok x) f g e i = ap (λ (z : Result ℕ Stop). names_after z f) e ∙ i x
  after_same q (Err d) f g e i = ap (λ (z : Result ℕ Stop). names_after z f) e

  loads_unseen : (p : Steps) (v : View) → loaded_names p (with_unseen u h v) ≡ loaded_names p v
  loads_unseen (Stops e) v = refl
  loads_unseen (Ends c cs) v = refl
  loads_unseen (Reads r k w f) v = after_same _ (or_trap (read_of v r k w)) _ (λ x. loaded_names (f x) v) (ap or_trap (read_unseen u h v r k w)) (λ x. loads_unseen (f x) v)
  loads_unseen (Room r k w p) v = after_same _ (or_trap (room_of v r k w)) _ (λ x. loaded_names p v) (ap or_trap (room_unseen v r k w)) (λ x. loads_unseen p v)
  loads_unseen (Loads purpose s next p) v =
      after_same _ (passed next (probe_of v purpose (selector s))) _ (λ x. hold_name (found v s) ++ loaded_names p v) (ap (passed next) (probe_unseen v purpose s))
      (λ x. ap (λ (l : List ℕ). hold_name (found v s) ++ l) (loads_unseen p v))
  loads_unseen (Sizes s f) v = ap (λ (o : Option ℕ). loaded_names (f o) (with_unseen u h v)) (size_unseen v s) ∙ loads_unseen (f (size_at v s)) v
  loads_unseen (Rights s f) v = ap (λ (o : Option ℕ). loaded_names (f o) (with_unseen u h v)) (rights_unseen v s) ∙ loads_unseen (f (rights_at v s)) v

  pub names_unseen : (s : Machine) → step_names (unseen u h s) ≡ step_names s
  unfolding step_names fetched
  names_unseen s = ap (λ (bs : List ℕ). loaded_names (steps_at s.cpu (decoded bs)) (with_unseen u h s.view)) (same s.view.registers.cs) ∙ loads_unseen (steps_at s.cpu (decoded (fetched s.view s.cpu.ip))) s.view
    where
      same : (o : Option Hold) → take 10 (drop s.cpu.ip (hold_bytes (with_unseen u h s.view) o)) ≡ take 10 (drop s.cpu.ip (hold_bytes s.view o))
      same None = refl
      same (Some x) = refl

-- Names in two lists.

in_front : (n : ℕ) (xs ys : List ℕ) → is_in n xs ≡ true → is_in n (xs ++ ys) ≡ true
in_front n xs ys e = list_any-append (λ (m : ℕ). m == n) xs ys ∙ ap (λ (b : Bool). b || is_in n ys) e

behind : (a b : Bool) → b ≡ true → (a || b) ≡ true
behind a b e = grind arith

in_back : (n : ℕ) (xs ys : List ℕ) → is_in n ys ≡ true → is_in n (xs ++ ys) ≡ true
in_back n xs ys e = list_any-append (λ (m : ℕ). m == n) xs ys ∙ behind (is_in n xs) (is_in n ys) e

one_of : (a b : Bool) → (a || b) ≡ true → (a ≡ true) ⊎ (b ≡ true)
one_of true b e = inl refl
one_of false b e = inr e

all_of_both : (v : View) (xs ys : List ℕ) → ArePresent v xs → ArePresent v ys → ArePresent v (xs ++ ys)
all_of_both v xs ys first second n e = go (one_of (is_in n xs) (is_in n ys) (sym (list_any-append (λ (m : ℕ). m == n) xs ys) ∙ e))
  where
    go : (is_in n xs ≡ true) ⊎ (is_in n ys ≡ true) → v.present n ≡ true
    go (inl x) = first n x
    go (inr y) = second n y

none_of : (v : View) → ArePresent v []
none_of v n e = absurd (cc)

-- The step.

module _ (f : Filling) (v : View) (c : Cpu) (number : ℕ) (input : List ℕ) (known : Known) where
  abbrev pub start : Before
  start = before_call (boundless f v) number c input known

  loads_same : step_names (whole_state f (state c v)) ≡ step_names (state c (boundless f v))
  loads_same = sym (names_unseen no_rest no_hidden (whole_state f (state c v)))

  -- a selector that the instruction misses
  pub loads_missed : (s : Selector) → IsMissed v s (step_names (whole_state f (state c v))) → IsMissed v s (touched start)
  loads_missed s m = record {
    hold = m.hold;
    found_it = m.found_it;
    absent = m.absent;
    whole = m.whole;
    named = in_front m.hold.name (step_names (state c (boundless f v))) _ (sym (ap (is_in m.hold.name) loads_same) ∙ m.named);
  }

  abbrev LoadsPresent : Type 0
  LoadsPresent = ArePresent v (step_names (whole_state f (state c v)))

  loads_present : LoadsPresent → ArePresent v (step_names (state c (boundless f v)))
  loads_present here = subst (λ (l : List ℕ). ArePresent v l) loads_same here

  -- no call is made
  pub touched_present : (r : Result Machine Stop) → stepped (state c (boundless f v)) ≡ r → gate_names start r ≡ [] → LoadsPresent → ArePresent v (touched start)
  touched_present r e none here =
      all_of_both v _ _ (loads_present here) (subst (λ (l : List ℕ). ArePresent v l) (sym (ap (gate_names start) e ∙ none)) (none_of v))

  module _ (service next : ℕ) (calls : stepped (state c (boundless f v)) ≡ Err (stop.Gate service next)) where
    names_of_call : call_names start (row_of service) ≡ gate_names start (stepped (state c (boundless f v)))
    names_of_call = sym (ap (gate_names start) calls)

    -- a selector that the call misses
    pub call_missed : (s : Selector) → IsMissed v s (call_names start (row_of service)) → IsMissed v s (touched start)
    call_missed s m = record {
      hold = m.hold;
      found_it = m.found_it;
      absent = m.absent;
      whole = m.whole;
      named = in_back m.hold.name (step_names (state c (boundless f v))) _ (sym (ap (is_in m.hold.name) names_of_call) ∙ m.named);
    }

    -- the call misses none
    pub call_present : LoadsPresent → ArePresent v (call_names start (row_of service)) → ArePresent v (touched start)
    call_present here named = all_of_both v _ _ (loads_present here) (subst (λ (l : List ℕ). ArePresent v l) names_of_call named)

-- What the call tells of its names, from the machine before the far CALL, which changes nothing.

module _ (number : ℕ) (input : List ℕ) (known : Known) (service : ℕ) where
  abbrev pub Tells : Machine → Result Called Fault → Type 0
  Tells s r = TellsNames s.view (λ f. call_names (before_call (boundless f s.view) number s.cpu input known) (row_of service)) r

  pub told_before : (r : Result Called Fault) (s t : Machine) → s ≡ t → Tells s r → Tells t r
  told_before r s t same = subst (λ (x : Machine). Tells x r) same

  pub told_by : (x y : Called) (s t : Machine) → x ≡ y → s ≡ t → Tells s (Ok x) → Tells t (Ok y)
  told_by x y s t is same tells = subst (λ (z : Called). Tells t (Ok z)) is (told_before (Ok x) s t same tells)
