-- From what execute gives to what a step is, over the bus's view and the whole one.
use Rattle.std.proofs.Common.{true, false, ◌≡◌, ◌⊎◌, inl, inr, refl, sym, subst, ap, ◌∙◌, ℕ, ◌+◌, ◌%◌, ◌≤◌, List, length, take, []}
use Rattle.std.specs.Prelude.{Result, Ok, Err, Option, Some, None, drop, Bool, cond}
use Rattle.std.proofs.lemmas.Bool.{false≢true}
use Rattle.o2_base.specs.declared.selector.Selector.{Selector}
use Rattle.o2_isa.specs.declared.instr.Instr.{Instr}
use Rattle.o2_isa.specs.declared.instr.Sreg.TheVariants.{Cs}
use Rattle.o2_isa.specs.declared.rows.Decoded.{Decoded}
use Rattle.o2_isa.specs.declared.rows.Decoded.TheVariants.{One, Invalid, TooLong, Need}
use Rattle.o2_isa.specs.declared.cpu.Cpu.{Cpu}
use Rattle.o2_isa.specs.declared.cpu.Outcome.{Outcome}
use Rattle.o2_isa.specs.declared.cpu.Outcome.TheVariants as outcome
use Rattle.o2_isa.specs.declared.cpu.Stop.{Stop}
use Rattle.o2_isa.specs.declared.cpu.Stop.TheVariants as stop
use Rattle.o2_isa.specs.Reading.{decoded}
use Rattle.o2_isa.specs.View.{View, Hold, Rest, Hidden, Filling, whole, KeepsFrame, IsBound, Agrees, present_or_none, fetched, hold_bytes}
use Rattle.o2_isa.specs.Steps.{State, Steps, Gives, run, changed}
use Rattle.o2_isa.specs.Meaning.{meaning}
use Rattle.o2_isa.specs.Presence.{with_binds, whole_state, unseen, unseen_result, with_unseen, loaded_names, AsWhole, IsMissed, IsRow, is_in}
use Rattle.o2_isa.specs.Step.{Answers, AsBoundless, seen, steps_at, step_steps, stepped, step_names, outcome_from, is_miss}
use Rattle.o2_isa.proofs.Alike.{run_whole, run_missed, frame_refl, frame_changed, run_unseen, bound_made, agrees_changed, few_loads, gate_loads_none, loaded_present}
use Rattle.o2_isa.proofs.Endings.{EndsBy, run_ends}
use Rattle.o2_isa.proofs.Mnemonics.{steps_are_rows}

pub answers_from : {A : Type 0} (r : Result A Stop) (new old : State) (m : Result State Stop) → Gives r new old m → Answers (outcome_from r) new old m
answers_from (Ok x) new old m h = h
answers_from (Err (stop.Miss s)) new old m h = h
answers_from (Err (stop.Trap vector code)) new old m h = h
answers_from (Err (stop.Gate service next)) new old m h = h

seen_whole : (h : Filling) (s : State) → IsBound s.view → seen (whole_state h s) ≡ seen s
unfolding fetched
seen_whole h s b = ap (λ (bs : List ℕ). take 10 (drop s.cpu.ip bs)) (by_hold s.view.registers.cs (b Cs))
  where
    by_hold : (o : Option Hold) → present_or_none s.view.present o ≡ true → hold_bytes (whole h s.view) o ≡ hold_bytes s.view o
    by_hold None e = refl
    by_hold (Some x) e = ap (λ (t : Bool). cond t (s.view.bytes x.name) (s.view.hidden.away x.name h.blocks)) e

steps_whole : (h : Filling) (s : State) → IsBound s.view → step_steps (whole_state h s) ≡ step_steps s
steps_whole h s b = ap (λ (bs : List ℕ). steps_at s.cpu (decoded bs)) (seen_whole h s b)

at_row : (c : Cpu) (d : Decoded) → IsRow c 1 (steps_at c d)
at_row c (One i n) = steps_are_rows c i ((c.ip + n) % 65536)
at_row c Invalid = tt
at_row c TooLong = tt
at_row c Need = tt

pub row_of_step : (s : State) → IsRow s.cpu 1 (step_steps s)
row_of_step s = at_row s.cpu (decoded (seen s))

-- what the whole view's step gives
pub stepped_whole : (h : Filling) (s : State) → IsBound s.view → AsWhole h (stepped s) (stepped (whole_state h s))
unfolding stepped
stepped_whole h s b = subst (λ (p : Steps). AsWhole h (stepped s) (run p (whole h s.view))) (sym (steps_whole h s b)) (run_whole h s.cpu 1 (step_steps s) s.view (row_of_step s) b)

pub stepped_missed : (h : Filling) (s : State) (t : Selector) → IsBound s.view → stepped s ≡ Err (stop.Miss t) → IsMissed s.view t (step_names (whole_state h s))
unfolding stepped step_names
stepped_missed h s t b e = subst (λ (p : Steps). IsMissed s.view t (loaded_names p (whole h s.view))) (sym (steps_whole h s b)) (run_missed h s.cpu 1 (step_steps s) s.view t (row_of_step s) b e)

pub boundless : (h : Filling) (o : Outcome) (new old : State) → IsBound old.view → Answers o new old (stepped old) → AsBoundless h o new old
boundless h outcome.Done new old b a = subst (λ (r : Result State Stop). AsWhole h r (stepped (whole_state h old))) a (stepped_whole h old b)
boundless h (outcome.Miss s) new old b a = (a.1, stepped_missed h old s b a.0)
boundless h (outcome.Trap n code) new old b a = (subst (λ (r : Result State Stop). AsWhole h r (stepped (whole_state h old))) a.0 (stepped_whole h old b), ap (whole_state h) a.1)
boundless h (outcome.Gate k next) new old b a = (subst (λ (r : Result State Stop). AsWhole h r (stepped (whole_state h old))) a.0 (stepped_whole h old b), ap (whole_state h) a.1)

pub stepped_unseen : (u : Rest) (h : Hidden) (s : State) → stepped (unseen u h s) ≡ unseen_result u h (stepped s)
unfolding stepped fetched
stepped_unseen u h s = ap (λ (bs : List ℕ). run (steps_at s.cpu (decoded bs)) (with_unseen u h s.view)) (same s.view.registers.cs) ∙ run_unseen u h (step_steps s) s.view
  where
    same : (o : Option Hold) → take 10 (drop s.cpu.ip (hold_bytes (with_unseen u h s.view) o)) ≡ take 10 (drop s.cpu.ip (hold_bytes s.view o))
    same None = refl
    same (Some x) = refl

-- the same with other hidden parts
pub answers_unseen : (u : Rest) (h : Hidden) (o : Outcome) (new old : State) → Answers o new old (stepped old) → Answers o (unseen u h new) (unseen u h old) (stepped (unseen u h old))
answers_unseen u h outcome.Done new old a = stepped_unseen u h old ∙ ap (unseen_result u h) a
answers_unseen u h (outcome.Miss s) new old a = (stepped_unseen u h old ∙ ap (unseen_result u h) a.0, ap (unseen u h) a.1)
answers_unseen u h (outcome.Trap n code) new old a = (stepped_unseen u h old ∙ ap (unseen_result u h) a.0, ap (unseen u h) a.1)
answers_unseen u h (outcome.Gate k next) new old a = (stepped_unseen u h old ∙ ap (unseen_result u h) a.0, ap (unseen u h) a.1)

pub decoded_step : (bs : List ℕ) (d : Decoded) (o : Outcome) (new old : State) → bs ≡ seen old → d ≡ decoded bs → Answers o new old (run (steps_at old.cpu d) old.view) → Answers o new old (stepped old)
unfolding stepped
decoded_step bs d o new old e is a =
    subst (λ (x : List ℕ). Answers o new old (run (steps_at old.cpu (decoded x)) old.view)) e
    (subst (λ (x : Decoded). Answers o new old (run (steps_at old.cpu x) old.view)) is a)

pub other_step : (d : Decoded) (s : State) → ((i : Instr) (n : ℕ) → d ≡ One i n → ⊥) → (d ≡ Invalid → ⊥) → run (steps_at s.cpu d) s.view ≡ Err (stop.Trap 13 0)
other_step (One i n) s a b = absurd (a i n refl)
other_step Invalid s a b = absurd (b refl)
other_step TooLong s a b = refl
other_step Need s a b = refl

pub step_loads_few : (s : State) → length (step_names s) ≤ 1
unfolding step_names
step_loads_few s = few_loads s.cpu 1 (step_steps s) s.view (row_of_step s)

pub gate_step_loads_none : (s : State) (k next : ℕ) → stepped s ≡ Err (stop.Gate k next) → step_names s ≡ []
unfolding stepped step_names
gate_step_loads_none s k next calls = gate_loads_none s.cpu (step_steps s) s.view k next (row_of_step s) calls

-- a step changes nothing, or completes and ends by changes
pub stepped_ends : (o : Outcome) (new old : State) → Answers o new old (stepped old) → (new ≡ old) ⊎ EndsBy old.cpu old.view new
unfolding stepped
stepped_ends outcome.Done new old a = inr (run_ends old.cpu 1 (step_steps old) old.view new (row_of_step old) a)
stepped_ends (outcome.Miss s) new old a = inl a.1
stepped_ends (outcome.Trap n code) new old a = inl a.1
stepped_ends (outcome.Gate k next) new old a = inl a.1

pub stepped_frame : (o : Outcome) (new old : State) → Answers o new old (stepped old) → KeepsFrame old.view new.view
stepped_frame o new old a = framed (stepped_ends o new old a)
  where
    framed : (new ≡ old) ⊎ EndsBy old.cpu old.view new → KeepsFrame old.view new.view
    framed (inl e) = subst (λ (z : State). KeepsFrame old.view z.view) (sym e) (frame_refl old.view)
    framed (inr b) = subst (λ (z : View). KeepsFrame old.view z) b.left (frame_changed old.view b.changes old.view (frame_refl old.view))

pub stepped_agrees : (o : Outcome) (new old : State) → Answers o new old (stepped old) → Agrees old.cpu old.view → Agrees new.cpu new.view
stepped_agrees o new old a g = agreed (stepped_ends o new old a)
  where
    agreed : (new ≡ old) ⊎ EndsBy old.cpu old.view new → Agrees new.cpu new.view
    agreed (inl e) = subst (λ (z : State). Agrees z.cpu z.view) (sym e) g
    agreed (inr b) =
        subst (λ (z : View). Agrees new.cpu z) b.left
        (agrees_changed old.cpu b.changes old.view g ∙ sym (bound_made (changed b.changes old.view).held new.cpu (with_binds b.changes old.cpu) b.binds))

other_result : (r : Result State Stop) (e d : Stop) → r ≡ Err e → r ≡ Err d → e ≡ d
other_result (Ok x) e d p q = cc
other_result (Err f) e d p q = cc

not_missed : (o : Outcome) (new old : State) (t : Selector) → Answers o new old (stepped old) → is_miss o ≡ false → stepped old ≡ Err (stop.Miss t) → ⊥
not_missed outcome.Done new old t a m e = let x : Ok new ≡ Err (stop.Miss t) = sym a ∙ e in cc
not_missed (outcome.Miss s) new old t a m e = false≢true (sym m)
not_missed (outcome.Trap n code) new old t a m e = let x : stop.Trap n code ≡ stop.Miss t = other_result (stepped old) _ _ a.0 e in cc
not_missed (outcome.Gate k next) new old t a m e = let x : stop.Gate k next ≡ stop.Miss t = other_result (stepped old) _ _ a.0 e in cc

pub stepped_present : (h : Filling) (o : Outcome) (new old : State) → IsBound old.view → Answers o new old (stepped old) → is_miss o ≡ false → (n : ℕ) → is_in n (step_names (whole_state h old)) ≡ true → old.view.present n ≡ true
unfolding stepped step_names
stepped_present h o new old b a m n i =
    loaded_present h (step_steps old) old.view b (λ t e. not_missed o new old t a m e) n
    (subst (λ (p : Steps). is_in n (loaded_names p (whole h old.view)) ≡ true) (steps_whole h old b) i)

pub decoded_one : (bs : List ℕ) (i : Instr) (n : ℕ) (o : Outcome) (new old : State) → bs ≡ seen old → One i n ≡ decoded bs → Answers o new old (meaning old i ((old.cpu.ip + n) % 65536)) → Answers o new old (stepped old)
unfolding meaning
decoded_one bs i n o new old e is a = decoded_step bs (One i n) o new old e is a
