-- What a run makes of the answer of a turn.
use Rattle.std.proofs.Common.{◌≡◌, ℕ, ◌≤◌, ◌⊎◌, inl, inr, Bool, true, false, ap, sym, ◌∙◌, refl, subst}
use Rattle.std.specs.Prelude.{Option, Some, None, Result, Ok, Err}
use Rattle.o2_run.specs.declared.steps.Stop.TheVariants as stop
use Rattle.o2_run.specs.declared.steps.Turn.{Turn}
use Rattle.o2_run.specs.declared.steps.Turn.TheVariants as turn
use Rattle.o2_run.specs.declared.fault.Fault.{Fault}
use Rattle.o2_run.specs.declared.fault.Fault.TheVariants as fault
use Rattle.o2_outer.specs.Texts.{Rose}
use Rattle.o2_run.specs.Faults.{CauseOf, fault_turn, went_on}
use Rattle.o2_run.specs.Turn.{Caused as TurnCaused, OnGoing, is_for_swap, stopped_by}
use Rattle.o2_run.specs.Ended.{EndsAs, StopsForInput}
use Rattle.o2_run.proofs.Reached.{rose_since}

pub gives : (t : Turn) (b c : Bool) → ◌≡◌ {A = Result Bool Fault} (Ok b) (went_on t) → b ≡ c → went_on t ≡ Ok c
gives t b c e is = subst (λ (x : Bool). went_on t ≡ Ok x) is (sym e)

-- it goes on behind a step or a word alone
pub ran_is : (t : Turn) → went_on t ≡ Ok true → (t ≡ turn.Ran) ⊎ (t ≡ turn.Discarded)
ran_is turn.Ran e = inl refl
ran_is turn.Discarded e = inr refl
ran_is turn.AllEnded e = absurd (cc)
ran_is turn.BudgetSpent e = absurd (cc)
ran_is turn.InputFault e = absurd (cc)
ran_is turn.SinkFault e = absurd (cc)
ran_is turn.NoRoom e = absurd (cc)
ran_is turn.SwapFull e = absurd (cc)
ran_is turn.SwapFault e = absurd (cc)

-- and then it isn't stopped, and less is left
pub still_fresh : (t : Turn) → (t ≡ turn.Ran) ⊎ (t ≡ turn.Discarded) → stopped_by t ≡ None
still_fresh t (inl is) = ap stopped_by is
still_fresh t (inr is) = ap stopped_by is

pub less_left : (t : Turn) (P : Type 0) → (t ≡ turn.Ran) ⊎ (t ≡ turn.Discarded) → OnGoing t P → P
less_left t P (inl is) h = subst (λ (a : Turn). OnGoing a P) is h
less_left t P (inr is) h = subst (λ (a : Turn). OnGoing a P) is h

-- it is over behind one of the two ends
pub end_is : (t : Turn) → went_on t ≡ Ok false → (t ≡ turn.AllEnded) ⊎ (t ≡ turn.BudgetSpent)
end_is turn.Ran e = absurd (cc)
end_is turn.Discarded e = absurd (cc)
end_is turn.AllEnded e = inl refl
end_is turn.BudgetSpent e = inr refl
end_is turn.InputFault e = absurd (cc)
end_is turn.SinkFault e = absurd (cc)
end_is turn.NoRoom e = absurd (cc)
end_is turn.SwapFull e = absurd (cc)
end_is turn.SwapFault e = absurd (cc)

-- and it has a fault behind the answer of this
pub fault_is : (t : Turn) (f : Fault) → went_on t ≡ Err f → t ≡ fault_turn f
fault_is turn.Ran f e = absurd (cc)
fault_is turn.Discarded f e = absurd (cc)
fault_is turn.AllEnded f e = absurd (cc)
fault_is turn.BudgetSpent f e = absurd (cc)
fault_is turn.InputFault f e = let is : fault.Stopped stop.Input ≡ f = cc in ap fault_turn is
fault_is turn.SinkFault f e = let is : fault.Sink ≡ f = cc in ap fault_turn is
fault_is turn.NoRoom f e = let is : fault.Stopped stop.NoRoom ≡ f = cc in ap fault_turn is
fault_is turn.SwapFull f e = let is : fault.Stopped stop.SwapFull ≡ f = cc in ap fault_turn is
fault_is turn.SwapFault f e = let is : fault.Stopped stop.SwapFault ≡ f = cc in ap fault_turn is

-- what such an answer leaves
stays_so : (f : Fault) → stopped_by (fault_turn f) ≡ Some (fault_turn f)
stays_so fault.Sink = refl
stays_so (fault.Stopped stop.Input) = refl
stays_so (fault.Stopped stop.NoRoom) = refl
stays_so (fault.Stopped stop.SwapFull) = refl
stays_so (fault.Stopped stop.SwapFault) = refl

pub ends_with : (o : Option Turn) (t : Turn) (f : Fault) → went_on t ≡ Err f → o ≡ stopped_by t → EndsAs o (Err f)
ends_with o t f e is = is ∙ ap stopped_by (fault_is t f e) ∙ stays_so f

pub ends_at : (o : Option Turn) (t : Turn) → went_on t ≡ Ok false → o ≡ stopped_by t → EndsAs o (Ok tt)
ends_at o t e is = elim (end_is t e) [ inl all ↦ inl (is ∙ ap stopped_by all) | inr spent ↦ inr (is ∙ ap stopped_by spent) ]

-- and for what causes it comes, which are those of an earlier time, too
module _ (sink input device sinks inputs devices : Type 0) (to_sink : sink → sinks) (to_input : input → inputs) (to_device : device → devices) where
  cause_by : (f : Fault) → TurnCaused sink input device (fault_turn f) → CauseOf sinks inputs (Unit {0}) devices f
  cause_by fault.Sink h = to_sink h
  cause_by (fault.Stopped stop.Input) h = to_input h
  cause_by (fault.Stopped stop.NoRoom) h = h
  cause_by (fault.Stopped stop.SwapFull) h = h
  cause_by (fault.Stopped stop.SwapFault) h = to_device h

  pub cause_of : (t : Turn) (f : Fault) → went_on t ≡ Err f → TurnCaused sink input device t → CauseOf sinks inputs (Unit {0}) devices f
  cause_of t f e h = cause_by f (subst (λ (a : Turn). TurnCaused sink input device a) (fault_is t f e) h)

pub either_rose : (a b c x y z : ℕ) → a ≤ b → x ≤ y → Rose b c ⊎ Rose y z → Rose a c ⊎ Rose x z
either_rose a b c x y z first second (inl rose) = inl (rose_since a b c first rose)
either_rose a b c x y z first second (inr rose) = inr (rose_since x y z second rose)

input_alone : (f : Fault) → is_for_swap (fault_turn f) ≡ false → StopsForInput (Err f)
input_alone fault.Sink e = tt
input_alone (fault.Stopped stop.Input) e = refl
input_alone (fault.Stopped stop.NoRoom) e = absurd (cc)
input_alone (fault.Stopped stop.SwapFull) e = absurd (cc)
input_alone (fault.Stopped stop.SwapFault) e = absurd (cc)

pub for_input : (t : Turn) (f : Fault) → went_on t ≡ Err f → is_for_swap t ≡ false → StopsForInput (Err f)
for_input t f e h = input_alone f (ap is_for_swap (sym (fault_is t f e)) ∙ h)
