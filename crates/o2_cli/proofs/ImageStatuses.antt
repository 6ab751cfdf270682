-- What the status of an image says of the counts, where it was put behind a run with a status of its own.
use Rattle.std.proofs.Common.{◌≡◌, ◌≤◌, ◌⊎◌, inl, ℕ, arith, subst, sym}
use Rattle.std.specs.Prelude.{Result, Ok, Err}
use Rattle.o2_outer.specs.Texts.{Rose}
use Rattle.o2_run.specs.declared.fault.Fault.{Fault}
use Rattle.o2_run.specs.declared.fault.Fault.TheVariants.{Sink, Stopped}
use Rattle.o2_run.specs.declared.steps.Stop.TheVariants.{Input, NoRoom, SwapFull, SwapFault}
use Rattle.o2_run.specs.Faults.{Caused as RunCaused}
use Rattle.o2_dumping.specs.declared.parts.Wrote.{Wrote}
use Rattle.o2_dumping.specs.declared.parts.Wrote.TheVariants as wrote
use Rattle.o2_dumping.specs.Puts.{Caused, HasCauses}
use Rattle.o2_open.specs.declared.session.Session.{Session}
use Rattle.o2_cli.specs.declared.status.Status.{Status}
use Rattle.o2_cli.specs.RunTexts.{RefusesRun}
use Rattle.o2_cli.specs.Statuses.{status_of_image, status_of_run}
use Rattle.o2_cli.specs.Top.{OnInputFault, OnSinkFault, OnSwapFault, OnUnrun}

-- a count that rose has risen where it stands higher still
pub before_causes : (before mid now : ℕ) → Rose before mid → mid ≤ now → Rose before now
before_causes before mid now rose more = grind arith

module _ (ended : Result (Unit {0}) Fault) (whole : Status) (is : whole ≡ status_of_run ended) where
  -- a run's status is one of something that ran
  pub run_unrun : (P : Type 0) → OnUnrun whole P
  run_unrun P = subst (λ (a : Status). OnUnrun a P) (sym is) (by ended)
    where
      by : (r : Result (Unit {0}) Fault) → OnUnrun (status_of_run r) P
      by (Ok x) = tt
      by (Err Sink) = tt
      by (Err (Stopped Input)) = tt
      by (Err (Stopped NoRoom)) = tt
      by (Err (Stopped SwapFull)) = tt
      by (Err (Stopped SwapFault)) = tt

  pub run_refusal : (s : Session) → RefusesRun s whole
  run_refusal s = subst (λ (a : Status). RefusesRun s a) (sym is) (by ended)
    where
      by : (r : Result (Unit {0}) Fault) → RefusesRun s (status_of_run r)
      by (Ok x) = tt
      by (Err Sink) = tt
      by (Err (Stopped Input)) = tt
      by (Err (Stopped NoRoom)) = tt
      by (Err (Stopped SwapFull)) = tt
      by (Err (Stopped SwapFault)) = tt

  -- a fault has its cause
  module _ (sink input device : Type 0) (cause : RunCaused sink input (Unit {0}) device ended) where
    pub run_input : OnInputFault whole input
    run_input = subst (λ (a : Status). OnInputFault a input) (sym is) (by ended cause)
      where
        by : (r : Result (Unit {0}) Fault) → RunCaused sink input (Unit {0}) device r → OnInputFault (status_of_run r) input
        by (Ok x) c = tt
        by (Err Sink) c = tt
        by (Err (Stopped Input)) c = c
        by (Err (Stopped NoRoom)) c = tt
        by (Err (Stopped SwapFull)) c = tt
        by (Err (Stopped SwapFault)) c = tt

    pub run_sink : (Q : Type 0) → (sink → Q) → OnSinkFault whole Q
    run_sink Q later = subst (λ (a : Status). OnSinkFault a Q) (sym is) (by ended cause)
      where
        by : (r : Result (Unit {0}) Fault) → RunCaused sink input (Unit {0}) device r → OnSinkFault (status_of_run r) Q
        by (Ok x) c = tt
        by (Err Sink) c = later c
        by (Err (Stopped Input)) c = tt
        by (Err (Stopped NoRoom)) c = tt
        by (Err (Stopped SwapFull)) c = tt
        by (Err (Stopped SwapFault)) c = tt

    pub run_swap : (Q : Type 0) → (device → Q) → OnSwapFault whole Q
    run_swap Q later = subst (λ (a : Status). OnSwapFault a Q) (sym is) (by ended cause)
      where
        by : (r : Result (Unit {0}) Fault) → RunCaused sink input (Unit {0}) device r → OnSwapFault (status_of_run r) Q
        by (Ok x) c = tt
        by (Err Sink) c = tt
        by (Err (Stopped Input)) c = tt
        by (Err (Stopped NoRoom)) c = tt
        by (Err (Stopped SwapFull)) c = tt
        by (Err (Stopped SwapFault)) c = later c

module _ (w : Wrote) (whole answer : Status) (is : answer ≡ status_of_image w whole) where
  pub image_unrun : (P : Type 0) → OnUnrun whole P → OnUnrun answer P
  image_unrun P h = subst (λ (a : Status). OnUnrun a P) (sym is) (by w)
    where
      by : (w : Wrote) → OnUnrun (status_of_image w whole) P
      by wrote.Done = h
      by wrote.SinkFault = tt
      by wrote.SwapFault = tt

  pub image_refusal : (s : Session) → RefusesRun s whole → RefusesRun s answer
  image_refusal s h = subst (λ (a : Status). RefusesRun s a) (sym is) (by w)
    where
      by : (w : Wrote) → RefusesRun s (status_of_image w whole)
      by wrote.Done = h
      by wrote.SinkFault = tt
      by wrote.SwapFault = tt

  pub image_input : (P : Type 0) → OnInputFault whole P → OnInputFault answer P
  image_input P h = subst (λ (a : Status). OnInputFault a P) (sym is) (by w)
    where
      by : (w : Wrote) → OnInputFault (status_of_image w whole) P
      by wrote.Done = h
      by wrote.SinkFault = tt
      by wrote.SwapFault = tt

  module _ (sink sink_after swap swap_after : ℕ) (causes : HasCauses sink sink_after swap swap_after w) where
    pub image_sink : (Q : Type 0) → OnSinkFault whole (Rose sink sink_after ⊎ Q) → OnSinkFault answer (Rose sink sink_after ⊎ Q)
    image_sink Q h = subst (λ (a : Status). OnSinkFault a (Rose sink sink_after ⊎ Q)) (sym is) (by w causes.caused)
      where
        by : (w : Wrote) → Caused sink sink_after swap swap_after w → OnSinkFault (status_of_image w whole) (Rose sink sink_after ⊎ Q)
        by wrote.Done c = h
        by wrote.SinkFault c = inl c
        by wrote.SwapFault c = tt

    pub image_swap : (P : Type 0) → (Rose swap swap_after → P) → OnSwapFault whole P → OnSwapFault answer P
    image_swap P later h = subst (λ (a : Status). OnSwapFault a P) (sym is) (by w causes.caused)
      where
        by : (w : Wrote) → Caused sink sink_after swap swap_after w → OnSwapFault (status_of_image w whole) P
        by wrote.Done c = h
        by wrote.SinkFault c = tt
        by wrote.SwapFault c = later c
