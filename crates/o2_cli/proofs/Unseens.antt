-- What a run says whose programs write to a sink that drops what it takes.
use Rattle.std.proofs.Common.{◌≡◌, ◌⊎◌, ℕ, List, [], ◌++◌, Option, Some, ap, sym, ◌∙◌, append-nil, arith, inl, inr}
use Rattle.std.specs.Prelude.{Result, Ok, Err, unwrap_or}
use Rattle.o2_outer.specs.Texts.{Gains, Rose}
use Rattle.o2_run.specs.declared.fault.Fault.{Fault}
use Rattle.o2_run.specs.declared.fault.Fault.TheVariants.{Sink, Stopped}
use Rattle.o2_run.specs.declared.steps.Stop.TheVariants.{Input, NoRoom, SwapFull, SwapFault}
use Rattle.o2_run.specs.Faults.{Caused}

-- it begins with nothing, as the console of the world does
pub empty_gains : (bytes text : List ℕ) → bytes ≡ [] → text ≡ [] → Gains (Some []) (Some bytes) text
empty_gains bytes text b e = λ t is.
    let same : [] ≡ t = ap (λ (o : Option (List ℕ)). unwrap_or o []) is in
    ap Some (b ∙ same ∙ sym (append-nil t) ∙ ap (λ (z : List ℕ). t ++ z) (sym e))

never_rose : Rose 0 0 → ⊥
never_rose rose = omega (arith, rose)

-- it never fails
pub report_caused : (r : Result (Unit {0}) Fault) (sink input room device : Type 0) → Caused (Rose 0 0 ⊎ sink) input room device r → Caused sink input room device r
report_caused (Ok x) sink input room device h = tt
report_caused (Err Sink) sink input room device (inl rose) = absurd (never_rose rose)
report_caused (Err Sink) sink input room device (inr h) = h
report_caused (Err (Stopped Input)) sink input room device h = h
report_caused (Err (Stopped NoRoom)) sink input room device h = h
report_caused (Err (Stopped SwapFull)) sink input room device h = h
report_caused (Err (Stopped SwapFault)) sink input room device h = h
