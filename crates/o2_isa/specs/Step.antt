-- One step: the fetch, the spelling and the meaning.
use Rattle.std.specs.Prelude.{◌≡◌, Bool, true, false, ℕ, ◌+◌, ◌%◌, List, Result, Ok, Err}
use Rattle.o2_isa.specs.declared.rows.Decoded.{Decoded}
use Rattle.o2_isa.specs.declared.rows.Decoded.TheVariants.{One, Invalid}
use Rattle.o2_isa.specs.declared.cpu.Cpu.{Cpu}
use Rattle.o2_isa.specs.declared.cpu.Outcome.{Outcome}
use Rattle.o2_isa.specs.declared.cpu.Outcome.TheVariants as outcome
use Rattle.o2_isa.specs.declared.cpu.Stop.{Stop}
use Rattle.o2_isa.specs.declared.cpu.Stop.TheVariants as stop
use Rattle.o2_isa.specs.Reading.{decoded}
use Rattle.o2_isa.specs.View.{Filling, fetched}
use Rattle.o2_isa.specs.Steps.{State, Steps, Stops, run}
use Rattle.o2_isa.specs.Meaning.{steps_of}
use Rattle.o2_isa.specs.Presence.{whole_state, loaded_names, IsMissed}

-- what the step answered is what is meant; where it doesn't complete, registers and bytes are as before
abbrev pub Answers : Outcome → State → State → Result State Stop → Type 0
Answers outcome.Done new old m = m ≡ Ok new
Answers (outcome.Miss s) new old m = (m ≡ Err (stop.Miss s)) × (new ≡ old)
Answers (outcome.Trap vector code) new old m = (m ≡ Err (stop.Trap vector code)) × (new ≡ old)
Answers (outcome.Gate service next) new old m = (m ≡ Err (stop.Gate service next)) × (new ≡ old)

-- the bytes that the step sees
abbrev pub seen : State → List ℕ
seen s = fetched s.view s.cpu.ip

-- no spelling is trap 6; one that CS ends in, or of more than 10 bytes, is trap 13
abbrev pub steps_at : Cpu → Decoded → Steps
steps_at c (One i n) = steps_of c i ((c.ip + n) % 65536)
steps_at c Invalid = Stops (stop.Trap 6 0)
steps_at c _ = Stops (stop.Trap 13 0)

-- what the bytes at CS:IP do
abbrev pub step_steps : State → Steps
step_steps s = steps_at s.cpu (decoded (seen s))

-- one step, a function
unfoldable pub stepped : State → Result State Stop
stepped s = run (step_steps s) s.view

-- the names that a step loads
unfoldable pub step_names : State → List ℕ
step_names s = loaded_names (step_steps s) s.view

-- the step is that of the boundless machine, or one of its names is missed
abbrev pub AsBoundless : Filling → Outcome → State → State → Type 0
AsBoundless h (outcome.Miss s) new old = (new ≡ old) × IsMissed old.view s (step_names (whole_state h old))
AsBoundless h o new old = Answers o (whole_state h new) (whole_state h old) (stepped (whole_state h old))

abbrev pub is_miss : Outcome → Bool
is_miss (outcome.Miss s) = true
is_miss _ = false

abbrev pub outcome_from : {A : Type 0} → Result A Stop → Outcome
outcome_from (Ok x) = outcome.Done
outcome_from (Err (stop.Miss s)) = outcome.Miss s
outcome_from (Err (stop.Trap vector code)) = outcome.Trap vector code
outcome_from (Err (stop.Gate service next)) = outcome.Gate service next
