-- A step that asks for a call on segments: what it is in the world, and which names it touches.
use Rattle.std.proofs.Common.{◌≡◌, ℕ, List, ◌++◌, ap, ◌∙◌}
use Rattle.o2_isa.specs.Step.{stepped}
use Rattle.o2_isa.specs.Steps.{state}
use Rattle.o2_isa.proofs.StepLaws.{gate_step_loads_none}
use Rattle.o2_world.specs.Calls.{Before}
use Rattle.o2_world.specs.Effect.{answered}
use Rattle.o2_gate.specs.declared.arguments.Arguments.{Arguments}
use Rattle.o2_gate.specs.Targets.{asked, targets}
use Rattle.o2_run.specs.Room.{gate_names, pointed, touched, untrapped}
use Rattle.o2_stepping.specs.Ran.{IsCallOf}

module _ (b : Before) (a : Arguments) (next : ℕ) (c : IsCallOf b a next) where
  -- without the exception 1 that may follow in it
  pub untrapped_asked : untrapped b ≡ asked a b next
  untrapped_asked = ap (answered b) c.gate ∙ c.asks

  -- the far CALL loads none, so they are those behind its pointer
  pub touched_asked : touched b ≡ pointed b.view (targets a)
  touched_asked =
      ap (λ (ns : List ℕ). ns ++ gate_names b (stepped (state b.cpu b.view))) (gate_step_loads_none (state b.cpu b.view) c.service c.from c.gate)
      ∙ (ap (gate_names b) c.gate ∙ c.points)
