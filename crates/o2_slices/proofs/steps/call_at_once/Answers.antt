use Rattle.o2_slices.proofs.steps.call_at_once.Goals as goal

pub returns-then-waits-clause-effect : goal.returns-then-waits-clause-effect
returns-then-waits-clause-effect g c = λ yes. c.waits.ensures.effect c.if-waits.true

pub returns-then-waits-clause-present : goal.returns-then-waits-clause-present
returns-then-waits-clause-present g c = λ yes. c.waits.ensures.present c.if-waits.true
