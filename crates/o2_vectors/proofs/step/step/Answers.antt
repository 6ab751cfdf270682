use Rattle.o2_vectors.specs.declared.state.Snapshot.{Snapshot}
use Rattle.o2_vectors.proofs.Sights.{kept, steps}
use Rattle.o2_vectors.proofs.step.step.Goals as goal

pub returns : goal.returns
returns c =
    let is = c.in_ok-plain.ensures in
    let after : Snapshot = record { cpu = c.step_plain-outcome.new.cpu; code = c.segment.result; «data» = c.segment-2.result; extra = c.segment-3.result; stack = c.segment-4.result } in
    steps _ _ c.args.before.now after _ is (kept _ _ c.args.before.now after is c.step_plain-outcome.ensures.frame c.segment.ensures c.segment-2.ensures c.segment-3.ensures c.segment-4.ensures) c.step_plain-outcome.ensures.step
