use Rattle.os2why.proofs.Judging.{refused, judged}
use Rattle.os2why.proofs.judge.refusal.Goals as goal

pub returns-in-Err : goal.returns-in-Err
returns-in-Err g c = λ contents input is. refused c.in-Err.fault _ input (c.in-Err.ensures.exact contents is)

pub returns-in-Ok : goal.returns-in-Ok
returns-in-Ok g c = λ contents input is. judged c.start_refusal.result _ c.in-Ok.session input (c.in-Ok.ensures.exact contents is) (c.start_refusal.ensures input)
