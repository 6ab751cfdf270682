use Rattle.std.proofs.Common.{[]}
use Rattle.os2trace.proofs.follow.follow_on.Goals as goal

pub put_all_waiting-requires : goal.put_all_waiting-requires
put_all_waiting-requires c = record { shown = (c.turned.ensures.going.together.ready (λ k. [])).pictures }
