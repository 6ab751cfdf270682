use Rattle.std.proofs.Common.{arith}
use Rattle.os2trace.proofs.follow.machine_of.Goals as goal

pub returns-in-Ok : goal.returns-in-Ok
returns-in-Ok c = λ device most.
    c.in-Ok.ensures.begins.goes_on device (omega (arith, most))
