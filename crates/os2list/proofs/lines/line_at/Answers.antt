use Rattle.std.proofs.Common.{refl, arith}
use Rattle.os2list.proofs.Showing.{some_bytes}
use Rattle.os2list.proofs.lines.line_at.Goals as goal

pub returns-in_ok-text-in-One-clause-some : goal.returns-in_ok-text-in-One-clause-some
returns-in_ok-text-in-One-clause-some c =
    let some = some_bytes c.front.result.now c.in-One.instr c.in-One.count ((c.in-One.ensures.one c.in-One.instr c.in-One.count).0 refl) in
    omega (arith, some)
