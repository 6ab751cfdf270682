use Rattle.std.proofs.Common.{arith}
use Rattle.o2_store.proofs.Fits.{opened_range}
use Rattle.o2_store.proofs.fitting.relength.Goals as goal

pub returns-clause-relengths : goal.returns-clause-relengths
returns-clause-relengths c =
    let r = c.requires.placed in
    opened_range c.args.phys.now c.open_gap.new.phys c.args.places.now c.open_gap.new.places c.args.key r.0 c.args.was c.args.len
    c.open_gap.ensures.opens r.1 (omega (arith, c.if-len-was-2.false, c.if-len-was.false)) c.requires.some c.requires.memory
    c.law.ensures.within c.law-2.ensures.within
