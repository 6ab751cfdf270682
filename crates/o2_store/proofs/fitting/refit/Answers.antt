use Rattle.std.proofs.Common.{◌+◌, ◌*◌, ◌/◌, ap, sym, is_some, arith}
use Rattle.o2_store.proofs.Fits.{refitted}
use Rattle.o2_store.proofs.fitting.refit.Goals as goal

pub returns-clause-refits : goal.returns-clause-refits
returns-clause-refits c =
    refitted c.args.phys.now c.relength.new.phys c.wipe.new.phys c.args.places.now c.relength.new.places c.args.key c.args.old c.args.new
    ((c.args.new + 15) / 16 * 16) c.relength.ensures.relengths (omega arith) c.wipe.ensures.length c.requires.long
    c.wipe.ensures.outside c.wipe.ensures.zeros
    c.law.ensures.apart (ap is_some (sym c.in-Some.ensures))
