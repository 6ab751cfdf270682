-- A block that was in memory is found there, so the file isn't read; one that wasn't is what the file gave.
use Rattle.std.proofs.Common.{inr, refl}
use Rattle.o2_outer.proofs.Windows.{has_as}
use Rattle.o2_outer.proofs.Filled.{came}
use Rattle.o2_outer.proofs.file_swap.FileSwap.reads.Goals as goal

-- src/file_swap.rt
pub returns-clause-held : goal.returns-clause-held
returns-clause-held g c =
    λ block h t. absurd (c.get.ensures.none c.if-get.false block (has_as c.args.self.now.window c.flush.new.self.window c.args.i block c.flush.ensures.window h))

-- src/file_swap.rt
pub returns-clause-from : goal.returns-clause-from
returns-clause-from g c =
    λ t. inr (came _ _ _ _ c.args.i c.fill.new.self.window _ (c.if-not-fill.ensures.read refl) (c.get-2.ensures.given t))
