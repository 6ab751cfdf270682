use Rattle.std.proofs.Common.{arith, sym, ◌∙◌}
use Rattle.o2_conf.proofs.ByName.{found_here, found_later, found_nowhere}
use Rattle.o2_conf.proofs.ordinals.service_named.Goals as goal

pub returns-then-eq : goal.returns-then-eq
returns-then-eq c = found_here _ _ _ c.loop-number.auto.number c.service_at.ensures (sym c.eq.ensures ∙ c.if-eq.true) c.loop-number.invariant

pub loop-number-preserved : goal.loop-number-preserved
loop-number-preserved c = found_later _ _ _ c.loop-number.auto.number c.service_at.ensures (sym c.eq.ensures ∙ c.if-eq.false) c.loop-number.invariant

pub returns : goal.returns
returns c = found_nowhere _ _ (omega arith) c.loop-number.invariant
