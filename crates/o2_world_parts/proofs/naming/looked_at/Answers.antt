use Rattle.std.proofs.Common.{arith, sym, ◌∙◌}
use Rattle.o2_world_parts.proofs.Names.{looked_end, looked_more, looked_past, looked_zero}
use Rattle.o2_world_parts.proofs.naming.looked_at.Goals as goal

pub returns-then-k-bytes : goal.returns-then-k-bytes
returns-then-k-bytes c = sym (c.loop-k.invariant ∙ looked_past 129 c.loop-k.k c.args.bytes.now (omega arith) (omega arith))

pub returns-then-here-eq0 : goal.returns-then-here-eq0
returns-then-here-eq0 c = sym (c.loop-k.invariant ∙ looked_zero 129 c.loop-k.k c.args.bytes.now (omega arith) (omega arith) c.if-here-eq0.true)

pub loop-k-preserved : goal.loop-k-preserved
loop-k-preserved c = c.loop-k.invariant ∙ looked_more 129 c.loop-k.k c.args.bytes.now (omega arith) (omega arith) c.if-here-eq0.false

pub returns : goal.returns
returns c = sym (c.loop-k.invariant ∙ looked_end c.loop-k.k c.args.bytes.now (omega arith))
