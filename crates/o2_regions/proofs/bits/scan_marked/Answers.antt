use Rattle.std.proofs.Common.{arith, refl, ◌+◌, ◌/◌}
use Rattle.o2_regions.proofs.WordScans.{marked_none, marked_found, marked_past, marked_end}
use Rattle.o2_regions.proofs.bits.scan_marked.Goals as goal

pub returns-then-first-end : goal.returns-then-first-end
returns-then-first-end c = marked_found c.args.words.now c.args.base c.args.low c.args.end c.loop-i.i c.loop-i.invariant (omega (arith, c.type_inv.words ((c.args.base + c.loop-i.i) / 64))) c.if-rest-ne0.true _ refl c.if-first-end.true

pub returns-else-first-end : goal.returns-else-first-end
returns-else-first-end c = marked_past c.args.words.now c.args.base c.args.low c.args.end c.loop-i.i c.loop-i.invariant (omega (arith, c.type_inv.words ((c.args.base + c.loop-i.i) / 64))) c.if-rest-ne0.true _ refl c.if-first-end.false

pub loop-i-preserved : goal.loop-i-preserved
loop-i-preserved c = marked_none c.args.words.now c.args.base c.args.low c.args.end c.loop-i.i c.loop-i.invariant c.if-rest-ne0.false

pub returns : goal.returns
returns c = marked_end c.args.words.now c.args.base c.args.low c.args.end c.loop-i.i c.loop-i.invariant c.loop-i-test.false
