use Rattle.std.proofs.Common.{◌+◌, ◌/◌, ◌^◌, ◌<◌, arith, get_or, refl}
use Rattle.std.proofs.lemmas.Bool.{ne_eqb}
use Rattle.o2_regions.proofs.Bitwise.{ones_rest}
use Rattle.o2_regions.proofs.WordScans.{clear_full, clear_one, clear_more, clear_found, clear_end}
use Rattle.o2_regions.proofs.bits.scan_clear.Goals as goal

pub loop-i-preserved-then-word : goal.loop-i-preserved-then-word
loop-i-preserved-then-word c = clear_full c.args.words.now c.args.base c.args.low c.args.end c.args.count c.loop-i.i c.loop-i.run c.loop-i.invariant c.loop-i-test.true c.if-word.true

pub loop-i-smaller-then-rest-eq1 : goal.loop-i-smaller-then-rest-eq1
loop-i-smaller-then-rest-eq1 c =
    let word = get_or c.args.words.now ((c.args.base + c.loop-i.i) / 64) 0 in
    let fits : word + 1 < 2 ^ 64 = omega (arith, c.type_inv.words ((c.args.base + c.loop-i.i) / 64), c.if-word.false) in
    omega (arith, (ones_rest c.args.words.now (c.args.base + c.loop-i.i) word c.trailing_ones.result refl fits c.trailing_ones.ensures c.if-rest-eq1.true).0)

pub loop-i-preserved-then-rest-eq1 : goal.loop-i-preserved-then-rest-eq1
loop-i-preserved-then-rest-eq1 c =
    let word = get_or c.args.words.now ((c.args.base + c.loop-i.i) / 64) 0 in
    let fits : word + 1 < 2 ^ 64 = omega (arith, c.type_inv.words ((c.args.base + c.loop-i.i) / 64), c.if-word.false) in
    clear_one c.args.words.now c.args.base c.args.low c.args.end c.args.count c.loop-i.i c.loop-i.run c.loop-i.invariant c.loop-i-test.true c.trailing_ones.result fits c.trailing_ones.ensures c.if-rest-eq1.true

pub returns-then-run-wanted : goal.returns-then-run-wanted
returns-then-run-wanted c = clear_found c.args.words.now c.args.base c.args.low c.args.end c.args.count c.loop-i.i c.loop-i.run c.loop-i.invariant c.loop-i-test.true (ne_eqb _ 1 c.if-rest-eq1.false) c.if-run-wanted.true

pub loop-i-preserved : goal.loop-i-preserved
loop-i-preserved c = clear_more c.args.words.now c.args.base c.args.low c.args.end c.args.count c.loop-i.i c.loop-i.run c.loop-i.invariant (ne_eqb _ 1 c.if-rest-eq1.false) c.if-run-wanted.false

pub returns : goal.returns
returns c = clear_end c.args.words.now c.args.base c.args.low c.args.end c.args.count c.loop-i.i c.loop-i.run c.loop-i.invariant c.loop-i-test.false
