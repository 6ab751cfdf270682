use Rattle.std.proofs.Common.{◌-◌, arith, ap, ◌∙◌, refl, sym}
use Rattle.o2_place.specs.declared.ranges.Range.{Range}
use Rattle.o2_place.specs.Layout.{no_range}
use Rattle.o2_place.proofs.RangeLemmas.{laid_at}
use Rattle.o2_compact.proofs.Steps.{keeps_refl, ranked_length, start_room, widen_fits, widened}
use Rattle.o2_compact.proofs.widen.Goals as goal

pub overflow_sub-growth : goal.overflow_sub-growth
overflow_sub-growth c =
    let n = ranked_length c.args.places.now c.in-Some.i c.args.id c.law.ensures.layout c.in-Some.ensures.some.0 c.in-Some.ensures.some.1 in
    let e = ap (λ (r : Range). r.len) c.range_at-was.ensures in
    omega (arith, n, e, c.requires.longer)

pub loop-k-init : goal.loop-k-init
loop-k-init c =
    let n = ranked_length c.args.places.now c.in-Some.i c.args.id c.law.ensures.layout c.in-Some.ensures.some.0 c.in-Some.ensures.some.1 in
    let e = ap (λ (r : Range). r.len) c.range_at-was.ensures in
    record {
      kept = keeps_refl c.args.phys.now c.args.places.now;
      packed = λ k w. c.requires.packed k (omega (arith, w, c.count-count.ensures.count));
      room = start_room c.args.places.now c.count-count.result (c.args.len - c.range_at-was.result.len) c.count-count.ensures.count (omega (arith, n, e, c.requires.longer, c.requires.room));
      here = refl;
      low = omega (arith, c.count-count.ensures.count, c.in-Some.ensures.some.0);
    }

pub reshape-requires-clause-some : goal.reshape-requires-clause-some
reshape-requires-clause-some c =
    let p = c.args.places.now in
    let n = ranked_length p c.in-Some.i c.args.id c.law.ensures.layout c.in-Some.ensures.some.0 c.in-Some.ensures.some.1 in
    let a = laid_at p.ranges c.in-Some.i 0 p.size no_range c.in-Some.ensures.some.0 c.law.ensures.layout.laid in
    omega (arith, a.0, n, c.requires.longer)

pub reshape-requires-clause-above : goal.reshape-requires-clause-above
reshape-requires-clause-above c =
    let i = c.loop-k.invariant in
    let n = ranked_length c.args.places.now c.in-Some.i c.args.id c.law.ensures.layout c.in-Some.ensures.some.0 c.in-Some.ensures.some.1 in
    let e = ap (λ (r : Range). r.len) c.range_at-was.ensures in
    (widen_fits c.loop-k.places c.in-Some.i c.loop-k.k c.range_at-was.result.at c.range_at-was.result.len c.args.len (c.args.len - c.range_at-was.result.len) c.range_at-was.result
    (omega (arith, i.low)) (omega (arith, i.kept.count, c.in-Some.ensures.some.0)) i.packed i.room (i.here ∙ sym c.range_at-was.ensures) refl refl (omega (arith, n, e, c.requires.longer))).0

pub reshape-requires-clause-below : goal.reshape-requires-clause-below
reshape-requires-clause-below c =
    let i = c.loop-k.invariant in
    let n = ranked_length c.args.places.now c.in-Some.i c.args.id c.law.ensures.layout c.in-Some.ensures.some.0 c.in-Some.ensures.some.1 in
    let e = ap (λ (r : Range). r.len) c.range_at-was.ensures in
    (widen_fits c.loop-k.places c.in-Some.i c.loop-k.k c.range_at-was.result.at c.range_at-was.result.len c.args.len (c.args.len - c.range_at-was.result.len) c.range_at-was.result
    (omega (arith, i.low)) (omega (arith, i.kept.count, c.in-Some.ensures.some.0)) i.packed i.room (i.here ∙ sym c.range_at-was.ensures) refl refl (omega (arith, n, e, c.requires.longer))).1

pub returns : goal.returns
returns c =
    let i = c.loop-k.invariant in
    let n = ranked_length c.args.places.now c.in-Some.i c.args.id c.law.ensures.layout c.in-Some.ensures.some.0 c.in-Some.ensures.some.1 in
    let e = ap (λ (r : Range). r.len) c.range_at-was.ensures in
    widened c.args.phys.now c.loop-k.phys c.args.places.now c.loop-k.places c.reshape.new.self c.in-Some.i c.args.id c.args.len c.range_at-was.result c.range_at-was.ensures i.kept c.law-2.ensures.layout c.in-Some.ensures.some.0 i.here c.in-Some.ensures.some.1
    (omega (arith, n, e, c.requires.longer)) c.reshape.ensures.reshaped
