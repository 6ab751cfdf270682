use Rattle.std.proofs.Common.{◌≡◌, ℕ, Some, sym, ◌∙◌, subst, arith}
use Rattle.o2_place.specs.Layout.{find_in}
use Rattle.o2_compact.proofs.Steps.{at_rank, stays_reshaped}
use Rattle.o2_store.proofs.Fits.{pair_at}
use Rattle.o2_store.proofs.fitting.shorten.Goals as goal

pub reshape-requires-clause-above : goal.reshape-requires-clause-above
reshape-requires-clause-above c =
    let r = c.in-Some.ensures.some in
    (at_rank c.args.places.now c.in-Some.k c.args.key c.range_at-was.result c.law.ensures.layout r.0 r.1 c.range_at-was.ensures).above

pub reshape-requires-clause-below : goal.reshape-requires-clause-below
reshape-requires-clause-below c =
    let r = c.in-Some.ensures.some in
    let a = at_rank c.args.places.now c.in-Some.k c.args.key c.range_at-was.result c.law.ensures.layout r.0 r.1 c.range_at-was.ensures in
    let l = c.requires.less c.range_at-was.result.at c.range_at-was.result.len a.here in
    omega (arith, a.below, l)

pub returns-clause-here : goal.returns-clause-here
returns-clause-here c = λ at was e.
    (let r = c.in-Some.ensures.some in
    let a = at_rank c.args.places.now c.in-Some.k c.args.key c.range_at-was.result c.law.ensures.layout r.0 r.1 c.range_at-was.ensures in
    let s = stays_reshaped c.args.places.now c.reshape.new.self c.in-Some.k c.args.key c.range_at-was.result.at c.args.len c.law.ensures.layout r.0 r.1 c.reshape.ensures.reshaped in
    let d = (pair_at c.range_at-was.result.at c.range_at-was.result.len at was (sym a.here ∙ e)).0 in
    subst (λ (x : ℕ). find_in c.reshape.new.self.ranges c.args.key ≡ Some (x, c.args.len)) d s.0)

pub returns-clause-others : goal.returns-clause-others
returns-clause-others c =
    let r = c.in-Some.ensures.some in
    (stays_reshaped c.args.places.now c.reshape.new.self c.in-Some.k c.args.key c.range_at-was.result.at c.args.len c.law.ensures.layout r.0 r.1 c.reshape.ensures.reshaped).1
