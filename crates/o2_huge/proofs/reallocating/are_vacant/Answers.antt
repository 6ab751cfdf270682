use Rattle.std.proofs.Common.{◌+◌, arith}
use Rattle.o2_huge.proofs.Places.{vacant_next, vacant_none}
use Rattle.o2_huge.proofs.reallocating.are_vacant.Goals as goal

pub loop-place-init : goal.loop-place-init
loop-place-init c = vacant_none c.args.regions.now c.args.pid c.args.from

pub loop-place-preserved : goal.loop-place-preserved
loop-place-preserved c = vacant_next c.args.regions.now c.args.pid c.args.from c.loop-place.place c.loop-place.invariant (c.is_vacant.ensures.vacant c.if-not-is_vacant.false)

pub returns-then-not-is_vacant-clause-taken : goal.returns-then-not-is_vacant-clause-taken
returns-then-not-is_vacant-clause-taken c = λ e. (c.args.from + c.loop-place.place, (omega arith, (let a = c.loop-place-test.true in omega (arith, a)), c.is_vacant.ensures.taken c.if-not-is_vacant.true))

pub returns-clause-vacant : goal.returns-clause-vacant
returns-clause-vacant c = λ e i low high. c.loop-place.invariant i low (let over = c.loop-place-test.false in omega (arith, high, over))
