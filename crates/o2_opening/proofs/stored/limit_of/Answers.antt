use Rattle.std.proofs.Common.{◌∙◌, arith}
use Rattle.o2_opening.proofs.Stores.{live_sized, size_is}
use Rattle.o2_opening.proofs.stored.limit_of.Goals as goal

pub less_one-requires-clause-some : goal.less_one-requires-clause-some
less_one-requires-clause-some c =
    let size = size_is c.args.store.now c.args.id c.in-Some.size c.in-Some.ensures in
    let live = live_sized c.args.store.now c.args.id c.law.ensures.shelf c.requires in
    omega (arith, size, live.0)

pub less_one-requires-clause-most : goal.less_one-requires-clause-most
less_one-requires-clause-most c =
    let size = size_is c.args.store.now c.args.id c.in-Some.size c.in-Some.ensures in
    let live = live_sized c.args.store.now c.args.id c.law.ensures.shelf c.requires in
    omega (arith, size, live.1)

pub returns : goal.returns
returns c = c.less_one.ensures ∙ size_is c.args.store.now c.args.id c.in-Some.size c.in-Some.ensures
