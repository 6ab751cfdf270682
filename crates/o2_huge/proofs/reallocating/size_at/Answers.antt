use Rattle.std.proofs.Common.{ap, sym, ◌∙◌}
use Rattle.o2_huge.specs.Growth.{size_there}
use Rattle.o2_huge.proofs.reallocating.size_at.Goals as goal

pub size_of-requires : goal.size_of-requires
size_of-requires c = c.requires.order.held.live c.args.pid c.args.index c.in-Some.held (sym c.in-Some.ensures.held)

pub returns-in-Some : goal.returns-in-Some
returns-in-Some c = c.size_of.ensures ∙ ap (size_there c.args.store.now) c.in-Some.ensures.held
