use Rattle.std.proofs.Common.{Some, None, refl}
use Rattle.o2_space.proofs.Wording.{by_selector}
use Rattle.o2_space.proofs.discarding.is_named.Goals as goal

pub returns-in-Some : goal.returns-in-Some
returns-in-Some c = by_selector c.args.regions.now c.args.pid c.args.sel c.args.id.age (Some c.in-Some.it) _ c.in-Some.ensures refl

pub returns-in-None : goal.returns-in-None
returns-in-None c = by_selector c.args.regions.now c.args.pid c.args.sel c.args.id.age None _ c.in-None.ensures refl
