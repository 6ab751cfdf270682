use Rattle.o2_service.proofs.Among.{only_refl, stays_refl}
use Rattle.o2_stepping.proofs.Goings.{goes_refl}
use Rattle.o2_stepping.proofs.in_store.bring_in.Goals as goal

pub returns-then-here-clause-only : goal.returns-then-here-clause-only
returns-then-here-clause-only g c = only_refl c.args.need.now c.args.store.now

pub returns-then-here-clause-stays : goal.returns-then-here-clause-stays
returns-then-here-clause-stays g c = stays_refl c.args.need.now c.args.store.now

pub returns-then-here-clause-leave : goal.returns-then-here-clause-leave
returns-then-here-clause-leave g c = λ r. goes_refl c.args.store.now

pub returns-in-Here-clause-leave : goal.returns-in-Here-clause-leave
returns-in-Here-clause-leave g c = λ r. c.bring.ensures.leave c.in-Here.is
