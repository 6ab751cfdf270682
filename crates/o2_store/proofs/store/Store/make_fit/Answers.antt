use Rattle.o2_store.proofs.Choosing.{none_free}
use Rattle.o2_store.proofs.store.Store.make_fit.Goals as goal

pub returns-clause-alone : goal.returns-clause-alone
returns-clause-alone c = rw (← c.self.view_is) (λ at f. absurd (none_free c.self.inside.places c.args.len c.fit.result c.in_default.is c.fit.ensures.lowest at f))
