use Rattle.std.proofs.Common.{refl, rules}
use Rattle.o2_store.proofs.Asking.{asks_nothing, none_owned}
use Rattle.o2_store.proofs.store.Store.fill.Goals as goal

-- what comes from an image has no block
pub returns-in-Some-image-clause-asks : goal.returns-in-Some-image-clause-asks
returns-in-Some-image-clause-asks g c = asks_nothing _ _ _ _ _ refl (λ d. none_owned c.args.self.now c.args.key c.law.ensures.shelf c.requires.live (search rules))
