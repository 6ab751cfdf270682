use Rattle.o2_image.proofs.CheckedChains.{chain_fit}
use Rattle.o2_image.proofs.chain.follow.Goals as goal

pub returns-clause-fit : goal.returns-clause-fit
returns-clause-fit c = chain_fit _ _ _ _ _ _ c.requires.wide c.in_ok-_walking.ensures
