use Rattle.o2_service.proofs.Clocks.{touched}
use Rattle.o2_service.proofs.learning.touch.Goals as goal

pub returns : goal.returns
returns c = touched c.args.store.now c.touch-live.new.self c.args.id c.touch-live.ensures.rest c.touch-live.ensures.used c.touch-live.ensures.out c.touch-live.ensures.locked c.requires
