use Rattle.o2_store.specs.Pictures.{picture}
use Rattle.o2_store.proofs.store.Store.resize.Goals as goal

pub returns-then-is_none-2-clause-resized : goal.returns-then-is_none-2-clause-resized
returns-then-is_none-2-clause-resized g c = λ e. c.set_size.ensures.resizes (g.S.SwapDevice.told c.args.swap.now) (picture c.args.images.now) (g.S.SwapDevice.block c.args.swap.now)
