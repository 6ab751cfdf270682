use Rattle.std.proofs.Common.{refl}
use Rattle.o2_stepping.proofs.Here.{may_step}
use Rattle.o2_space.specs.Calls.{no_registers}
use Rattle.o2_space.proofs.calling.give.Goals as goal

pub new-bus-requires-clause-bound : goal.new-bus-requires-clause-bound
new-bus-requires-clause-bound c = (may_step c.args.store.now c.args.regions.now c.args.pid c.requires.named c.requires.settled no_registers c.requires.process refl).bound
