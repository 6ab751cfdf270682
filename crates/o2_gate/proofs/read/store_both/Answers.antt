use Rattle.std.proofs.Common.{length}
use Rattle.o2_isa.specs.View.{is_writable}
use Rattle.o2_gate.specs.Given.{word_in}
use Rattle.o2_gate.proofs.Stores.{ready_fewer}
use Rattle.o2_gate.proofs.read.store_both.Goals as goal

pub store-requires : goal.store-requires
store-requires g c =
    let w = word_in c.args.words.now in
    ready_fewer is_writable (g.B.Bus.view c.args.bus.now) (w 4) (w 3) (w 2) (length c.args.got.now) c.requires.short c.requires.buffer
