-- The next block stands behind the last one.
use Rattle.std.proofs.Common.{◌*◌, arith}
use Rattle.o2_outer.proofs.Windows.{next_there, next_apart}
use Rattle.o2_outer.proofs.window.Window.append.Goals as goal

-- src/window.rt
pub returns-clause-there : goal.returns-clause-there
returns-clause-there c =
    λ t. next_there c.args.self.now.bytes c.args.from.now c.put.new.self.bytes c.args.self.now.first c.args.self.now.len c.args.i (c.args.self.now.len * 512)
    c.put.new.self.first c.put.new.self.len c.put.ensures.bytes c.put.ensures.place.0 c.put.ensures.place.1
    (omega arith) (omega arith) (omega arith) (omega arith) (omega arith)

-- src/window.rt
pub returns-clause-others : goal.returns-clause-others
returns-clause-others c =
    λ t. next_apart c.args.self.now.bytes c.args.from.now c.put.new.self.bytes c.args.self.now.first c.args.self.now.len c.args.i (c.args.self.now.len * 512)
    c.put.new.self.len c.put.ensures.bytes c.put.ensures.place.1
    (omega arith) (omega arith) (omega arith) (omega arith) (omega arith)
