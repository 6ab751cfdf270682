-- What was read is what the window has, to its last whole block.
use Rattle.std.proofs.Common.{arith}
use Rattle.o2_outer.proofs.Filled.{filled, filled_none}
use Rattle.o2_outer.proofs.window.Window.fill.Goals as goal

-- src/window.rt
pub returns-then-whole-clause-read : goal.returns-then-whole-clause-read
returns-then-whole-clause-read g c =
    filled _ _ c.args.self.now.bytes c.read_on-held.new.buffer c.read_on-held.result.0 c.args.i c.read_on-held.ensures.left (omega (arith, c.read_on-held.ensures.most, c.read_on-held.ensures.len, c.bytes_of-wanted.ensures))

-- src/window.rt
pub returns-else-whole-clause-read : goal.returns-else-whole-clause-read
returns-else-whole-clause-read g c =
    filled_none _ _ c.args.self.now.bytes c.read_on-held.new.buffer c.read_on-held.result.0 c.args.i c.args.self.now.first c.read_on-held.ensures.left
