use Rattle.std.proofs.Common.{sym}
use Rattle.o2_world_parts.proofs.Names.{same_length}
use Rattle.o2_world_parts.proofs.naming.same_text.Goals as goal

pub returns-then-one-other : goal.returns-then-one-other
returns-then-one-other c = sym (same_length c.args.one.now c.args.other.now c.if-one-other.true)
