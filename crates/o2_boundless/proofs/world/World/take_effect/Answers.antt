use Rattle.std.proofs.Common.{ap}
use Rattle.o2_world_parts.specs.Edits.{changes_of}
use Rattle.o2_boundless.proofs.Behind.{behind_ok}
use Rattle.o2_boundless.proofs.world.World.take_effect.Goals as goal

pub returns : goal.returns
returns c =
    behind_ok c.change_all.result c.args.self.now c.args.n c.args.process.now c.args.effect c.work.new.self c.change_all.new.self (changes_of c.in_ok-edits.edits.items) (changes_of c.deref.result.now)
    c.in_ok-work.ensures c.in_ok-edits.ensures (ap changes_of c.deref.ensures.value) c.change_all.ensures
