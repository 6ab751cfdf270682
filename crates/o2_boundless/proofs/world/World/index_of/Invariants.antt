use Rattle.std.proofs.Common.{◌≡◌, ◌-◌}
use Rattle.o2_desc.specs.Choice.{first_open}
use Rattle.o2_world.specs.SharedRulings.{index_of}
use Rattle.o2_boundless.specs.Shown.{known_by}
use Rattle.o2_boundless.specs.Sharing.{is_no_share}
use Rattle.o2_boundless.proofs.world.World.index_of.Given as goal

abbrev pub invariant-loop-index : goal.invariant-loop-index
invariant-loop-index l = index_of (known_by l.self) l.name ≡ first_open (is_no_share (known_by l.self) l.name) 1 l.index (8192 - l.index)
