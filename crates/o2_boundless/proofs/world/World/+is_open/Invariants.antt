use Rattle.o2_boundless.proofs.world.World.+is_open.Given as goal

abbrev pub decreases-is_open : goal.decreases-is_open
decreases-is_open l = l.count
