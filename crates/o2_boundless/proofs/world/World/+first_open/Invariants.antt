use Rattle.o2_boundless.proofs.world.World.+first_open.Given as goal

abbrev pub decreases-first_open : goal.decreases-first_open
decreases-first_open l = l.more
