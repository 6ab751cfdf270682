-- A process as the writer of an image is given it.
use Rattle.std.specs.Prelude.{ℕ}
use Rattle.o2_dumping.specs.Told.{Row}
use Rattle.o2_world.specs.declared.types.State.{State}
use Rattle.o2_world.specs.declared.types.State.TheVariants.{Live, Exited, Trapped}
use Rattle.o2_world.specs.World.{Process}
use Rattle.o2_dump_worlds.specs.StandsFor.{code_shown}

-- 0 where it lives, 1 where it exited, and 2 where an exception ended it
abbrev pub number_shown : State → ℕ
number_shown Live = 0
number_shown (Exited code) = 1
number_shown (Trapped vector) = 2

abbrev pub row_of : Process → Row
row_of q = (q.cpu, number_shown q.state, code_shown q.state)
