use Rattle.std.proofs.Common.{take}
use Rattle.std.specs.List.{All}
use Rattle.o2_image.specs.Whole.{IsRunnable}
use Rattle.o2_open.proofs.opening.all_checked.Given as goal

abbrev pub invariant-loop-one : goal.invariant-loop-one
invariant-loop-one l = record { so_far : All IsRunnable (take l.one-index l.modules) }
