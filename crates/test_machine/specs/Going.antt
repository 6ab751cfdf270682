-- A machine goes on over a device of so many blocks.
use Rattle.std.specs.Prelude.{ℕ}
use Rattle.o2_machine.specs.GoesOver.{GoesOver}
use Rattle.o2_machine.specs.declared.machine.Machine.{Machine}

abbrev pub IsGoing : Machine → ℕ → Type 0
IsGoing m blocks = GoesOver m.space m.sched blocks
