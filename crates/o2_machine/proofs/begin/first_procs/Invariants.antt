use Rattle.std.proofs.Common.{◌≡◌, map, take}
use Rattle.o2_machine.specs.Readies.{first_proc}
use Rattle.o2_machine.proofs.begin.first_procs.Given as goal

abbrev pub invariant-loop-cpu : goal.invariant-loop-cpu
invariant-loop-cpu l = record { so_far : l.procs.items ≡ map first_proc (take l.cpu-index l.cpus) }
