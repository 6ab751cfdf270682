use Rattle.std.proofs.Common.{◌≡◌, ◌+◌, drop}
use Rattle.o2_conf.specs.Processes.{strings_size}
use Rattle.o2_load.proofs.starting.place_behind.Given as goal

abbrev pub invariant-loop-string : goal.invariant-loop-string
invariant-loop-string l = l.place + strings_size (drop l.string-index l.strings) ≡ strings_size l.strings + 1
