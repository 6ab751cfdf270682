use Rattle.std.proofs.Common.{◌≡◌, ◌+◌, drop}
use Rattle.o2_conf.specs.Processes.{strings_size}
use Rattle.o2_conf.proofs.process.strings_fit.Given as goal

abbrev pub invariant-loop-string : goal.invariant-loop-string
invariant-loop-string l = l.left + strings_size l.strings ≡ l.room + strings_size (drop l.string-index l.strings)
