use Rattle.o2_conf.proofs.ByName.{FoundFrom}
use Rattle.o2_conf.proofs.ordinals.service_named.Given as goal

abbrev pub invariant-loop-number : goal.invariant-loop-number
invariant-loop-number l = FoundFrom l.number l.name
