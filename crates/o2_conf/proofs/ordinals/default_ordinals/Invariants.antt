use Rattle.std.proofs.Common.{◌≡◌, map, take}
use Rattle.o2_conf.specs.Ordinals.{default_ordinal}
use Rattle.o2_conf.proofs.ordinals.default_ordinals.Given as goal

abbrev pub invariant-loop-number : goal.invariant-loop-number
invariant-loop-number l = l.found.items ≡ map default_ordinal (take l.number-index l.number-items)
