use Rattle.std.proofs.Common.{◌≡◌, drop, max}
use Rattle.o2_service.specs.Needs.{size_in}
use Rattle.o2_service.proofs.amount.size_given.Given as goal

abbrev pub invariant-loop-pair : goal.invariant-loop-pair
invariant-loop-pair l = max l.largest (size_in (drop l.pair-index l.need) l.key) ≡ size_in l.need l.key
