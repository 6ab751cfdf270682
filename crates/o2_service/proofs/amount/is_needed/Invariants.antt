use Rattle.std.proofs.Common.{◌≡◌, drop}
use Rattle.o2_service.specs.Needs.{needs}
use Rattle.o2_service.proofs.amount.is_needed.Given as goal

abbrev pub invariant-loop-pair : goal.invariant-loop-pair
invariant-loop-pair l = needs l.need l.key ≡ needs (drop l.pair-index l.need) l.key
