use Rattle.o2_conf.specs.Ordinals.{by_name}
use Rattle.o2_conf.proofs.ByName.{is_service, pushed}
use Rattle.o2_conf.proofs.ordinals.default_ordinals.Goals as goal

pub service_at-requires-clause-low : goal.service_at-requires-clause-low
service_at-requires-clause-low c = (is_service c.loop-number.number-index c.loop-number-test.true).0

pub service_at-requires-clause-high : goal.service_at-requires-clause-high
service_at-requires-clause-high c = (is_service c.loop-number.number-index c.loop-number-test.true).1

pub loop-number-preserved : goal.loop-number-preserved
loop-number-preserved c =
    pushed by_name c.loop-number.number-index _ _ _ c.loop-number-test.true c.service_at.ensures c.loop-number.invariant c.in_ok-push.ensures.items
