use Rattle.std.proofs.Common.{arith}
use Rattle.test_store_calls.proofs.Fresh.{pictured_fresh, clean_fresh}
use Rattle.test_store.proofs.plain.run.Goals as goal

pub with_device-requires-clause-ready : goal.with_device-requires-clause-ready
with_device-requires-clause-ready c =
    let s = c.in-Ok.store in
    let q = c.in-Ok.ensures in
    record { pictured = pictured_fresh s c.args.images.now q.empty; clean = clean_fresh s c.args.images.now q.out; device = omega (arith, q.map) }
