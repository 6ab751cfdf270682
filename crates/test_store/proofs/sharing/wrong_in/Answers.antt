use Rattle.std.proofs.Common.{arith}
use Rattle.test_store_calls.proofs.Fresh.{pictured_fresh, clean_fresh}
use Rattle.test_store.proofs.sharing.wrong_in.Goals as goal

pub wrong_over-requires-clause-ready : goal.wrong_over-requires-clause-ready
wrong_over-requires-clause-ready c =
    let s = c.in_ok-store.store in
    let q = c.in_ok-store.ensures in
    record { pictured = pictured_fresh s c.args.images.now q.empty; clean = clean_fresh s c.args.images.now q.out; device = omega (arith, q.map) }
