use Rattle.std.proofs.Common.{◌≡◌, arith, rules}
use Rattle.o2_store.specs.Shelf.{all_locked}
use Rattle.o2_store.proofs.Tables.{all_small}
use Rattle.o2_store.proofs.store.Store.locked_size.Goals as goal

pub returns-clause-small : goal.returns-clause-small
returns-clause-small c =
    let a = all_small c.args.self.now c.law.ensures.shelf in
    let e : c.self.inside.locked ≡ all_locked c.args.self.now.entries = search rules in
    omega (arith, a, e)
