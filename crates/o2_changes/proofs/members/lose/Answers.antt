use Rattle.o2_changes.proofs.Guarding.{lost_guards}
use Rattle.o2_changes.proofs.Matching.{lose_matches}
use Rattle.o2_changes.proofs.Framing.{order_trans, order_held}
use Rattle.o2_changes.proofs.members.lose.Goals as goal

pub returns-clause-matches : goal.returns-clause-matches
returns-clause-matches c = record {
  world = lose_matches c.args.store.now c.sweep.new.store c.args.regions.now c.drop_some.new.regions c.args.pid c.args.index c.args.count c.args.held c.requires.held c.law.ensures.shelf c.law-2.ensures c.law-3.ensures
      c.drop_some.ensures.takes c.drop_some.ensures.reserved c.drop_some.ensures.order c.sweep.ensures.goes_on.order c.sweep.ensures.goes_on.map c.sweep.ensures.sweeps;
}

pub returns-clause-goes_on : goal.returns-clause-goes_on
returns-clause-goes_on c =
    let s = c.args.store.now in
    let m = c.args.regions.now in
    let n = c.drop_some.new.regions in
    order_trans s s c.sweep.new.store m n n (order_held s m n c.drop_some.ensures.order (λ was. lost_guards s m n c.args.pid c.args.index c.args.count c.drop_some.ensures.takes was)) c.sweep.ensures.goes_on
