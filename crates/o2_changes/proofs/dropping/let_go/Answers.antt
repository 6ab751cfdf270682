use Rattle.std.proofs.Common.{ap, ◌∙◌}
use Rattle.o2_regions.specs.Maps.{Maps}
use Rattle.o2_changes.proofs.Matching.{let_go_matches}
use Rattle.o2_changes.proofs.Guarding.{dropped_guards, reserved_guards}
use Rattle.o2_changes.proofs.KeepingHolds.{taken_by}
use Rattle.o2_changes.proofs.Framing.{order_trans, order_held}
use Rattle.o2_changes.proofs.dropping.let_go.Goals as goal

pub returns-clause-matches : goal.returns-clause-matches
returns-clause-matches c = record {
  world = let_go_matches c.args.store.now c.sweep.new.store c.args.regions.now c.drop_hold-left.new.regions c.free_index.new.regions c.args.pid c.args.index c.args.held c.requires.held c.law.ensures.shelf
      c.law-2.ensures c.law-3.ensures c.drop_hold-left.ensures.takes c.drop_hold-left.ensures.reserved c.free_index.ensures.frees c.free_index.ensures.tables c.free_index.ensures.order c.sweep.ensures.goes_on.order c.sweep.ensures.goes_on.map c.sweep.ensures.sweeps;
}

pub returns-clause-processes : goal.returns-clause-processes
returns-clause-processes c = ap (λ (x : Maps). x.processes) c.free_index.ensures.tables ∙ c.drop_hold-left.ensures.takes.processes

pub returns-clause-takes : goal.returns-clause-takes
returns-clause-takes c = taken_by c.args.regions.now c.drop_hold-left.new.regions c.free_index.new.regions c.args.pid c.args.index c.free_index.ensures.tables c.drop_hold-left.ensures.takes

pub returns-clause-goes_on : goal.returns-clause-goes_on
returns-clause-goes_on c =
    let s = c.args.store.now in
    let l = c.args.regions.now in
    let m = c.drop_hold-left.new.regions in
    let n = c.free_index.new.regions in
    order_trans s s c.sweep.new.store l n n (order_held s l n c.free_index.ensures.order (λ was. reserved_guards s m n c.free_index.ensures.tables (dropped_guards s l m c.args.pid c.args.index c.drop_hold-left.ensures.takes was)))
    c.sweep.ensures.goes_on
