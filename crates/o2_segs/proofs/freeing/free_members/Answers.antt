use Rattle.std.proofs.Common.{◌∙◌, ap, subst}
use Rattle.o2_regions.specs.Maps.{Maps}
use Rattle.o2_changes.specs.Holding.{FreesRun}
use Rattle.o2_changes.proofs.Guarding.{reserved_guards}
use Rattle.o2_segs.proofs.Limits.{limits_reserved}
use Rattle.o2_segs.proofs.RunFreed.{run_freed}
use Rattle.o2_changes.proofs.Framing.{order_held, order_trans}
use Rattle.o2_segs.proofs.freeing.free_members.Goals as goal

pub returns-clause-matches : goal.returns-clause-matches
returns-clause-matches c =
    run_freed c.args.store.now c.drop_members.new.store c.args.regions.now c.drop_members.new.regions c.free_run.new.regions c.args.pid c.args.index c.args.held c.requires.held c.requires.run
    c.law.ensures c.law-2.ensures c.law-3.ensures c.drop_members.ensures.matches c.drop_members.ensures.takes
    (subst (FreesRun c.drop_members.new.regions c.free_run.new.regions c.args.pid c.args.held.first) c.end_of_run.ensures.end c.free_run.ensures.frees)
    c.free_run.ensures.tables c.free_run.ensures.order

pub returns-clause-limits : goal.returns-clause-limits
returns-clause-limits c = limits_reserved c.args.store.now c.drop_members.new.store c.args.regions.now c.drop_members.new.regions c.free_run.new.regions c.free_run.ensures.tables c.drop_members.ensures.limits

pub returns-clause-processes : goal.returns-clause-processes
returns-clause-processes c = ap (λ (x : Maps). x.processes) c.free_run.ensures.tables ∙ c.drop_members.ensures.takes.processes

pub returns-clause-goes_on : goal.returns-clause-goes_on
returns-clause-goes_on c =
    let t = c.drop_members.new.store in
    let n = c.drop_members.new.regions in
    let o = c.free_run.new.regions in
    order_trans c.args.store.now t t c.args.regions.now n o c.drop_members.ensures.goes_on (order_held t n o c.free_run.ensures.order (λ was. reserved_guards t n o c.free_run.ensures.tables was))
