use Rattle.std.proofs.Common.{◌<◌, ◌∙◌, ap, arith, refl}
use Rattle.std.specs.Prelude.{is_some}
use Rattle.o2_changes.proofs.Taking.{held_yet, one_left, takes_more, takes_none}
use Rattle.o2_changes.proofs.members.drop_some.Goals as goal

pub loop-hold-init : goal.loop-hold-init
loop-hold-init c = record {
  takes = takes_none c.args.regions.now c.args.pid c.args.index c.args.held c.requires.held (c.law.ensures.counted c.args.pid c.args.index c.args.held c.requires.held);
  reserved = refl;
  order = c.requires.order;
}

pub drop_hold-requires-clause-process : goal.drop_hold-requires-clause-process
drop_hold-requires-clause-process c =
    let a = c.requires.process in
    let e = c.loop-hold.invariant.takes.processes in
    (a.0, (let b = a.1 in omega (arith, b, e)))

pub drop_hold-requires-clause-held : goal.drop_hold-requires-clause-held
drop_hold-requires-clause-held c =
    let l : c.loop-hold._hold < c.args.held.holds = (let a = c.loop-hold-test.true in let b = c.requires.few in omega (arith, a, b)) in
    ap is_some (held_yet c.args.regions.now c.loop-hold.regions c.args.pid c.args.index c.loop-hold._hold c.args.held c.loop-hold.invariant.takes c.requires.held) ∙ one_left c.args.held c.loop-hold._hold l

pub loop-hold-preserved : goal.loop-hold-preserved
loop-hold-preserved c =
    let l : c.loop-hold._hold < c.args.held.holds = (let a = c.loop-hold-test.true in let b = c.requires.few in omega (arith, a, b)) in
    record {
      takes = takes_more c.args.regions.now c.loop-hold.regions c.drop_hold.new.regions c.args.pid c.args.index c.loop-hold._hold c.args.held c.requires.held l c.loop-hold.invariant.takes c.drop_hold.ensures.takes;
      reserved = c.drop_hold.ensures.reserved ∙ c.loop-hold.invariant.reserved;
      order = c.drop_hold.ensures.order;
    }
