use Rattle.std.proofs.Common.{◌+◌, ◌<◌, ◌∙◌, ap, sym}
use Rattle.o2_shared.specs.Shares.{are_shareable, number_of}
use Rattle.o2_shared.proofs.Runs.{below_all, in_stretch, run_members, shareable_alone, shareable_first, shareable_more, shareable_not}
use Rattle.o2_shared.proofs.sharing.are_shared_with.Goals as goal

pub returns-then-held-eq0 : goal.returns-then-held-eq0
returns-then-held-eq0 c =
    c.is_shared_at.ensures ∙ sym (shareable_alone c.args.store.now c.args.regions.now (number_of c.args.flag) c.args.pid c.args.index c.args.held c.if-held-eq0.true)

pub loop-at-init : goal.loop-at-init
loop-at-init c = shareable_first c.args.store.now c.args.regions.now (number_of c.args.flag) c.args.pid c.args.held

pub loop-at-preserved : goal.loop-at-preserved
loop-at-preserved c =
    shareable_more c.args.store.now c.args.regions.now (number_of c.args.flag) c.args.pid c.args.held c.loop-at.at c.loop-at.auto.at (sym c.if-not-is_shared_at.ensures) c.loop-at.invariant

pub returns-then-not-is_shared_at : goal.returns-then-not-is_shared_at
returns-then-not-is_shared_at c =
    (let k = c.loop-at.at in
    let high : k < c.args.held.first + c.args.held.reserved = (let a = c.end_of_run-at-end.ensures.end in let b = c.loop-at-test.true in in_stretch c.args.held k c.end_of_run-at-end.result a b) in
    sym (ap (are_shareable c.args.store.now c.args.regions.now (number_of c.args.flag) c.args.pid) (run_members c.args.regions.now c.args.pid c.args.index c.args.held c.if-held-eq0.false)
    ∙ shareable_not c.args.store.now c.args.regions.now (number_of c.args.flag) c.args.pid c.args.held k c.loop-at.auto.at high (sym c.if-not-is_shared_at.ensures)))

pub returns : goal.returns
returns c =
    sym (ap (are_shareable c.args.store.now c.args.regions.now (number_of c.args.flag) c.args.pid)
    (run_members c.args.regions.now c.args.pid c.args.index c.args.held c.if-held-eq0.false
    ∙ sym (below_all c.args.regions.now c.args.pid c.args.held c.loop-at.at c.end_of_run-at-end.result c.end_of_run-at-end.ensures.end c.loop-at-test.false c.loop-at.auto.at-end c.loop-at.auto.at)) ∙ c.loop-at.invariant)
