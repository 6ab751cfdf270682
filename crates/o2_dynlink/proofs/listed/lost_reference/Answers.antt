use Rattle.std.proofs.Common.{◌≤◌, ◌<◌, ap, arith, length}
use Rattle.o2_ne.specs.declared.head.Head.{Head}
use Rattle.o2_dynlink.proofs.Items.{lost_goes_on, lost_here, lost_none}
use Rattle.o2_dynlink.specs.Listed.{may_refer}
use Rattle.o2_dynlink.proofs.listed.lost_reference.Goals as goal

pub returns-then-not-may_refer : goal.returns-then-not-may_refer
returns-then-not-may_refer c =
    let lt : c.loop-k.k < length c.args.«module».now.references = omega (arith, c.is_runnable.ensures.references, ap (λ (h : Head). h.references) c.head.ensures) in
    lost_here (may_refer c.args.modules.now) _ c.loop-k.k _ _ _ _ lt c.reference_from_0-name.ensures c.may_refer.ensures c.if-not-may_refer.true c.loop-k.invariant

pub loop-k-preserved : goal.loop-k-preserved
loop-k-preserved c =
    let lt : c.loop-k.k < length c.args.«module».now.references = omega (arith, c.is_runnable.ensures.references, ap (λ (h : Head). h.references) c.head.ensures) in
    lost_goes_on (may_refer c.args.modules.now) _ c.loop-k.k _ _ _ _ lt c.reference_from_0-name.ensures c.may_refer.ensures c.if-not-may_refer.false c.loop-k.invariant

pub returns : goal.returns
returns c =
    let le : length c.args.«module».now.references ≤ c.loop-k.k = omega (arith, c.is_runnable.ensures.references, ap (λ (h : Head). h.references) c.head.ensures) in
    lost_none (may_refer c.args.modules.now) _ c.loop-k.k _ le c.loop-k.invariant
