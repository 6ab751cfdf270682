use Rattle.std.proofs.Common.{◌≤◌, ◌<◌, ap, arith, length}
use Rattle.o2_ne.specs.declared.head.Head.{Head}
use Rattle.o2_dynlink.specs.Reached.{leads_to}
use Rattle.o2_dynlink.proofs.Items.{any_goes_on, any_here, any_none}
use Rattle.o2_dynlink.proofs.reached.has_reference.Goals as goal

pub returns-then-leads_to : goal.returns-then-leads_to
returns-then-leads_to c =
    let lt : c.loop-k.k < length c.args.«module».now.references = omega (arith, c.is_runnable.ensures.references, ap (λ (h : Head). h.references) c.head.ensures) in
    any_here (leads_to c.args.own.now c.args.also) _ c.loop-k.k _ _ _ _ lt c.reference_from_0.ensures c.leads_to.ensures c.if-leads_to.true c.loop-k.invariant

pub loop-k-preserved : goal.loop-k-preserved
loop-k-preserved c =
    let lt : c.loop-k.k < length c.args.«module».now.references = omega (arith, c.is_runnable.ensures.references, ap (λ (h : Head). h.references) c.head.ensures) in
    any_goes_on (leads_to c.args.own.now c.args.also) _ c.loop-k.k _ _ _ _ lt c.reference_from_0.ensures c.leads_to.ensures c.if-leads_to.false c.loop-k.invariant

pub returns : goal.returns
returns c =
    let le : length c.args.«module».now.references ≤ c.loop-k.k = omega (arith, c.is_runnable.ensures.references, ap (λ (h : Head). h.references) c.head.ensures) in
    any_none (leads_to c.args.own.now c.args.also) _ c.loop-k.k _ le c.loop-k.invariant
