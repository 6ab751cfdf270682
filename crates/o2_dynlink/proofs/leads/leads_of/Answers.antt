use Rattle.std.proofs.Common.{◌≤◌, ◌<◌, ap, arith, length}
use Rattle.o2_ne.specs.declared.head.Head.{Head}
use Rattle.o2_dynlink.proofs.Leading.{maps_all, maps_more}
use Rattle.o2_dynlink.specs.Leads.{lead_of}
use Rattle.o2_dynlink.proofs.leads.leads_of.Goals as goal

pub loop-k-preserved : goal.loop-k-preserved
loop-k-preserved c =
    let lt : c.loop-k.k < length c.args.«module».now.references = omega (arith, c.is_runnable.ensures.references, ap (λ (h : Head). h.references) c.head.ensures) in
    maps_more (lead_of c.args.modules.now) _ c.loop-k.k _ _ _ _ lt c.reference_from_0.ensures c.loop-k.invariant c.in_ok-add_lead.ensures

pub returns : goal.returns
returns c =
    let le : length c.args.«module».now.references ≤ c.loop-k.k = omega (arith, c.is_runnable.ensures.references, ap (λ (h : Head). h.references) c.head.ensures) in
    maps_all (lead_of c.args.modules.now) _ c.loop-k.k _ le c.loop-k.invariant
