use Rattle.std.proofs.Common.{◌≡◌, map, take}
use Rattle.o2_dynlink.specs.Leads.{lead_of}
use Rattle.o2_dynlink.proofs.leads.leads_of.Given as goal

abbrev pub invariant-loop-k : goal.invariant-loop-k
invariant-loop-k l = l.found.items ≡ map (lead_of l.modules) (take l.k l.«module».references)
