use Rattle.std.proofs.Common.{◌≡◌, drop}
use Rattle.std.specs.List.{list_any}
use Rattle.o2_dynlink.specs.Reached.{leads_to}
use Rattle.o2_dynlink.proofs.reached.has_reference.Given as goal

abbrev pub invariant-loop-k : goal.invariant-loop-k
invariant-loop-k l =
    list_any (leads_to l.own l.also) (drop l.k l.«module».references) ≡ list_any (leads_to l.own l.also) l.«module».references
