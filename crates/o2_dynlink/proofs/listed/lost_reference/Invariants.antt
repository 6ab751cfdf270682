use Rattle.std.proofs.Common.{◌≡◌, drop}
use Rattle.std.specs.Prelude.{find, not}
use Rattle.o2_dynlink.specs.Listed.{may_refer}
use Rattle.o2_dynlink.proofs.listed.lost_reference.Given as goal

abbrev pub invariant-loop-k : goal.invariant-loop-k
invariant-loop-k l =
    find (λ name. not (may_refer l.modules name)) (drop l.k l.«module».references) ≡ find (λ name. not (may_refer l.modules name)) l.«module».references
