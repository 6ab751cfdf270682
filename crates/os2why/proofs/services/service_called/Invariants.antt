use Rattle.std.proofs.Common.{◌≡◌, drop}
use Rattle.std.specs.List.{position_from}
use Rattle.o2_base.specs.Services.{services}
use Rattle.o2_ne.specs.NameTable.{same_name}
use Rattle.os2why.proofs.services.service_called.Given as goal

abbrev pub invariant-loop-k : goal.invariant-loop-k
invariant-loop-k l = position_from (λ s. same_name s.name l.name) l.k (drop l.k services) ≡ position_from (λ s. same_name s.name l.name) 0 services
