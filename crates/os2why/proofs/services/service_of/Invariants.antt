use Rattle.std.proofs.Common.{◌≡◌, drop}
use Rattle.std.specs.Prelude.{◌==◌}
use Rattle.std.specs.List.{position_from}
use Rattle.o2_base.specs.Services.{services}
use Rattle.os2why.proofs.services.service_of.Given as goal

abbrev pub invariant-loop-k : goal.invariant-loop-k
invariant-loop-k l = position_from (λ s. s.ordinal == l.ordinal) l.k (drop l.k services) ≡ position_from (λ s. s.ordinal == l.ordinal) 0 services
