use Rattle.std.proofs.Common.{subst}
use Rattle.o2_world.specs.Run.{after}
use Rattle.o2_ramsem_laws.specs.Kept.{number_at}
use Rattle.o2_ramsem_laws.proofs.Runs.{played_along}
use Rattle.o2_ramsem_laws.proofs.Sequences.{IsPlayed, cleared_told}
use Rattle.o2_ramsem_laws.proofs.laws.told_requests_are_cleared_between.Goals as goal

pub returns : goal.returns
returns c s w place first last k is low high xs ys zs p t m q u n e =
    let number = number_at (after s w k) place in
    cleared_told number xs ys zs p t m q u n (subst (IsPlayed number) e (played_along s w place first last is k low high))
