use Rattle.std.proofs.Common.{subst}
use Rattle.o2_world.specs.Run.{after}
use Rattle.o2_ramsem_laws.specs.Kept.{number_at}
use Rattle.o2_ramsem_laws.proofs.Runs.{played_along}
use Rattle.o2_ramsem_laws.proofs.Sequences.{IsPlayed, clear_told}
use Rattle.o2_ramsem_laws.proofs.laws.told_clears_stay.Goals as goal

pub returns : goal.returns
returns c s w place first last k is low high xs ys p m e quiet =
    let number = number_at (after s w k) place in
    clear_told number xs ys p m (subst (IsPlayed number) e (played_along s w place first last is k low high)) quiet
