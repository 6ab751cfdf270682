use Rattle.o2_regions.proofs.Reserves.{is_reserved-with}
use Rattle.o2_regions.proofs.laws.reservations_are_exact.Goals as goal

pub returns : goal.returns
returns c = is_reserved-with
