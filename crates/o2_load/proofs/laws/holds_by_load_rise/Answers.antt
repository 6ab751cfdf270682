use Rattle.o2_load.proofs.Fits.{linked_starts_rise}
use Rattle.o2_load.proofs.laws.holds_by_load_rise.Goals as goal

pub returns : goal.returns
returns c = linked_starts_rise
