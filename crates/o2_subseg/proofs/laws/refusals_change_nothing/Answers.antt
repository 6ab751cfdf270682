use Rattle.o2_world.specs.HeapRulings.{setting_up, taking, giving_back}
use Rattle.o2_subseg.proofs.Lowest.{outcome_refused}
use Rattle.o2_subseg.proofs.Sets.{set_outcome, take_outcome, free_outcome}
use Rattle.o2_subseg.proofs.laws.refusals_change_nothing.Goals as goal

pub returns : goal.returns
returns c = record {
  set = λ bytes flags size n. outcome_refused (setting_up flags size bytes) bytes (set_outcome flags size bytes) n;
  taken = λ bytes size n. outcome_refused (taking size bytes) bytes (take_outcome size bytes) n;
  freed = λ bytes offset size n. outcome_refused (giving_back offset size bytes) bytes (free_outcome offset size bytes) n;
}
