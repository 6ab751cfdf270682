use Rattle.o2_subseg.proofs.Chains.{heap_read}
use Rattle.o2_subseg.proofs.Done.{take_done, take_leaves, free_done, free_leaves}
use Rattle.o2_subseg.proofs.Sets.{set_done, fresh_leaves, grow_leaves}
use Rattle.o2_subseg.proofs.laws.calls_change_units.Goals as goal

pub returns : goal.returns
returns c = record {
  fresh = λ bytes size z. fresh_leaves size bytes (set_done 1 size bytes z);
  grown = λ bytes size h are e z. grow_leaves size bytes h e (heap_read bytes h are e) (set_done 0 size bytes z) z;
  taken = λ bytes size h are e z. take_leaves size bytes h (heap_read bytes h are e) (take_done size bytes h e z);
  freed = λ bytes offset size h are e z. free_leaves offset size bytes h (heap_read bytes h are e) (free_done offset size bytes h e z);
}
