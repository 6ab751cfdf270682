use Rattle.o2_subseg.proofs.Chains.{heap_read}
use Rattle.o2_subseg.proofs.Done.{take_done}
use Rattle.o2_subseg.proofs.Lowest.{take_free, take_lowest, take_none, take_fails}
use Rattle.o2_subseg.proofs.laws.takes_the_lowest.Goals as goal

pub returns : goal.returns
returns c = record {
  free = λ bytes size h are e z. take_free size bytes h (heap_read bytes h are e) (take_done size bytes h e z);
  lowest = λ bytes size p h are e z free. take_lowest size p bytes h (heap_read bytes h are e) (take_done size bytes h e z) free;
  none = λ bytes size p h are e z free. take_none size p bytes h e (heap_read bytes h are e) z free;
  some = λ bytes size h are e n fits none. take_fails size bytes h e (heap_read bytes h are e) n fits none;
}
