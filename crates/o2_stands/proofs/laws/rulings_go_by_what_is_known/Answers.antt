use Rattle.o2_stands.proofs.Ruled.{same_aliasing, same_allocation, same_freeing, same_freeing_cpu, same_locking, same_reallocation, same_sizing, same_unlocking}
use Rattle.o2_stands.proofs.laws.rulings_go_by_what_is_known.Goals as goal

pub returns-clause-allocation : goal.returns-clause-allocation
returns-clause-allocation c = λ m k l n size flags same process. same_allocation m k l same n size flags process

pub returns-clause-reallocation : goal.returns-clause-reallocation
returns-clause-reallocation c = λ m k l n size selector same. same_reallocation m k l same n size selector

pub returns-clause-freeing : goal.returns-clause-freeing
returns-clause-freeing c = λ m k l n selector cpu same. same_freeing m k l same n selector cpu

pub returns-clause-freeing_cpu : goal.returns-clause-freeing_cpu
returns-clause-freeing_cpu c = λ m k l n selector cpu same. same_freeing_cpu m k l same n selector cpu

pub returns-clause-sizing : goal.returns-clause-sizing
returns-clause-sizing c = λ m k l n selector same. same_sizing m k l same n selector

pub returns-clause-locking : goal.returns-clause-locking
returns-clause-locking c = λ m k l n selector same. same_locking m k l same n selector

pub returns-clause-unlocking : goal.returns-clause-unlocking
returns-clause-unlocking c = λ m k l n selector same. same_unlocking m k l same n selector

pub returns-clause-aliasing : goal.returns-clause-aliasing
returns-clause-aliasing c = λ m k l n selector same process. same_aliasing m k l same n selector process
