use Rattle.std.proofs.Common.{refl}
use Rattle.o2_calls.proofs.NotedTold.{all_noted}
use Rattle.o2_calls.proofs.laws.what_is_noted_is_told.Goals as goal

pub returns : goal.returns
returns c = λ p q s w x cause a number cpu answer lawful set stands process total still at matches answers. all_noted p q.maps s w x number cpu lawful set stands process total still at cause a answer q refl matches answers
