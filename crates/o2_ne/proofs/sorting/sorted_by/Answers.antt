use Rattle.o2_ne.proofs.NameIndex.{those_by}
use Rattle.o2_ne.proofs.sorting.sorted_by.Goals as goal

pub returns-clause-those : goal.returns-clause-those
returns-clause-those c = rw (c.in_ok-found.ensures, c.as_slice.ensures.value) (those_by _ _ _ c.sort_unstable.ensures.permutation c.in_ok-keys.ensures)
