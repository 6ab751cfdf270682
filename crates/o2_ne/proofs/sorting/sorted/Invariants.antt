use Rattle.std.proofs.Common.{◌≡◌, length}
use Rattle.o2_ne.specs.NameOrder.{AreThose}
use Rattle.o2_ne.proofs.sorting.sorted.Given as goal

abbrev pub invariant-loop-k : goal.invariant-loop-k
invariant-loop-k l = AreThose l.fn.places.items l.order.items × (length l.order.items ≡ length l.fn.places.items)
