use Rattle.std.proofs.Common.{◌≡◌, length}
use Rattle.o2_dynlink.specs.Memo.{AreAt}
use Rattle.o2_dynlink.proofs.order.places_of.Given as goal

abbrev pub invariant-loop-k : goal.invariant-loop-k
invariant-loop-k l = record {
  count : length l.found.items ≡ l.k;
  at : AreAt l.order l.found.items;
}
