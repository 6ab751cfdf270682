use Rattle.std.proofs.Common.{rules, ◌≡◌}
use Rattle.std.specs.Ordering.{is_lt}
use Rattle.std.proofs.lemmas.Fn.{always_returns_same}
use Rattle.o2_ne.specs.NameOrder.{by_name}
use Rattle.o2_ne.proofs.NameIndex.{those_sorted, by_name_ranks}
use Rattle.o2_ne.proofs.order.index_of.Goals as goal

pub returns-clause-index : goal.returns-clause-index
returns-clause-index c = record {
  each = those_sorted _ _ _ c.sort_unstable_by.ensures.permutation c.in_ok-order.ensures.those;
  sorted = c.sort_unstable_by.ensures.sorted (λ a b. is_lt (by_name c.args.file.now a b)) (by_name_ranks c.args.file.now)
      (always_returns_same _ (λ a r. is_lt r ≡ is_lt (by_name c.args.file.now a.0.now a.1.0.now)) _ (λ a r f' k. search rules));
}
