use Rattle.std.proofs.Common.{ℕ, rules}
use Rattle.std.proofs.lemmas.Fn.{always_returns_same}
use Rattle.o2_shared.specs.NameOrder.{against, name_at}
use Rattle.o2_shared.proofs.Ordered.{found_at}
use Rattle.o2_shared.proofs.names.look_up.Goals as goal

pub returns : goal.returns
returns c =
    found_at c.args.names.now c.args.order.now c.requires c.args.text.now c.binary_search_by.result c.binary_search_by.ensures.bound
    (c.binary_search_by.ensures.position (λ (y : ℕ). against (name_at c.args.names.now y) c.args.text.now) (always_returns_same _ _ _ (λ a r f k. search rules)))
