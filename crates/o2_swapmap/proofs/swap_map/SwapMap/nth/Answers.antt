use Rattle.std.proofs.Common.{sym, rules}
use Rattle.std.proofs.lemmas.List.{get_or_read}
use Rattle.o2_swapmap.specs.Piles.{no_pile}
use Rattle.o2_swapmap.proofs.Moves.{nth_past, nth_at}
use Rattle.o2_swapmap.proofs.swap_map.SwapMap.nth.Goals as goal

pub returns-then-k-pile : goal.returns-then-k-pile
returns-then-k-pile c =
    let read = get_or_read c.self.inside.piles.items c.args.id c.index-pile.result.now (search rules) c.index-pile.ensures no_pile in
    rw (← c.self.view_is) (sym (nth_past c.self.inside.blocks.items c.self.inside.piles.items c.args.id c.args.k c.index-pile.result.now read c.if-k-pile.true))

pub returns : goal.returns
returns c =
    let read = get_or_read c.self.inside.piles.items c.args.id c.index-pile.result.now (search rules) c.index-pile.ensures no_pile in
    rw (← c.self.view_is) (sym (nth_at c.self.inside.blocks.items c.self.inside.piles.items c.args.id c.args.k c.walk.result c.index-pile.result.now read c.if-k-pile.false (rw c.deref.ensures.value at c.walk.ensures)))
