use Rattle.std.proofs.Common.{◌∙◌}
use Rattle.o2_swapmap.proofs.Moves.{fresh_map, fresh_empty, fresh_free, all_is}
use Rattle.o2_swapmap.proofs.swap_map.SwapMap.new.Goals as goal

pub invariant_of-result : goal.invariant_of-result
invariant_of-result c = fresh_map c.in_ok-all.all.items c.in_ok-piles.piles.items c.args.most c.args.blocks c.in_ok-all.ensures.0 c.in_ok-all.ensures.1 c.in_ok-piles.ensures c.requires.small c.requires.few

pub returns-clause-empty : goal.returns-clause-empty
returns-clause-empty c = λ k l. fresh_empty c.in_ok-all.all.items c.in_ok-piles.piles.items c.args.most c.args.blocks k c.in_ok-piles.ensures l

pub returns-clause-free : goal.returns-clause-free
returns-clause-free c = fresh_free c.in_ok-all.all.items c.in_ok-piles.piles.items c.args.most c.args.blocks c.in_ok-piles.ensures

pub returns-clause-all : goal.returns-clause-all
returns-clause-all c = all_is c.in_ok-all.all.items c.in_ok-piles.piles.items
    (fresh_map c.in_ok-all.all.items c.in_ok-piles.piles.items c.args.most c.args.blocks c.in_ok-all.ensures.0 c.in_ok-all.ensures.1
    c.in_ok-piles.ensures c.requires.small c.requires.few).piles ∙ c.in_ok-all.ensures.0
