use Rattle.std.proofs.Common.{arith}
use Rattle.std.proofs.lemmas.List.{length-map}
use Rattle.o2_swapmap.specs.Piles.{list_of}
use Rattle.o2_swapmap.proofs.Moves.{none_twice, names_below}
use Rattle.o2_swapmap.proofs.swap_map.SwapMap.none_twice.Goals as goal

pub returns : goal.returns
returns c =
    let i = c.self.inside in
    let e = length-map i.piles.items (list_of i.blocks.items) in
    rw (← c.self.view_is) (record {
      twice = none_twice i.blocks.items i.piles.items c.self.invariant.piles;
      below = names_below i.blocks.items i.piles.items c.self.invariant.piles;
      long = omega (arith, e, c.self.invariant.some);
    })
