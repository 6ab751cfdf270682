use Rattle.std.proofs.Common.{rules, sym, ◌∙◌, ap}
use Rattle.std.proofs.lemmas.List.{get_or_read}
use Rattle.o2_swapmap.specs.declared.piles.Pile.{Pile}
use Rattle.o2_swapmap.specs.Piles.{no_pile}
use Rattle.o2_swapmap.proofs.Moves.{length-list}
use Rattle.o2_swapmap.proofs.swap_map.SwapMap.count.Goals as goal

pub returns : goal.returns
returns c =
    let read = get_or_read c.self.inside.piles.items c.args.id c.index.result.now (search rules) c.index.ensures no_pile in
    rw (← c.self.view_is) (ap (λ (p : Pile). p.count) read ∙ sym (length-list c.self.inside.blocks.items c.self.inside.piles.items c.args.id))
