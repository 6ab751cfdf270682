use Rattle.std.proofs.Common.{◌≡◌, ◌∙◌, length, ap}
use Rattle.std.proofs.lemmas.List.{with_items_is}
use Rattle.o2_swapmap.proofs.Moves.{step_is}
use Rattle.o2_swapmap.proofs.swap_map.SwapMap.step.Goals as goal

pub returns : goal.returns
returns c =
    let v = c.deref_mut.ensures.value in
    let w = c.deref_mut-2.ensures.value in
    let m = c.move_one in
    let lb : length m.new.blocks ≡ length c.self.inside.blocks.items = m.auto.blocks ∙ ap length v in
    let lp : length m.new.piles ≡ length c.self.inside.piles.items = m.auto.piles ∙ ap length w in
    let eb = with_items_is c.self.inside.blocks m.new.blocks (m.auto.blocks ∙ c.deref_mut.ensures.len) in
    let ep = with_items_is c.self.inside.piles m.new.piles (m.auto.piles ∙ c.deref_mut-2.ensures.len) in
    record {
      moved = rw (← c.self.view_is, eb, ep) (step_is c.self.inside.blocks.items m.new.blocks c.self.inside.piles.items m.new.piles
          c.args.from c.args.to m.result lb lp c.self.invariant.piles m.ensures.sound (rw (v, w) at m.ensures.from)
          (rw (v, w) at m.ensures.to) (rw (v, w) at m.ensures.others));
    }
