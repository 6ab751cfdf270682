use Rattle.std.proofs.Common.{◌≡◌, ◌≤◌, ◌-◌, ◌∙◌, ap, arith, ℕ, length}
use Rattle.o2_swapmap.specs.Piles.{all_of, free, blocks_of}
use Rattle.o2_swapmap.proofs.Moves.{all_is, free_le}
use Rattle.o2_swapmap.proofs.swap_map.SwapMap.taken.Goals as goal

pub overflow_sub-result : goal.overflow_sub-result
overflow_sub-result c =
    let i = c.self.inside in
    let b = free_le i.blocks.items i.piles.items (length i.piles.items - 1) c.self.invariant.piles (omega (arith, c.self.invariant.some)) in
    let f : length (free c.args.self.now) ≤ length i.blocks.items = rw (← c.self.view_is) b in
    let e : c.count.result ≡ length (free c.args.self.now) = c.count.ensures ∙ ap (λ (k : ℕ). length (blocks_of c.args.self.now k)) c.most-spare.ensures in
    omega (arith, f, e, c.len.ensures)

pub returns : goal.returns
returns c =
    let i = c.self.inside in
    let b = free_le i.blocks.items i.piles.items (length i.piles.items - 1) c.self.invariant.piles (omega (arith, c.self.invariant.some)) in
    let f : length (free c.args.self.now) ≤ length i.blocks.items = rw (← c.self.view_is) b in
    let e : c.count.result ≡ length (free c.args.self.now) = c.count.ensures ∙ ap (λ (k : ℕ). length (blocks_of c.args.self.now k)) c.most-spare.ensures in
    let a : all_of c.args.self.now ≡ length i.blocks.items = rw (← c.self.view_is) (all_is i.blocks.items i.piles.items c.self.invariant.piles) in
    omega (arith, f, e, a, c.len.ensures)
