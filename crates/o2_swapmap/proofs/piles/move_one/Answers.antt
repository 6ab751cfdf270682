use Rattle.std.proofs.Common.{arith}
use Rattle.std.proofs.lemmas.List.Sums.{get_or-le-sum_by}
use Rattle.o2_swapmap.specs.declared.piles.Pile.{Pile}
use Rattle.o2_swapmap.specs.Piles.{no_pile}
use Rattle.o2_swapmap.proofs.Moves.{moved, top_in}
use Rattle.o2_swapmap.proofs.piles.move_one.Goals as goal

pub overflow_cast-below : goal.overflow_cast-below
overflow_cast-below c = omega (arith, top_in c.args.blocks.now c.args.piles.now c.args.from c.requires.piles c.requires.from_in c.requires.some)

pub offset_bounds-blocks-moved : goal.offset_bounds-blocks-moved
offset_bounds-blocks-moved c = omega (arith, top_in c.args.blocks.now c.args.piles.now c.args.from c.requires.piles c.requires.from_in c.requires.some)

pub bounds-blocks-moved : goal.bounds-blocks-moved
bounds-blocks-moved c = omega (arith, top_in c.args.blocks.now c.args.piles.now c.args.from c.requires.piles c.requires.from_in c.requires.some)

pub overflow_cast-moved : goal.overflow_cast-moved
overflow_cast-moved c = omega (arith, top_in c.args.blocks.now c.args.piles.now c.args.from c.requires.piles c.requires.from_in c.requires.some)

pub offset_bounds-blocks-moved-2 : goal.offset_bounds-blocks-moved-2
offset_bounds-blocks-moved-2 c = omega (arith, top_in c.args.blocks.now c.args.piles.now c.args.from c.requires.piles c.requires.from_in c.requires.some)

pub bounds-blocks-moved-2 : goal.bounds-blocks-moved-2
bounds-blocks-moved-2 c = omega (arith, top_in c.args.blocks.now c.args.piles.now c.args.from c.requires.piles c.requires.from_in c.requires.some)

pub overflow_cast-blocks : goal.overflow_cast-blocks
overflow_cast-blocks c = omega arith

pub overflow_add-piles : goal.overflow_add-piles
overflow_add-piles c = omega (arith, get_or-le-sum_by (λ (p : Pile). p.count) c.args.piles.now c.args.to no_pile c.requires.to_in, c.requires.piles.total)

pub returns : goal.returns
returns c =
    let m = moved c.args.blocks.now c.args.piles.now c.args.from c.args.to c.requires.piles c.requires.from_in c.requires.to_in c.requires.apart c.requires.some in
    record { sound = m.sound; from = m.source; to = m.target; others = m.others }
