use Rattle.std.proofs.Common.{◌≡◌, ◌<◌, ◌∙◌, ℕ, length, sym, ap, rules, subst, arith, get_or}
use Rattle.std.proofs.lemmas.List.{get_or_read}
use Rattle.o2_swapmap.specs.declared.piles.Pile.{Pile}
use Rattle.o2_swapmap.specs.Piles.{blocks_of, no_pile, list_of, all_of}
use Rattle.o2_swapmap.proofs.Moves.{length-list, list_at, pile_at}
use Rattle.o2_swapmap.proofs.swap_map.SwapMap.list.Goals as goal

pub list_out-requires-clause-pile : goal.list_out-requires-clause-pile
list_out-requires-clause-pile c =
    let i = c.self.inside in
    let read = get_or_read i.piles.items c.args.id c.index-pile.result.now (search rules) c.index-pile.ensures no_pile in
    rw c.deref.ensures.value (pile_at i.blocks.items i.piles.items c.args.id c.index-pile.result.now read (search rules) c.self.invariant.piles)

pub list_out-requires-clause-room : goal.list_out-requires-clause-room
list_out-requires-clause-room c =
    let i = c.self.inside in
    let read = get_or_read i.piles.items c.args.id c.index-pile.result.now (search rules) c.index-pile.ensures no_pile in
    let e : c.index-pile.result.now.count ≡ length (blocks_of c.args.self.now c.args.id) = rw (← c.self.view_is) (ap (λ (p : Pile). p.count) read ∙ sym (length-list i.blocks.items i.piles.items c.args.id)) in
    omega (arith, e, c.requires.room)

pub returns-clause-count : goal.returns-clause-count
returns-clause-count c =
    let i = c.self.inside in
    let read = get_or_read i.piles.items c.args.id c.index-pile.result.now (search rules) c.index-pile.ensures no_pile in
    rw (← c.self.view_is) (ap (λ (p : Pile). p.count) read ∙ sym (length-list i.blocks.items i.piles.items c.args.id))

pub returns-clause-blocks : goal.returns-clause-blocks
returns-clause-blocks c =
    let i = c.self.inside in
    let read = get_or_read i.piles.items c.args.id c.index-pile.result.now (search rules) c.index-pile.ensures no_pile in
    let e : c.index-pile.result.now.count ≡ length (blocks_of c.args.self.now c.args.id) = rw (← c.self.view_is) (ap (λ (p : Pile). p.count) read ∙ sym (length-list i.blocks.items i.piles.items c.args.id)) in
    let s : blocks_of c.args.self.now c.args.id ≡ list_of i.blocks.items c.index-pile.result.now = rw (← c.self.view_is) (list_at i.blocks.items i.piles.items c.args.id ∙ sym (ap (list_of i.blocks.items) read)) in
    λ k l. (rw c.deref.ensures.value at c.list_out.ensures) k (omega (arith, e, l)) ∙ ap (λ (xs : _). get_or xs k 0) (sym s)

pub returns-clause-below : goal.returns-clause-below
returns-clause-below c =
    let i = c.self.inside in
    let read = get_or_read i.piles.items c.args.id c.index-pile.result.now (search rules) c.index-pile.ensures no_pile in
    let e : c.index-pile.result.now.count ≡ length (blocks_of c.args.self.now c.args.id) = rw (← c.self.view_is) (ap (λ (p : Pile). p.count) read ∙ sym (length-list i.blocks.items i.piles.items c.args.id)) in
    let s : blocks_of c.args.self.now c.args.id ≡ list_of i.blocks.items c.index-pile.result.now = rw (← c.self.view_is) (list_at i.blocks.items i.piles.items c.args.id ∙ sym (ap (list_of i.blocks.items) read)) in
    λ k l. subst (λ (x : ℕ). x < all_of c.args.self.now) (sym ((rw c.deref.ensures.value at c.list_out.ensures) k (omega (arith, e, l)) ∙ ap (λ (xs : _). get_or xs k 0) (sym s))) (c.none_twice.ensures.below c.args.id k l)
