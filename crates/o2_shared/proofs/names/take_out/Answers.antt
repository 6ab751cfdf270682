use Rattle.std.proofs.Common.{◌≡◌, ◌∙◌, List, ℕ, None, arith, set, subst, sym}
use Rattle.std.proofs.lemmas.List.{get_or_default}
use Rattle.o2_shared.specs.NameOrder.{IsOrdered, place_at}
use Rattle.o2_shared.proofs.Ordered.{taken_out, within_place}
use Rattle.o2_shared.proofs.names.take_out.Goals as goal

pub index_mut-requires : goal.index_mut-requires
index_mut-requires c =
    (let order = c.args.order.now.items in
    let e : c.remove-place.result ≡ place_at order c.args.at = c.remove-place.ensures.value ∙ get_or_default order c.args.at c.remove-place.result 0 c.requires.within in
    let l = within_place c.args.names.now.items order c.requires.ordered c.args.at c.requires.within in
    omega (arith, e, l))

pub returns-clause-ordered : goal.returns-clause-ordered
returns-clause-ordered c =
    (let names = c.args.names.now.items in
    let order = c.args.order.now.items in
    let e : c.remove-place.result ≡ place_at order c.args.at = c.remove-place.ensures.value ∙ get_or_default order c.args.at c.remove-place.result 0 c.requires.within in
    subst (λ (p : ℕ). IsOrdered (set names p None) c.remove-place.new.self.items) (sym e)
    (subst (λ (os : List ℕ). IsOrdered (set names (place_at order c.args.at) None) os) (sym c.remove-place.ensures.items) (taken_out names order c.requires.ordered c.args.at c.requires.within)))
