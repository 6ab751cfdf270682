use Rattle.o2_place.proofs.MarkLemmas.{some_weaker, none_weaker}
use Rattle.o2_store.specs.Shelf.{Shelf}
use Rattle.o2_store.proofs.Keeping.{present_yes, present_is, placed_below}
use Rattle.o2_store.proofs.store.Store.next_victim.Goals as goal

pub returns-clause-some : goal.returns-clause-some
returns-clause-some c =
    let i = c.self.inside in
    let s : Shelf = record { memory = i.phys; places = i.places; turns = i.clock; swap = i.swap; entries = i.entries; made = i.made; keys = i.keys.items } in
    let h = c.self.invariant.0 in
    rw (← c.self.view_is) (some_weaker c.victim.result (λ v w. (let p = present_yes s v h w.present in (p.0, p.1, p.2, w.outside))) (rw c.deref.ensures.value at c.victim.ensures.some))

pub returns-clause-none : goal.returns-clause-none
returns-clause-none c =
    let i = c.self.inside in
    let s : Shelf = record { memory = i.phys; places = i.places; turns = i.clock; swap = i.swap; entries = i.entries; made = i.made; keys = i.keys.items } in
    let h = c.self.invariant.0 in
    rw (← c.self.view_is) (none_weaker c.victim.result (λ f k i z. f k (present_is s k h i z (placed_below s k h i))) (rw c.deref.ensures.value at c.victim.ensures.none))
