use Rattle.o2_store.specs.Shelf.{Shelf}
use Rattle.o2_store.proofs.Ranked.{ranked_live, ranked_once, ranked_place}
use Rattle.o2_store.proofs.store.Store.present_at.Goals as goal

pub returns-clause-live : goal.returns-clause-live
returns-clause-live c =
    let i = c.self.inside in
    let s : Shelf = record { memory = i.phys; places = i.places; turns = i.clock; swap = i.swap; entries = i.entries; made = i.made; keys = i.keys.items } in
    rw (← c.self.view_is) (ranked_live s c.args.k c.age_of.result c.range_at-key.result c.self.invariant.0 c.law-2.ensures.layout.apart (rw (← c.self.view_is) at c.requires) c.range_at-key.ensures (rw (← c.self.view_is) at c.age_of.ensures))

pub returns-clause-place : goal.returns-clause-place
returns-clause-place c =
    let i = c.self.inside in
    let s : Shelf = record { memory = i.phys; places = i.places; turns = i.clock; swap = i.swap; entries = i.entries; made = i.made; keys = i.keys.items } in
    rw (← c.self.view_is) (ranked_place s c.args.k c.range_at-key.result c.law-2.ensures.layout.apart (rw (← c.self.view_is) at c.requires) c.range_at-key.ensures)

pub returns-clause-once : goal.returns-clause-once
returns-clause-once c =
    let i = c.self.inside in
    let s : Shelf = record { memory = i.phys; places = i.places; turns = i.clock; swap = i.swap; entries = i.entries; made = i.made; keys = i.keys.items } in
    rw (← c.self.view_is) (ranked_once s c.args.k c.range_at-key.result c.law-2.ensures.layout.apart (rw (← c.self.view_is) at c.requires) c.range_at-key.ensures)
