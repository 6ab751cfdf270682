use Rattle.o2_entries.specs.Tables.{slot_at}
use Rattle.o2_store.specs.Shelf.{Shelf}
use Rattle.o2_store.proofs.Choosing.{live_slot}
use Rattle.o2_store.proofs.Departing.{no_gap}
use Rattle.o2_store.proofs.store.Store.gap_for.Goals as goal

pub rounded_size-requires : goal.rounded_size-requires
rounded_size-requires c = record { live = live_slot c.args.id.age (slot_at c.args.self.now.entries c.args.id.key) c.requires }

pub returns-clause-none : goal.returns-clause-none
returns-clause-none c =
    let i = c.self.inside in
    let s : Shelf = record { memory = i.phys; places = i.places; turns = i.clock; swap = i.swap; entries = i.entries; made = i.made; keys = i.keys.items } in
    rw (← c.rounded_size.ensures.value, ← c.self.view_is) (no_gap s c.rounded_size.result c.fit.result c.law.ensures.layout.apart c.fit.ensures.lowest)
