use Rattle.o2_store.specs.Shelf.{Shelf}
use Rattle.o2_store.proofs.Unmade.{IsShelf-unmade}
use Rattle.o2_store.proofs.store.Store.unmake.Goals as goal

pub invariant_of-self : goal.invariant_of-self
invariant_of-self c =
    let i = c.self.inside in
    let s : Shelf = record { memory = i.phys; places = i.places; turns = i.clock; swap = i.swap; entries = i.entries; made = i.made; keys = i.keys.items } in
    (IsShelf-unmade s c.self.invariant.0 (rw (← c.self.view_is) at c.requires.gone), c.self.invariant.1, c.self.invariant.2)
