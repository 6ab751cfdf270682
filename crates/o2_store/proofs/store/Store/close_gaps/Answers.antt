use Rattle.o2_store.specs.Shelf.{Shelf, IsMoved}
use Rattle.o2_store.proofs.Shifts.{moved_is, IsShelf-moved, keeps_moved, clean_moved}
use Rattle.o2_store.proofs.store.Store.close_gaps.Goals as goal

pub invariant_of-self : goal.invariant_of-self
invariant_of-self c =
    let i = c.self.inside in
    let s : Shelf = record { memory = i.phys; places = i.places; turns = i.clock; swap = i.swap; entries = i.entries; made = i.made; keys = i.keys.items } in
    let w = rw (← c.self.view_is) at c.law.ensures.within in
    let q = moved_is s c.close_up-front.new.phys c.close_up-front.new.places c.self.invariant.0 c.close_up-front.ensures.kept w c.law-2.ensures.within in
    (IsShelf-moved s c.close_up-front.new.phys c.close_up-front.new.places c.self.invariant.0 q c.close_up-front.ensures.kept.whole c.close_up-front.ensures.kept.most, c.self.invariant.1, c.self.invariant.2)

pub returns-clause-moved : goal.returns-clause-moved
returns-clause-moved c =
    let i = c.self.inside in
    let s : Shelf = record { memory = i.phys; places = i.places; turns = i.clock; swap = i.swap; entries = i.entries; made = i.made; keys = i.keys.items } in
    let w = rw (← c.self.view_is) at c.law.ensures.within in
    rw (← c.self.view_is) (moved_is s c.close_up-front.new.phys c.close_up-front.new.places c.self.invariant.0 c.close_up-front.ensures.kept w c.law-2.ensures.within)

pub returns-clause-keeps : goal.returns-clause-keeps
returns-clause-keeps c =
    let i = c.self.inside in
    let s : Shelf = record { memory = i.phys; places = i.places; turns = i.clock; swap = i.swap; entries = i.entries; made = i.made; keys = i.keys.items } in
    let w = rw (← c.self.view_is) at c.law.ensures.within in
    let q : IsMoved s (record s { memory = c.close_up-front.new.phys; places = c.close_up-front.new.places }) = moved_is s c.close_up-front.new.phys c.close_up-front.new.places c.self.invariant.0 c.close_up-front.ensures.kept w c.law-2.ensures.within in
    rw (← c.self.view_is) (λ told pic block. keeps_moved told pic s (record s { memory = c.close_up-front.new.phys; places = c.close_up-front.new.places }) block c.self.invariant.0 q)

pub returns-clause-clean : goal.returns-clause-clean
returns-clause-clean c =
    let i = c.self.inside in
    let s : Shelf = record { memory = i.phys; places = i.places; turns = i.clock; swap = i.swap; entries = i.entries; made = i.made; keys = i.keys.items } in
    let w = rw (← c.self.view_is) at c.law.ensures.within in
    let q : IsMoved s (record s { memory = c.close_up-front.new.phys; places = c.close_up-front.new.places }) = moved_is s c.close_up-front.new.phys c.close_up-front.new.places c.self.invariant.0 c.close_up-front.ensures.kept w c.law-2.ensures.within in
    rw (← c.self.view_is) (λ pic a. clean_moved pic s (record s { memory = c.close_up-front.new.phys; places = c.close_up-front.new.places }) c.self.invariant.0 q a)
