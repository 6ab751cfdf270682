use Rattle.o2_store.specs.Shelf.{Shelf}
use Rattle.o2_store.proofs.Departing.{frees}
use Rattle.o2_store.proofs.Keeping.{IsShelf-gone, keeps_gone, clean_gone, gone_tables}
use Rattle.o2_store.proofs.store.Store.let_go.Goals as goal

pub invariant_of-self : goal.invariant_of-self
invariant_of-self c =
    let i = c.self.inside in
    let s : Shelf = record { memory = i.phys; places = i.places; turns = i.clock; swap = i.swap; entries = i.entries; made = i.made; keys = i.keys.items } in
    let h = c.self.invariant.0 in
    (IsShelf-gone s c.take.new.self c.leave.new.self c.args.key h (rw (← c.self.view_is) at c.requires.key) (rw (← c.self.view_is) at c.requires.unlocked) c.take.ensures.taken c.leave.ensures.marks, c.self.invariant.1, c.self.invariant.2)

pub returns-clause-keeps : goal.returns-clause-keeps
returns-clause-keeps c =
    let i = c.self.inside in
    let s : Shelf = record { memory = i.phys; places = i.places; turns = i.clock; swap = i.swap; entries = i.entries; made = i.made; keys = i.keys.items } in
    let h = c.self.invariant.0 in
    rw (← c.self.view_is) (λ told pic block saved. keeps_gone told pic s c.take.new.self c.leave.new.self c.args.key block h c.take.ensures.taken c.leave.ensures.marks (rw (← c.self.view_is) at c.requires.placed) saved)

pub returns-clause-clean : goal.returns-clause-clean
returns-clause-clean c =
    let i = c.self.inside in
    let s : Shelf = record { memory = i.phys; places = i.places; turns = i.clock; swap = i.swap; entries = i.entries; made = i.made; keys = i.keys.items } in
    let h = c.self.invariant.0 in
    rw (← c.self.view_is) (λ pic a. clean_gone pic s c.take.new.self c.leave.new.self c.args.key h c.take.ensures.taken c.leave.ensures.marks a)

pub returns-clause-tables : goal.returns-clause-tables
returns-clause-tables c =
    let i = c.self.inside in
    let s : Shelf = record { memory = i.phys; places = i.places; turns = i.clock; swap = i.swap; entries = i.entries; made = i.made; keys = i.keys.items } in
    let h = c.self.invariant.0 in
    rw (← c.self.view_is) (gone_tables s c.take.new.self c.leave.new.self c.args.key c.take.ensures.taken)

pub returns-clause-frees : goal.returns-clause-frees
returns-clause-frees c =
    let i = c.self.inside in
    let s : Shelf = record { memory = i.phys; places = i.places; turns = i.clock; swap = i.swap; entries = i.entries; made = i.made; keys = i.keys.items } in
    let h = c.self.invariant.0 in
    rw (← c.self.view_is) (frees s c.take.new.self c.args.key c.take.result h (rw (← c.self.view_is) at c.requires.placed) c.take.ensures.was c.take.ensures.used)

pub returns-clause-left : goal.returns-clause-left
returns-clause-left c = rw (← c.self.view_is) (record { marks = c.leave.ensures.marks; ahead = c.leave.ensures.ahead })
