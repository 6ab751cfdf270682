use Rattle.std.proofs.Common.{◌≡◌, arith, ap, sym, Option, Some, None, ltb, if◌then◌else◌, is_some}
use Rattle.std.proofs.lemmas.List.{length-set}
use Rattle.o2_entries.specs.declared.Entry.{Entry}
use Rattle.o2_entries.specs.Tables.{slot_at}
use Rattle.o2_store.specs.Shelf.{Shelf, entry_or, rounded}
use Rattle.o2_store.proofs.Tables.{aged_is, within_at, need_is, relocked, IsShelf-remove, removes_is, slot-set_same}
use Rattle.o2_store.proofs.Idling.{none_given}
use Rattle.o2_store.proofs.store.Store.remove.Goals as goal

pub overflow_sub-self : goal.overflow_sub-self
overflow_sub-self c =
    let i = c.self.inside in
    let s : Shelf = record { memory = i.phys; places = i.places; turns = i.clock; swap = i.swap; entries = i.entries; made = i.made; keys = i.keys.items } in
    let h = c.self.invariant.0 in
    let key = c.args.id.key in
    let slot : slot_at i.entries key ≡ Some c.in-Some.entry = aged_is c.args.id.age (slot_at i.entries key) c.in-Some.entry (sym (rw (← c.self.view_is) at c.in-Some.ensures)) in
    let l = within_at i.entries key (ap is_some slot) in
    (relocked i.entries key None i.locked c.locked_part.result 0 l c.self.invariant.1 (need_is i.entries key c.in-Some.entry c.locked_part.result slot c.locked_part.ensures.value)
    (sym (ap (λ (o : Option Entry). if ltb 0 (entry_or o).attr.lock then rounded (entry_or o).size else 0) (slot-set_same i.entries key None l)))).0

pub invariant_of-self : goal.invariant_of-self
invariant_of-self c =
    let i = c.self.inside in
    let s : Shelf = record { memory = i.phys; places = i.places; turns = i.clock; swap = i.swap; entries = i.entries; made = i.made; keys = i.keys.items } in
    let h = c.self.invariant.0 in
    let key = c.args.id.key in
    let slot : slot_at i.entries key ≡ Some c.in-Some.entry = aged_is c.args.id.age (slot_at i.entries key) c.in-Some.entry (sym (rw (← c.self.view_is) at c.in-Some.ensures)) in
    let l = within_at i.entries key (ap is_some slot) in
    let r = relocked i.entries key None i.locked c.locked_part.result 0 l c.self.invariant.1 (need_is i.entries key c.in-Some.entry c.locked_part.result slot c.locked_part.ensures.value)
    (sym (ap (λ (o : Option Entry). if ltb 0 (entry_or o).attr.lock then rounded (entry_or o).size else 0) (slot-set_same i.entries key None l))) in
    rw c.remove.ensures (IsShelf-remove s c.take.new.self c.leave.new.self c.give.new.self key h l c.take.ensures.taken c.leave.ensures.marks c.give.ensures.only c.give.ensures.kept, omega (arith, r.1), rw (length-set i.entries key None) c.self.invariant.2)

pub returns-clause-removed : goal.returns-clause-removed
returns-clause-removed c =
    let i = c.self.inside in
    let s : Shelf = record { memory = i.phys; places = i.places; turns = i.clock; swap = i.swap; entries = i.entries; made = i.made; keys = i.keys.items } in
    let h = c.self.invariant.0 in
    λ e. rw (← c.self.view_is, c.remove.ensures) (removes_is s c.take.new.self c.leave.new.self c.give.new.self c.args.id.key h c.take.ensures.taken c.give.ensures.only c.give.ensures.kept)

pub returns-clause-unused : goal.returns-clause-unused
returns-clause-unused c =
    let i = c.self.inside in
    rw (← c.self.view_is) (none_given i.swap c.give.new.self c.args.id.key 0 c.give.ensures.only c.give.ensures.kept)
