use Rattle.std.proofs.Common.{◌≡◌, sym, ◌∙◌, Some}
use Rattle.std.proofs.lemmas.List.{length-set}
use Rattle.o2_entries.specs.Tables.{slot_at}
use Rattle.o2_store.specs.Shelf.{Shelf, IsDiscardable, discarded_entry}
use Rattle.o2_store.proofs.Tables.{aged_is, same_locked, IsShelf-discard, discards_is}
use Rattle.o2_store.proofs.Keeping.{clean_discarded}
use Rattle.o2_store.proofs.Idling.{none_given}
use Rattle.o2_store.proofs.store.Store.discard.Goals as goal

pub invariant_of-self : goal.invariant_of-self
invariant_of-self c =
    let i = c.self.inside in
    let s : Shelf = record { memory = i.phys; places = i.places; turns = i.clock; swap = i.swap; entries = i.entries; made = i.made; keys = i.keys.items } in
    let h = c.self.invariant.0 in
    let key = c.args.id.key in
    let was = sym (rw (← c.self.view_is) at c.in-Some.ensures) in
    let slot : slot_at i.entries key ≡ Some c.in-Some.old = aged_is c.args.id.age (slot_at i.entries key) c.in-Some.old was in
    let kind : IsDiscardable c.in-Some.old.attr = rw (← c.self.view_is, was) at c.requires in
    rw (c.set.ensures, c.discarded.ensures) (
      IsShelf-discard s c.take.new.self c.leave.new.self c.give.new.self key c.in-Some.old h slot kind c.take.ensures.taken c.leave.ensures.marks c.give.ensures.only c.give.ensures.kept,
      c.self.invariant.1 ∙ sym (same_locked i.entries key c.in-Some.old slot kind.unlocked),
      rw (length-set i.entries key (Some (discarded_entry c.in-Some.old))) c.self.invariant.2,
    )

pub returns-clause-discarded : goal.returns-clause-discarded
returns-clause-discarded c =
    let i = c.self.inside in
    let s : Shelf = record { memory = i.phys; places = i.places; turns = i.clock; swap = i.swap; entries = i.entries; made = i.made; keys = i.keys.items } in
    let h = c.self.invariant.0 in
    let key = c.args.id.key in
    let was = sym (rw (← c.self.view_is) at c.in-Some.ensures) in
    let slot : slot_at i.entries key ≡ Some c.in-Some.old = aged_is c.args.id.age (slot_at i.entries key) c.in-Some.old was in
    λ e. rw (← c.self.view_is, c.set.ensures, c.discarded.ensures) (discards_is s c.take.new.self c.leave.new.self c.give.new.self key c.in-Some.old h slot c.take.ensures.taken c.give.ensures.only c.give.ensures.kept)

pub returns-clause-clean : goal.returns-clause-clean
returns-clause-clean c =
    let i = c.self.inside in
    let s : Shelf = record { memory = i.phys; places = i.places; turns = i.clock; swap = i.swap; entries = i.entries; made = i.made; keys = i.keys.items } in
    let h = c.self.invariant.0 in
    let key = c.args.id.key in
    let was = sym (rw (← c.self.view_is) at c.in-Some.ensures) in
    let slot : slot_at i.entries key ≡ Some c.in-Some.old = aged_is c.args.id.age (slot_at i.entries key) c.in-Some.old was in
    let kind : IsDiscardable c.in-Some.old.attr = rw (← c.self.view_is, was) at c.requires in
    rw (← c.self.view_is, c.set.ensures, c.discarded.ensures)
    (λ pic a. clean_discarded pic s c.take.new.self c.leave.new.self c.give.new.self key c.in-Some.old h slot kind c.take.ensures.taken c.leave.ensures.marks c.give.ensures.only a)

pub returns-clause-unused : goal.returns-clause-unused
returns-clause-unused c =
    let i = c.self.inside in
    rw (← c.self.view_is) (none_given i.swap c.give.new.self c.args.id.key 0 c.give.ensures.only c.give.ensures.kept)
