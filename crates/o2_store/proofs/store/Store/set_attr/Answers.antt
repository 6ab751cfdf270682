use Rattle.std.proofs.Common.{◌≡◌, arith, ap, sym, Some, set, is_some}
use Rattle.std.proofs.lemmas.List.{length-set}
use Rattle.o2_entries.specs.declared.Entry.{Entry}
use Rattle.o2_entries.specs.Tables.{slot_at}
use Rattle.o2_store.specs.Shelf.{Shelf, locked_need}
use Rattle.o2_store.proofs.Tables.{aged_is, within_at, need_is, relocked, IsShelf-attr, attr_byte, slot-set_same, all_small}
use Rattle.o2_store.proofs.store.Store.set_attr.Goals as goal

pub overflow_sub-self : goal.overflow_sub-self
overflow_sub-self c =
    let i = c.self.inside in
    let s : Shelf = record { memory = i.phys; places = i.places; turns = i.clock; swap = i.swap; entries = i.entries; made = i.made; keys = i.keys.items } in
    let h = c.self.invariant.0 in
    let key = c.args.id.key in
    let e = c.in-Some.old in
    let f : Entry = record e { attr = c.args.attr } in
    let was = sym (rw (← c.self.view_is) at c.in-Some.ensures) in
    let slot : slot_at i.entries key ≡ Some e = aged_is c.args.id.age (slot_at i.entries key) e was in
    let l = within_at i.entries key (ap is_some slot) in
    let p = need_is i.entries key e c.locked_part.result slot c.locked_part.ensures.value in
    (relocked i.entries key (Some f) i.locked c.locked_part.result (locked_need (set i.entries key (Some f)) key) l c.self.invariant.1 p (let q : locked_need (set i.entries key (Some f)) key ≡ locked_need (set i.entries key (Some f)) key = omega arith in q)).0

pub overflow_add-self : goal.overflow_add-self
overflow_add-self c =
    let i = c.self.inside in
    let s : Shelf = record { memory = i.phys; places = i.places; turns = i.clock; swap = i.swap; entries = i.entries; made = i.made; keys = i.keys.items } in
    let h = c.self.invariant.0 in
    let b = all_small s h in
    omega (arith, b, h.few, c.self.invariant.1, c.locked_part-2.ensures.small)

pub invariant_of-self : goal.invariant_of-self
invariant_of-self c =
    let i = c.self.inside in
    let s : Shelf = record { memory = i.phys; places = i.places; turns = i.clock; swap = i.swap; entries = i.entries; made = i.made; keys = i.keys.items } in
    let h = c.self.invariant.0 in
    let key = c.args.id.key in
    let e = c.in-Some.old in
    let f : Entry = record e { attr = c.args.attr } in
    let was = sym (rw (← c.self.view_is) at c.in-Some.ensures) in
    let slot : slot_at i.entries key ≡ Some e = aged_is c.args.id.age (slot_at i.entries key) e was in
    let l = within_at i.entries key (ap is_some slot) in
    let r = relocked i.entries key (Some f) i.locked c.locked_part.result c.locked_part-2.result l c.self.invariant.1 (need_is i.entries key e c.locked_part.result slot c.locked_part.ensures.value)
    (need_is (set i.entries key (Some f)) key f c.locked_part-2.result (slot-set_same i.entries key (Some f) l) c.locked_part-2.ensures.value) in
    let lock = rw (← c.self.view_is) at c.requires.lock in
    let clean = rw (← c.self.view_is, was) at c.requires.clean in
    rw c.set.ensures (IsShelf-attr s c.tell.new.clock key e c.args.attr h l slot c.tell.ensures.long c.tell.ensures.others c.tell.ensures.follows (λ w. lock w (ap is_some was)) clean c.requires.whole, r.1, rw (length-set i.entries key (Some f)) c.self.invariant.2)

pub returns-clause-bytes : goal.returns-clause-bytes
returns-clause-bytes c =
    let i = c.self.inside in
    let s : Shelf = record { memory = i.phys; places = i.places; turns = i.clock; swap = i.swap; entries = i.entries; made = i.made; keys = i.keys.items } in
    let h = c.self.invariant.0 in
    let key = c.args.id.key in
    let e = c.in-Some.old in
    let f : Entry = record e { attr = c.args.attr } in
    let was = sym (rw (← c.self.view_is) at c.in-Some.ensures) in
    let slot : slot_at i.entries key ≡ Some e = aged_is c.args.id.age (slot_at i.entries key) e was in
    let l = within_at i.entries key (ap is_some slot) in
    rw (← c.self.view_is, c.set.ensures) (attr_byte s c.tell.new.clock key e c.args.attr l slot)
