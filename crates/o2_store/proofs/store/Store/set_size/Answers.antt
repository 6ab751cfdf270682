use Rattle.std.proofs.Common.{◌≡◌, arith, ap, sym, ◌∙◌, Some, set, is_some, take}
use Rattle.std.proofs.lemmas.List.{length-set}
use Rattle.o2_entries.specs.declared.Entry.{Entry}
use Rattle.o2_entries.specs.Tables.{slot_at}
use Rattle.o2_swapmap.specs.Piles.{blocks_of}
use Rattle.o2_store.specs.Shelf.{Shelf, locked_need, blocks_for}
use Rattle.o2_store.proofs.Tables.{within_at, need_is, relocked, slot-set_same, all_small}
use Rattle.o2_store.proofs.Grown.{at_size, kept_less, Grows, IsShelf-grown, resizes_is, clean_grown, fit_presence}
use Rattle.o2_store.proofs.Idling.{none_given}
use Rattle.o2_store.proofs.store.Store.set_size.Goals as goal

pub overflow_sub-self : goal.overflow_sub-self
overflow_sub-self c =
    let i = c.self.inside in
    let s : Shelf = record { memory = i.phys; places = i.places; turns = i.clock; swap = i.swap; entries = i.entries; made = i.made; keys = i.keys.items } in
    let key = c.args.key in
    let e = c.in-Some.old in
    let slot : slot_at i.entries key ≡ Some e = sym c.in-Some.ensures in
    let l = within_at i.entries key (ap is_some slot) in
    let part = need_is i.entries key e c.locked_part.result slot c.locked_part.ensures.value in
    (relocked i.entries key (Some e) i.locked c.locked_part.result (locked_need (set i.entries key (Some e)) key) l c.self.invariant.1 part (let q : locked_need (set i.entries key (Some e)) key ≡ locked_need (set i.entries key (Some e)) key = omega arith in q)).0

pub overflow_add-self : goal.overflow_add-self
overflow_add-self c =
    let i = c.self.inside in
    let s : Shelf = record { memory = i.phys; places = i.places; turns = i.clock; swap = i.swap; entries = i.entries; made = i.made; keys = i.keys.items } in
    let h = c.self.invariant.0 in
    let b = all_small s h in
    omega (arith, b, h.few, c.self.invariant.1, c.locked_part-2.ensures.small)

pub invariant_of-self : goal.invariant_of-self
invariant_of-self c =
    let i = c.self.inside in
    let s : Shelf = record { memory = i.phys; places = i.places; turns = i.clock; swap = i.swap; entries = i.entries; made = i.made; keys = i.keys.items } in
    let key = c.args.key in
    let e = c.in-Some.old in
    let slot : slot_at i.entries key ≡ Some e = sym c.in-Some.ensures in
    let l = within_at i.entries key (ap is_some slot) in
    let part = need_is i.entries key e c.locked_part.result slot c.locked_part.ensures.value in
    let q : c.sized-entry.result ≡ at_size e c.args.size = c.sized-entry.ensures in
    let g : Grows s c.refit.new.phys c.refit.new.places c.give.new.self key c.args.size e = record {
      shelf = c.self.invariant.0;
      slot = slot;
      pos = c.requires.sizes.0;
      small = c.requires.sizes.1;
      fits = c.refit.ensures.refits;
      only = c.give.ensures.only;
      blocks = c.give.ensures.kept ∙ ap (λ (x : Entry). take (blocks_for x.kept) (blocks_of i.swap key)) q;
    } in
    let r = relocked i.entries key (Some c.sized-entry.result) i.locked c.locked_part.result c.locked_part-2.result l c.self.invariant.1 part
    (need_is (set i.entries key (Some c.sized-entry.result)) key c.sized-entry.result c.locked_part-2.result (slot-set_same i.entries key (Some c.sized-entry.result) l) c.locked_part-2.ensures.value) in
    let a = IsShelf-grown s c.refit.new.phys c.refit.new.places c.give.new.self key c.args.size e g in
    rw c.set.ensures (rw (← q) at a, r.1, rw (length-set i.entries key (Some c.sized-entry.result)) c.self.invariant.2)

pub returns-clause-resizes : goal.returns-clause-resizes
returns-clause-resizes c =
    let i = c.self.inside in
    let s : Shelf = record { memory = i.phys; places = i.places; turns = i.clock; swap = i.swap; entries = i.entries; made = i.made; keys = i.keys.items } in
    let key = c.args.key in
    let e = c.in-Some.old in
    let slot : slot_at i.entries key ≡ Some e = sym c.in-Some.ensures in
    let q : c.sized-entry.result ≡ at_size e c.args.size = c.sized-entry.ensures in
    let g : Grows s c.refit.new.phys c.refit.new.places c.give.new.self key c.args.size e = record {
      shelf = c.self.invariant.0;
      slot = slot;
      pos = c.requires.sizes.0;
      small = c.requires.sizes.1;
      fits = c.refit.ensures.refits;
      only = c.give.ensures.only;
      blocks = c.give.ensures.kept ∙ ap (λ (x : Entry). take (blocks_for x.kept) (blocks_of i.swap key)) q;
    } in
    rw (← c.self.view_is, c.set.ensures, q) (λ told pic block. resizes_is told s c.refit.new.phys c.refit.new.places c.give.new.self key c.args.size e g pic block)

pub returns-clause-clean : goal.returns-clause-clean
returns-clause-clean c =
    let i = c.self.inside in
    let s : Shelf = record { memory = i.phys; places = i.places; turns = i.clock; swap = i.swap; entries = i.entries; made = i.made; keys = i.keys.items } in
    let key = c.args.key in
    let e = c.in-Some.old in
    let slot : slot_at i.entries key ≡ Some e = sym c.in-Some.ensures in
    let q : c.sized-entry.result ≡ at_size e c.args.size = c.sized-entry.ensures in
    let g : Grows s c.refit.new.phys c.refit.new.places c.give.new.self key c.args.size e = record {
      shelf = c.self.invariant.0;
      slot = slot;
      pos = c.requires.sizes.0;
      small = c.requires.sizes.1;
      fits = c.refit.ensures.refits;
      only = c.give.ensures.only;
      blocks = c.give.ensures.kept ∙ ap (λ (x : Entry). take (blocks_for x.kept) (blocks_of i.swap key)) q;
    } in
    rw (← c.self.view_is, c.set.ensures, q) (λ pic a. clean_grown s c.refit.new.phys c.refit.new.places c.give.new.self key c.args.size e g pic a)

pub returns-clause-presence : goal.returns-clause-presence
returns-clause-presence c =
    let i = c.self.inside in
    rw (← c.self.view_is) (λ k. fit_presence i.phys i.places c.refit.new.phys c.refit.new.places c.args.key c.in-Some.old.size c.args.size k c.refit.ensures.refits)

pub returns-clause-unused : goal.returns-clause-unused
returns-clause-unused c =
    let i = c.self.inside in
    rw (← c.self.view_is) (none_given i.swap c.give.new.self c.args.key _ c.give.ensures.only c.give.ensures.kept)

pub returns-clause-kept : goal.returns-clause-kept
returns-clause-kept c =
    let i = c.self.inside in
    let key = c.args.key in
    let e = c.in-Some.old in
    let slot : slot_at i.entries key ≡ Some e = sym c.in-Some.ensures in
    let q : c.sized-entry.result ≡ at_size e c.args.size = c.sized-entry.ensures in
    rw (← c.self.view_is, c.set.ensures, q) (kept_less i.entries key e c.args.size slot)
