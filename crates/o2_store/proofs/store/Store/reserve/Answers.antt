use Rattle.std.proofs.Common.{◌≡◌, arith, ap, sym, Option, Some, None, set, ltb, if◌then◌else◌, is_some}
use Rattle.std.proofs.lemmas.List.{length-set}
use Rattle.o2_entries.specs.declared.Entry.{Entry}
use Rattle.o2_entries.specs.Tables.{slot_at}
use Rattle.o2_store.specs.Shelf.{Shelf, entry, entry_or, rounded, locked_need}
use Rattle.o2_store.proofs.Tables.{within_at, locked-set, slot-set_same}
use Rattle.o2_store.proofs.Keeping.{IsShelf-reserve, keeps_reserve, clean_reserve}
use Rattle.o2_store.proofs.store.Store.reserve.Goals as goal

pub invariant_of-self-2 : goal.invariant_of-self-2
invariant_of-self-2 c =
    let i = c.self.inside in
    let s : Shelf = record { memory = i.phys; places = i.places; turns = i.clock; swap = i.swap; entries = i.entries; made = i.made; keys = i.keys.items } in
    let h = c.self.invariant.0 in
    let slot : slot_at i.entries c.args.key ≡ Some c.in-Some.old = sym c.in-Some.ensures in
    let e_is : entry s c.args.key ≡ c.in-Some.old = ap entry_or slot in
    let f : Entry = record c.in-Some.old { kept = c.args.kept; image = None } in
    let l = within_at i.entries c.args.key (ap is_some slot) in
    let a = locked-set i.entries c.args.key (Some f) l in
    let x : locked_need i.entries c.args.key ≡ (if ltb 0 c.in-Some.old.attr.lock then rounded c.in-Some.old.size else 0) = ap (λ (o : Option Entry). if ltb 0 (entry_or o).attr.lock then rounded (entry_or o).size else 0) slot in
    let y : locked_need (set i.entries c.args.key (Some f)) c.args.key
    ≡ (if ltb 0 c.in-Some.old.attr.lock then rounded c.in-Some.old.size else 0) = ap
    (λ (o : Option Entry). if ltb 0 (entry_or o).attr.lock then rounded (entry_or o).size else 0)
    (slot-set_same i.entries c.args.key (Some f) l) in
    rw c.set.ensures (
      IsShelf-reserve s c.fit_blocks.new.swap c.args.key c.args.kept c.in-Some.old h slot c.fit_blocks.ensures.only (c.fit_blocks.ensures.enough c.if-not-fit_blocks.false) (rw (← c.self.view_is, e_is) at c.requires.kept) (rw (← c.self.view_is, e_is) at c.requires.written) (rw (← c.self.view_is) at c.requires.placed),
      omega (arith, a, x, y, c.self.invariant.1),
      rw (length-set i.entries c.args.key (Some f)) c.self.invariant.2,
    )

pub returns-clause-keeps : goal.returns-clause-keeps
returns-clause-keeps c =
    let i = c.self.inside in
    let s : Shelf = record { memory = i.phys; places = i.places; turns = i.clock; swap = i.swap; entries = i.entries; made = i.made; keys = i.keys.items } in
    let h = c.self.invariant.0 in
    let slot : slot_at i.entries c.args.key ≡ Some c.in-Some.old = sym c.in-Some.ensures in
    let e_is : entry s c.args.key ≡ c.in-Some.old = ap entry_or slot in
    rw (← c.self.view_is, c.set.ensures) (λ told pic block. keeps_reserve told pic s c.fit_blocks.new.swap c.args.key c.args.kept c.in-Some.old block h slot c.fit_blocks.ensures.only (rw (← c.self.view_is) at c.requires.placed))

pub returns-clause-clean : goal.returns-clause-clean
returns-clause-clean c =
    let i = c.self.inside in
    let s : Shelf = record { memory = i.phys; places = i.places; turns = i.clock; swap = i.swap; entries = i.entries; made = i.made; keys = i.keys.items } in
    let h = c.self.invariant.0 in
    let slot : slot_at i.entries c.args.key ≡ Some c.in-Some.old = sym c.in-Some.ensures in
    let e_is : entry s c.args.key ≡ c.in-Some.old = ap entry_or slot in
    rw (← c.self.view_is, c.set.ensures) (λ pic a. clean_reserve pic s c.fit_blocks.new.swap c.args.key c.args.kept c.in-Some.old h slot c.fit_blocks.ensures.only (rw (← c.self.view_is, e_is) at c.requires.written) a)

pub returns-then-not-fit_blocks-clause-clean : goal.returns-then-not-fit_blocks-clause-clean
returns-then-not-fit_blocks-clause-clean c = rw (← c.self.view_is, (c.fit_blocks.ensures.full c.if-not-fit_blocks.true).1) (λ pic a. a)

pub returns-clause-piles : goal.returns-clause-piles
returns-clause-piles c = rw (← c.self.view_is) (λ k l n. c.fit_blocks.ensures.only.others k n (let m = c.self.invariant.0.swap_most in (λ e. absurd (omega (arith, l, m, e)))))
