use Rattle.std.proofs.Common.{◌≡◌, arith, ap, ◌∙◌, Option, Some, set, ltb, if◌then◌else◌}
use Rattle.std.proofs.lemmas.List.{length-set}
use Rattle.o2_entries.specs.declared.Entry.{Entry}
use Rattle.o2_store.specs.Shelf.{Shelf, entry_or, rounded, locked_need}
use Rattle.o2_store.proofs.Tables.{IsShelf-add, locked-set, slot-set_same}
use Rattle.o2_store.proofs.store.Store.add.Goals as goal

pub invariant_of-self : goal.invariant_of-self
invariant_of-self c =
    let i = c.self.inside in
    let s : Shelf = record { memory = i.phys; places = i.places; turns = i.clock; swap = i.swap; entries = i.entries; made = i.made; keys = i.keys.items } in
    let h = c.self.invariant.0 in
    let key = c.in_ok-key.key in
    let e : Entry = record { age = i.made; size = c.args.size; kept = c.args.kept; image = c.args.image; attr = c.args.attr } in
    let v = c.in_ok-key.ensures.some in
    let n = length-set i.entries key (Some e) in
    let z : locked_need i.entries key ≡ 0 = ap (λ (o : Option Entry). if ltb 0 (entry_or o).attr.lock then rounded (entry_or o).size else 0) v.1 in
    let y : locked_need (set i.entries key (Some e)) key
    ≡ 0 = ap (λ (o : Option Entry). if ltb 0 (entry_or o).attr.lock then rounded (entry_or o).size else 0)
    (slot-set_same i.entries key (Some e) v.0) ∙ ap (λ (x : _). if ltb 0 x then rounded c.args.size else 0) c.requires.unlocked in
    let a = locked-set i.entries key (Some e) v.0 in
    rw c.add.ensures (IsShelf-add s key e h v.0 v.1 (omega arith) c.requires.size.0 c.requires.size.1 c.requires.kept c.requires.sourced c.requires.unlocked c.requires.clean c.requires.whole, omega (arith, a, z, y, c.self.invariant.1), rw n c.self.invariant.2)
