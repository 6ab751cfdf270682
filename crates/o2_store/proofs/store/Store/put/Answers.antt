use Rattle.std.proofs.Common.{length, sym, arith}
use Rattle.o2_store.specs.Shelf.{Shelf, entry_of}
use Rattle.o2_store.proofs.Shifts.{put_fits}
use Rattle.o2_store.proofs.store.Store.put.Goals as goal

pub overflow_add-at : goal.overflow_add-at
overflow_add-at c =
    let i = c.self.inside in
    let s : Shelf = record { memory = i.phys; places = i.places; turns = i.clock; swap = i.swap; entries = i.entries; made = i.made; keys = i.keys.items } in
    let f = put_fits s (entry_of s c.args.id) c.args.id.key c.in-Some.at c.args.offset (length c.args.bytes.now) c.self.invariant.0 (rw (← c.self.view_is) at c.law.ensures.within) (sym (rw (← c.self.view_is) at c.in-Some.ensures)) (rw (← c.self.view_is) at c.requires.within) in
    omega (arith, f, c.self.invariant.0.small)

pub write-requires : goal.write-requires
write-requires c =
    let i = c.self.inside in
    let s : Shelf = record { memory = i.phys; places = i.places; turns = i.clock; swap = i.swap; entries = i.entries; made = i.made; keys = i.keys.items } in
    put_fits s (entry_of s c.args.id) c.args.id.key c.in-Some.at c.args.offset (length c.args.bytes.now) c.self.invariant.0 (rw (← c.self.view_is) at c.law.ensures.within) (sym (rw (← c.self.view_is) at c.in-Some.ensures)) (rw (← c.self.view_is) at c.requires.within)
