use Rattle.std.proofs.Common.{[], ◌∷◌, sym, ap, ◌∙◌, arith}
use Rattle.o2_entries.specs.declared.Attr.{Attr}
use Rattle.o2_entries.specs.Tables.{slot_at}
use Rattle.o2_store.specs.Shelf.{Shelf, entry_of}
use Rattle.o2_store.proofs.Ready.{ready_put, attr_by, size_by}
use Rattle.test_store_calls.proofs.calls.write.Goals as goal

pub returns-clause-ready : goal.returns-clause-ready
returns-clause-ready g c =
    let s = c.args.store.now in
    let id = c.args.id in
    let base = sym c.in-Some.ensures in
    let w = attr_by id.age (slot_at s.entries id.key) c.in-Some-attr.attr (sym c.in-Some-attr.ensures) in
    let z = size_by id.age (slot_at s.entries id.key) c.in-Some-size.size (sym c.in-Some-size.ensures) in
    ready_put s c.put.new.self c.args.images.now (g.S.SwapDevice.blocks c.args.swap.now) (entry_of s id) id.key c.in-Some._at c.args.offset (c.args.byte ∷ []) c.law.ensures.shelf c.requires base (omega (arith, z, c.if-offset-size.false))
    (ap (λ (x : Attr). x.clean) w ∙ c.if-attr.false) c.law.ensures.within c.law.ensures.apart (c.put.ensures c.in-Some._at base)

pub returns-clause-made : goal.returns-clause-made
returns-clause-made g c = ap (λ (x : Shelf). x.made) (c.put.ensures c.in-Some._at (sym c.in-Some.ensures))
