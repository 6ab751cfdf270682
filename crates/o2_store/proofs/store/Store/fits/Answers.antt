use Rattle.std.proofs.Common.{◌≡◌, ap, arith}
use Rattle.o2_entries.specs.Tables.{slot_at}
use Rattle.o2_store.specs.Shelf.{Shelf}
use Rattle.o2_store.proofs.Collecting.{need_wanted}
use Rattle.o2_store.proofs.Choosing.{live_slot}
use Rattle.o2_store.proofs.store.Store.fits.Goals as goal

pub list_keys-need-requires : goal.list_keys-need-requires
list_keys-need-requires c = record { live = live_slot c.args.id.age (slot_at c.args.self.now.entries c.args.id.key) c.requires }

pub returns-then-memory_size-need-clause-none : goal.returns-then-memory_size-need-clause-none
returns-then-memory_size-need-clause-none c = λ r.
    (let s = c.args.self.now in
    let t = c.list_keys-need.new.self in
    let w = need_wanted s t.keys c.args.id.key c.args.keep.now c.list_keys-need.ensures.any in
    let z : t.places.size ≡ s.places.size = ap (λ (x : Shelf). x.places.size) c.list_keys-need.ensures.shelf in
    omega (arith, w, z, c.list_keys-need.ensures.need, c.memory_size.ensures, c.if-memory_size-need.true))

pub returns-clause-fits : goal.returns-clause-fits
returns-clause-fits c = λ r.
    (let s = c.args.self.now in
    let t = c.list_keys-need.new.self in
    let w = need_wanted s t.keys c.args.id.key c.args.keep.now c.list_keys-need.ensures.any in
    let z : t.places.size ≡ s.places.size = ap (λ (x : Shelf). x.places.size) c.list_keys-need.ensures.shelf in
    omega (arith, w, z, c.list_keys-need.ensures.need, c.memory_size.ensures, c.if-memory_size-need.false))
