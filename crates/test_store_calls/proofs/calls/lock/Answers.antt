use Rattle.std.proofs.Common.{sym, ap, false}
use Rattle.o2_entries.specs.declared.Attr.{Attr}
use Rattle.o2_entries.specs.Tables.{slot_at}
use Rattle.o2_store.proofs.Tables.{within_at}
use Rattle.o2_store.proofs.Ready.{ready_lock, attr_by, live_by}
use Rattle.test_store_calls.proofs.calls.lock.Goals as goal

pub returns-clause-ready : goal.returns-clause-ready
returns-clause-ready g c =
    let s = c.args.store.now in
    let t = c.set_attr.new.self in
    let key = c.args.id.key in
    let q = sym c.in-Some.ensures in
    let a = c.in-Some.attr in
    let w = attr_by c.args.id.age (slot_at s.entries key) a q in
    ready_lock c.set_attr.result s t t.turns c.args.images.now (g.S.SwapDevice.blocks c.args.swap.now) key (record { flags = a.flags; lock = c.args.lock; clean = a.clean; shared = a.shared; gone = false }) c.requires (within_at s.entries key (live_by c.args.id.age (slot_at s.entries key) a q))
    c.set_attr.ensures.stale c.set_attr.ensures.set (sym (ap (λ (x : Attr). x.clean) w))
