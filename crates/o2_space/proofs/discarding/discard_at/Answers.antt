use Rattle.std.proofs.Common.{◌∙◌, IsSome, ap, sym, subst}
use Rattle.o2_entries.specs.Tables.{slot_at}
use Rattle.o2_store.specs.Shelf.{entry_of, numbered}
use Rattle.o2_segs.proofs.Discarded.{limits_discarded}
use Rattle.o2_space.proofs.Wording.{discarded_here, gone_at, kept_at, kind_of, live_numbered, none_at, numbered_none, numbered_some}
use Rattle.o2_space.proofs.discarding.discard_at.Goals as goal

pub goes-requires-clause-live : goal.goes-requires-clause-live
goes-requires-clause-live c =
    let s = c.args.store.now in
    let n = numbered_some (slot_at s.entries c.args.key) (numbered s c.args.key) c.in-Some.id c.in-Some.ensures in
    live_numbered s c.args.key c.in-Some.id n.0 n.1

pub discard-requires-clause-live : goal.discard-requires-clause-live
discard-requires-clause-live c =
    let s = c.args.store.now in
    let n = numbered_some (slot_at s.entries c.args.key) (numbered s c.args.key) c.in-Some.id c.in-Some.ensures in
    live_numbered s c.args.key c.in-Some.id n.0 n.1

pub discard-requires-clause-kind : goal.discard-requires-clause-kind
discard-requires-clause-kind c = kind_of _ _ (sym c.goes.ensures ∙ c.if-goes.true)

pub returns-then-goes-clause-matches : goal.returns-then-goes-clause-matches
returns-then-goes-clause-matches c = λ p w es em er q.
    (let s = c.args.store.now in
    let m = c.args.regions.now in
    let key = c.args.key in
    let id = c.in-Some.id in
    let n = numbered_some (slot_at s.entries key) (numbered s key) id c.in-Some.ensures in
    let live : IsSome (entry_of s id) = live_numbered s key id n.0 n.1 in
    gone_at s m c.args.procs.now key p w es em er q id (ap (λ i. i.key) n.0) live (sym c.goes.ensures ∙ c.if-goes.true)
    (record p { shelf = c.discard.new.store; maps = c.discard.new.regions }) (c.discard.ensures.matches.world p w es em q))

pub returns-else-goes-clause-matches : goal.returns-else-goes-clause-matches
returns-else-goes-clause-matches c = λ p w es em er q.
    (let s = c.args.store.now in
    let key = c.args.key in
    let id = c.in-Some.id in
    let n = numbered_some (slot_at s.entries key) (numbered s key) id c.in-Some.ensures in
    let live : IsSome (entry_of s id) = live_numbered s key id n.0 n.1 in
    kept_at s c.args.regions.now c.args.procs.now key p w es em er q id (ap (λ i. i.key) n.0) live (sym c.goes.ensures ∙ c.if-goes.false))

pub returns-in-None-clause-matches : goal.returns-in-None-clause-matches
returns-in-None-clause-matches c = λ p w es em er q.
    (let s = c.args.store.now in
    none_at s c.args.regions.now c.args.procs.now c.args.key p w es em er q (numbered_none (slot_at s.entries c.args.key) (numbered s c.args.key) c.in-None.ensures))

pub returns-then-goes-clause-limits : goal.returns-then-goes-clause-limits
returns-then-goes-clause-limits c =
    let s = c.args.store.now in
    let t = c.discard.new.store in
    let id = c.in-Some.id in
    let n = numbered_some (slot_at s.entries c.args.key) (numbered s c.args.key) id c.in-Some.ensures in
    let live : IsSome (entry_of s id) = live_numbered s c.args.key id n.0 n.1 in
    let d = c.discard.ensures.discards in
    let now = discarded_here s t id live d in
    limits_discarded s t c.args.regions.now c.discard.new.regions id c.law.ensures.shelf c.law-then-goes.ensures.shelf
    (subst (λ i. IsSome (slot_at s.entries i)) (sym (ap (λ i. i.key) n.0)) n.1) now.live now.age now.count d c.discard.ensures.maps
