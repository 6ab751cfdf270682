use Rattle.std.proofs.Common.{arith, ℕ, Option, Some, IsSome, ap, refl, subst, sym, ◌∙◌}
use Rattle.o2_service.proofs.Among.{live_same}
use Rattle.o2_changes.proofs.MakesStand.{new_locked, newest_still}
use Rattle.o2_stands.specs.Stands.{Matches}
use Rattle.o2_world.specs.Changes.{Locks, Makes, with_change}
use Rattle.o2_stands.specs.Moves.{moved}
use Rattle.o2_segs.proofs.Making.{is_stop_of, same_stop, set_live, still_unheld}
use Rattle.o2_segs.proofs.Stops.{room_never, room_stops, stop_fault, stop_full, stop_room, was_here}
use Rattle.o2_entries.specs.declared.Attr.{Attr}
use Rattle.o2_entries.specs.declared.Entry.{Entry}
use Rattle.o2_store.specs.Shelf.{Shelf, entry_or, place_of}
use Rattle.o2_store.proofs.Loads.{full_load_but, same_load_but}
use Rattle.o2_changes.proofs.LocksStand.{locked_entry}
use Rattle.o2_segs.proofs.Sharing.{alive_tables}
use Rattle.o2_segs.proofs.Limits.{limits_locked, limits_moved, limits_then, undone_made, others_moved, others_same, others_then}
use Rattle.o2_store.specs.Idle.{NoneTaken}
use Rattle.o2_store.proofs.Framing.{device_for}
use Rattle.o2_changes.proofs.Framing.{for_then}
use Rattle.o2_segs.proofs.allocating.lock_new.Goals as goal

pub unmake-requires-clause-live : goal.unmake-requires-clause-live
unmake-requires-clause-live g c = live_same c.args.store.now c.bring_in.new.store c.args.id c.bring_in.ensures.keeps.tables c.requires.live

pub unmake-requires-clause-unheld : goal.unmake-requires-clause-unheld
unmake-requires-clause-unheld g c = still_unheld c.args.regions.now c.bring_in.new.regions c.args.id c.bring_in.ensures.maps c.requires.unheld

pub unmake-requires-clause-newest : goal.unmake-requires-clause-newest
unmake-requires-clause-newest g c = newest_still c.args.store.now c.bring_in.new.store c.args.id c.bring_in.ensures.keeps.tables c.requires.newest

pub returns-in-Some-clause-without : goal.returns-in-Some-clause-without
returns-in-Some-clause-without g c = λ r e. (
  is_stop_of c.bring_in.result c.in-Some.stop r c.in-Some.ensures e,
  record {
    world = λ p w sg es em ei eb tells age absent q.
        c.unmake.ensures.matches.world (moved p c.bring_in.new.store c.bring_in.new.regions (g.S.SwapDevice.block c.bring_in.new.swap)) w sg refl refl age absent (c.bring_in.ensures.matches.world p (with_change w (Makes sg)) es em ei eb tells q);
  },
)

pub set_lock-requires-clause-live : goal.set_lock-requires-clause-live
set_lock-requires-clause-live g c = live_same c.args.store.now c.bring_in.new.store c.args.id c.bring_in.ensures.keeps.tables c.requires.live

pub set_lock-requires-clause-present : goal.set_lock-requires-clause-present
set_lock-requires-clause-present g c = λ l. c.bring_in.ensures.here (was_here c.bring_in.result c.in-None.ensures c.bring_in.ensures.never)

pub set_lock-requires-clause-whole : goal.set_lock-requires-clause-whole
set_lock-requires-clause-whole g c = ap (λ (a : Attr). a.gone) (c.bring_in.ensures.keeps.tables.same c.args.id.key).attr ∙ c.requires.whole

pub returns-in-None-clause-locked : goal.returns-in-None-clause-locked
returns-in-None-clause-locked g c = λ e. record {
  world = λ p w sg es em ei eb tells age q.
      new_locked (moved p c.set_lock.new.store c.bring_in.new.regions (g.S.SwapDevice.block c.bring_in.new.swap)) w sg
      (subst (λ (k : ℕ). Matches (moved p c.set_lock.new.store c.bring_in.new.regions (g.S.SwapDevice.block c.bring_in.new.swap)) (with_change (with_change w (Makes sg)) (Locks k 1))) age
      (c.set_lock.ensures.matches.world (moved p c.bring_in.new.store c.bring_in.new.regions (g.S.SwapDevice.block c.bring_in.new.swap)) (with_change w (Makes sg)) refl refl (c.bring_in.ensures.matches.world p (with_change w (Makes sg)) es em ei eb tells q)));
}

pub returns-in-None-clause-live : goal.returns-in-None-clause-live
returns-in-None-clause-live g c = λ e. set_live c.bring_in.new.store c.set_lock.new.store c.args.id 1 (live_same c.args.store.now c.bring_in.new.store c.args.id c.bring_in.ensures.keeps.tables c.requires.live) c.set_lock.ensures.sets

pub returns-in-Some-clause-kept : goal.returns-in-Some-clause-kept
returns-in-Some-clause-kept g c = λ k apart named here. subst (λ (o : Option (ℕ × ℕ)). IsSome o) (sym (c.unmake.ensures.removed.places k apart)) (c.bring_in.ensures.kept k named here)

pub returns-in-None-clause-kept : goal.returns-in-None-clause-kept
returns-in-None-clause-kept g c = λ k apart named here. subst (λ (o : Option (ℕ × ℕ)). IsSome o) (sym (ap (λ (x : Shelf). place_of x k) c.set_lock.ensures.sets.shelf)) (c.bring_in.ensures.kept k named here)

pub returns-in-None-clause-plain : goal.returns-in-None-clause-plain
returns-in-None-clause-plain g c = λ e.
    ap (λ (x : Entry). x.attr.clean) (locked_entry c.bring_in.new.store c.set_lock.new.store c.args.id 1 (live_same c.args.store.now c.bring_in.new.store c.args.id c.bring_in.ensures.keeps.tables c.requires.live) c.set_lock.ensures.sets c.args.id.key)
    ∙ ap (λ (a : Attr). a.clean) (c.bring_in.ensures.keeps.tables.same c.args.id.key).attr

pub returns-in-Some-clause-no_room : goal.returns-in-Some-clause-no_room
returns-in-Some-clause-no_room g c = λ r e f. c.bring_in.ensures.no_room (stop_room c.bring_in.result c.in-Some.stop c.in-Some.ensures (same_stop c.in-Some.stop r _ e f))

pub returns-in-Some-clause-loads : goal.returns-in-Some-clause-loads
returns-in-Some-clause-loads g c = λ r e f.
    (let full = stop_full c.bring_in.result c.in-Some.stop c.in-Some.ensures (same_stop c.in-Some.stop r _ e f) in
    let s = c.args.store.now in
    let t = c.bring_in.new.store in
    let key = c.args.id.key in
    let stuck = c.bring_in.ensures.stuck full in
    let l = full_load_but t key c.law.ensures.shelf c.law.ensures.blocks stuck.full stuck.out
    (ap (λ (o : Option Entry). (entry_or o).image) stuck.same ∙ c.requires.bare.0) (ap (λ (o : Option Entry). (entry_or o).kept) stuck.same ∙ c.requires.bare.1) in
    let m = same_load_but s t key c.bring_in.ensures.keeps.tables in
    (omega (arith, l, m, c.bring_in.ensures.goes_on.map), (c.bring_in.ensures.loads full).1))

pub returns-in-Some-clause-limits : goal.returns-in-Some-clause-limits
returns-in-Some-clause-limits g c = λ none. absurd (cc)

pub returns-in-None-clause-limits : goal.returns-in-None-clause-limits
returns-in-None-clause-limits g c = λ none.
    limits_then c.args.store.now c.bring_in.new.store c.set_lock.new.store c.args.regions.now c.bring_in.new.regions c.bring_in.new.regions
    0 0 (limits_moved c.args.store.now c.bring_in.new.store c.args.regions.now c.bring_in.new.regions c.bring_in.ensures.keeps.tables
    c.bring_in.ensures.maps)
    (limits_locked c.bring_in.new.store c.set_lock.new.store c.bring_in.new.regions c.args.id 1 (alive_tables c.args.store.now c.bring_in.new.store c.bring_in.ensures.keeps.tables c.args.id c.requires.live) c.set_lock.ensures.sets)

pub returns-in-Some-clause-undone : goal.returns-in-Some-clause-undone
returns-in-Some-clause-undone g c = λ some.
    undone_made c.args.store.now c.bring_in.new.store c.unmake.new.store c.args.regions.now c.bring_in.new.regions c.args.id c.bring_in.ensures.keeps.tables c.bring_in.ensures.maps c.law.ensures.shelf c.law-in-Some.ensures.shelf c.unmake.ensures.removed
    (newest_still c.args.store.now c.bring_in.new.store c.args.id c.bring_in.ensures.keeps.tables c.requires.newest) c.unmake.ensures.made

pub returns-in-Some-clause-entries : goal.returns-in-Some-clause-entries
returns-in-Some-clause-entries g c =
    others_then c.args.store.now c.bring_in.new.store c.unmake.new.store c.args.id.key (others_moved c.args.store.now c.bring_in.new.store c.args.id.key c.bring_in.ensures.keeps.tables)
    (others_same c.bring_in.new.store c.unmake.new.store c.args.id.key c.unmake.ensures.removed.entries)

pub returns-in-None-clause-entries : goal.returns-in-None-clause-entries
returns-in-None-clause-entries g c =
    others_then c.args.store.now c.bring_in.new.store c.set_lock.new.store c.args.id.key (others_moved c.args.store.now c.bring_in.new.store c.args.id.key c.bring_in.ensures.keeps.tables)
    (others_same c.bring_in.new.store c.set_lock.new.store c.args.id.key c.set_lock.ensures.sets.others)

pub returns-in-Some-clause-idle : goal.returns-in-Some-clause-idle
returns-in-Some-clause-idle g c = λ none load.
    (let i = c.bring_in.ensures.idle none load in
    record { device = i.device; none = c.unmake.ensures.goes_on.unused i.none })

pub returns-in-None-clause-idle : goal.returns-in-None-clause-idle
returns-in-None-clause-idle g c = λ none load.
    (let i = c.bring_in.ensures.idle none load in
    record { device = i.device; none = subst NoneTaken (sym (ap (λ (x : Shelf). x.swap) c.set_lock.ensures.sets.shelf)) i.none })

pub returns-in-Some-clause-goes_on : goal.returns-in-Some-clause-goes_on
returns-in-Some-clause-goes_on g c = for_then c.args.images.now c.args.store.now c.bring_in.new.store c.unmake.new.store c.args.regions.now c.bring_in.new.regions c.bring_in.new.regions c.bring_in.ensures.goes_on c.unmake.ensures.goes_on

pub returns-in-None-clause-goes_on : goal.returns-in-None-clause-goes_on
returns-in-None-clause-goes_on g c = for_then c.args.images.now c.args.store.now c.bring_in.new.store c.set_lock.new.store c.args.regions.now c.bring_in.new.regions c.bring_in.new.regions c.bring_in.ensures.goes_on c.set_lock.ensures.goes_on

pub returns-in-Some-clause-device : goal.returns-in-Some-clause-device
returns-in-Some-clause-device g c = device_for _ _ _ _ _ _ _ (λ e. stop_fault c.bring_in.result c.in-Some.stop c.in-Some.ensures (same_stop c.in-Some.stop _ _ e refl)) c.bring_in.ensures.device

pub returns-in-None-clause-device : goal.returns-in-None-clause-device
returns-in-None-clause-device g c = device_for _ _ _ _ _ _ _ (λ e. absurd (cc)) c.bring_in.ensures.device

pub returns-in-Some-clause-always_no_room : goal.returns-in-Some-clause-always_no_room
returns-in-Some-clause-always_no_room g c = λ out l. ap Some (room_stops c.bring_in.result c.in-Some.stop c.in-Some.ensures (c.bring_in.ensures.always_no_room out l))

pub returns-in-None-clause-always_no_room : goal.returns-in-None-clause-always_no_room
returns-in-None-clause-always_no_room g c = λ out l. absurd (room_never c.bring_in.result c.in-None.ensures (c.bring_in.ensures.always_no_room out l))
