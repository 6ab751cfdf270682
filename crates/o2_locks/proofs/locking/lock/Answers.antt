use Rattle.std.proofs.Common.{arith, ◌+◌, ◌<◌, inl, inr, ℕ, Option, Some, IsSome, ap, min, refl, sym, subst, ◌∙◌}
use Rattle.o2_desc.specs.Bits.{has_bit}
use Rattle.o2_entries.specs.declared.Attr.{Attr}
use Rattle.o2_entries.specs.Tables.{slot_at}
use Rattle.o2_changes.proofs.KeepingHolds.{told_holds}
use Rattle.o2_changes.proofs.Segmenting.{attr_there}
use Rattle.o2_service.proofs.Among.{live_same}
use Rattle.o2_stands.specs.Moves.{moved}
use Rattle.o2_world.specs.Rulings.{locking_with}
use Rattle.o2_segs.proofs.Resizing.{refusal_moved, stopped_matches}
use Rattle.o2_segs.proofs.Rows.{done_answers, refusal_answers}
use Rattle.o2_segs.proofs.Stops.{denied, error_none, room_never, room_stops, stop_answers, stop_room, was_here, stop_fault}
use Rattle.o2_store.proofs.Tables.{locked_at}
use Rattle.o2_world.specs.Changes.{Locks, with_change}
use Rattle.o2_segs.proofs.Making.{moved_made}
use Rattle.o2_locks.proofs.Rows.{lock_done, lock_gone, lock_plain, locked_matches, none_less}
use Rattle.o2_store.specs.Shelf.{Shelf, entry, entry_of, place_of}
use Rattle.o2_segs.proofs.Sharing.{alive_tables}
use Rattle.o2_segs.proofs.Limits.{limits_locked, limits_moved, limits_refl, limits_then}
use Rattle.o2_store.specs.Idle.{NoneTaken}
use Rattle.o2_store.proofs.Idling.{idle_or}
use Rattle.o2_segs.proofs.Idling.{unrefused_by}
use Rattle.o2_regions.specs.declared.answer.Answer.{Answer}
use Rattle.o2_store.proofs.Framing.{device_for}
use Rattle.o2_changes.proofs.Framing.{for_refl, for_order, for_then}
use Rattle.o2_locks.proofs.locking.lock.Goals as goal

pub returns-then-not-is_discardable-clause-answer : goal.returns-then-not-is_discardable-clause-answer
returns-then-not-is_discardable-clause-answer g c = λ m is.
    (let s = c.args.store.now in
    let at = attr_there (entry_of s c.args.id) c.in-Some.attr (sym c.in-Some.ensures) c.args.id.age (slot_at s.entries c.args.id.key) refl in
    refusal_answers _ 5 c.refusal.result (lock_plain c.args.id.age (entry s c.args.id.key).attr m is (ap (λ (a : Attr). has_bit a.flags 2) (sym at) ∙ sym c.if-not-is_discardable.ensures)) c.refusal.ensures)

pub returns-then-not-is_discardable-clause-matches : goal.returns-then-not-is_discardable-clause-matches
returns-then-not-is_discardable-clause-matches g c = λ m p w is es em ei eb tells q.
    (let s = c.args.store.now in
    let at = attr_there (entry_of s c.args.id) c.in-Some.attr (sym c.in-Some.ensures) c.args.id.age (slot_at s.entries c.args.id.key) refl in
    refusal_moved p s c.args.regions.now _ w _ 5 es em eb (lock_plain c.args.id.age (entry s c.args.id.key).attr m is (ap (λ (a : Attr). has_bit a.flags 2) (sym at) ∙ sym c.if-not-is_discardable.ensures)) q)

pub returns-in-Some-stop_of-clause-answer : goal.returns-in-Some-stop_of-clause-answer
returns-in-Some-stop_of-clause-answer g c = λ m is.
    (let s = c.args.store.now in
    let at = attr_there (entry_of s c.args.id) c.in-Some.attr (sym c.in-Some.ensures) c.args.id.age (slot_at s.entries c.args.id.key) refl in
    stop_answers _ c.bring_in.result c.in-Some-stop_of.stop (error_none (lock_done c.args.id.age (entry s c.args.id.key).attr m is (ap (λ (a : Attr). has_bit a.flags 2) (sym at) ∙ sym c.if-not-is_discardable.ensures) (sym c.if-is_discarded.ensures))) c.in-Some-stop_of.ensures)

pub returns-in-Some-stop_of-clause-matches : goal.returns-in-Some-stop_of-clause-matches
returns-in-Some-stop_of-clause-matches g c = λ m p w is es em ei eb tells q.
    stopped_matches p w c.bring_in.new.store c.bring_in.new.regions (g.S.SwapDevice.block c.bring_in.new.swap) (locking_with c.args.id.age (Some m)) c.bring_in.result c.in-Some-stop_of.stop c.in-Some-stop_of.ensures (c.bring_in.ensures.matches.world p w es em ei eb tells q)

pub set_lock-requires-in-None-stop_of-clause-live : goal.set_lock-requires-in-None-stop_of-clause-live
set_lock-requires-in-None-stop_of-clause-live g c = live_same c.args.store.now c.bring_in.new.store c.args.id c.bring_in.ensures.keeps.tables c.requires.live

pub set_lock-requires-in-None-stop_of-clause-present : goal.set_lock-requires-in-None-stop_of-clause-present
set_lock-requires-in-None-stop_of-clause-present g c = λ l. c.bring_in.ensures.here (was_here c.bring_in.result c.in-None-stop_of.ensures c.bring_in.ensures.never)

pub returns-in-None-stop_of-clause-answer : goal.returns-in-None-stop_of-clause-answer
returns-in-None-stop_of-clause-answer g c = λ m is.
    (let s = c.args.store.now in
    let at = attr_there (entry_of s c.args.id) c.in-Some.attr (sym c.in-Some.ensures) c.args.id.age (slot_at s.entries c.args.id.key) refl in
    done_answers _ _ 0 c.done-in-None-stop_of.result (lock_done c.args.id.age (entry s c.args.id.key).attr m is (ap (λ (a : Attr). has_bit a.flags 2) (sym at) ∙ sym c.if-not-is_discardable.ensures) (sym c.if-is_discarded.ensures)) c.done-in-None-stop_of.ensures)

pub returns-in-None-stop_of-clause-matches : goal.returns-in-None-stop_of-clause-matches
returns-in-None-stop_of-clause-matches g c = λ m p w is es em ei eb tells q.
    (let s = c.args.store.now in
    let at = attr_there (entry_of s c.args.id) c.in-Some.attr (sym c.in-Some.ensures) c.args.id.age (slot_at s.entries c.args.id.key) refl in
    locked_matches p w c.set_lock-in-None-stop_of.new.store c.bring_in.new.regions (g.S.SwapDevice.block c.bring_in.new.swap) c.args.id
    (min ((entry s c.args.id.key).attr.lock + 1) 255) c.saturating_add-in-None-stop_of.result (locking_with c.args.id.age (Some m))
    (lock_done c.args.id.age (entry s c.args.id.key).attr m is
    (ap (λ (a : Attr). has_bit a.flags 2) (sym at) ∙ sym c.if-not-is_discardable.ensures) (sym c.if-is_discarded.ensures))
    (c.saturating_add-in-None-stop_of.ensures ∙ ap (λ (a : Attr). min (a.lock + 1) 255) at)
    (c.set_lock-in-None-stop_of.ensures.matches.world (moved p c.bring_in.new.store c.bring_in.new.regions (g.S.SwapDevice.block c.bring_in.new.swap)) w refl refl (c.bring_in.ensures.matches.world p w es em ei eb tells q)))

pub returns-in-Some-stop_of-clause-stops : goal.returns-in-Some-stop_of-clause-stops
returns-in-Some-stop_of-clause-stops g c = λ stop.
    (let s = c.args.store.now in
    let at = attr_there (entry_of s c.args.id) c.in-Some.attr (sym c.in-Some.ensures) c.args.id.age (slot_at s.entries c.args.id.key) refl in
    ap (λ (a : Attr). a.lock) (sym at) ∙ none_less c.in-Some.attr.lock c.if-attr-gt0.false)

pub set_lock-requires-clause-present : goal.set_lock-requires-clause-present
set_lock-requires-clause-present g c = λ l.
    (let s = c.args.store.now in
    let at = attr_there (entry_of s c.args.id) c.in-Some.attr (sym c.in-Some.ensures) c.args.id.age (slot_at s.entries c.args.id.key) refl in
    locked_at s c.args.id.key c.law.ensures.shelf (subst (λ (a : Attr). 0 < a.lock) at c.if-attr-gt0.true))

pub returns-then-attr-gt0-clause-answer : goal.returns-then-attr-gt0-clause-answer
returns-then-attr-gt0-clause-answer g c = λ m is.
    (let s = c.args.store.now in
    let at = attr_there (entry_of s c.args.id) c.in-Some.attr (sym c.in-Some.ensures) c.args.id.age (slot_at s.entries c.args.id.key) refl in
    done_answers _ _ 0 c.done.result (lock_done c.args.id.age (entry s c.args.id.key).attr m is (ap (λ (a : Attr). has_bit a.flags 2) (sym at) ∙ sym c.if-not-is_discardable.ensures) (sym c.if-is_discarded.ensures)) c.done.ensures)

pub returns-then-attr-gt0-clause-matches : goal.returns-then-attr-gt0-clause-matches
returns-then-attr-gt0-clause-matches g c = λ m p w is es em ei eb tells q.
    (let s = c.args.store.now in
    let at = attr_there (entry_of s c.args.id) c.in-Some.attr (sym c.in-Some.ensures) c.args.id.age (slot_at s.entries c.args.id.key) refl in
    locked_matches p w c.set_lock.new.store c.args.regions.now (g.S.SwapDevice.block c.args.swap.now) c.args.id
    (min ((entry s c.args.id.key).attr.lock + 1) 255) c.saturating_add.result (locking_with c.args.id.age (Some m))
    (lock_done c.args.id.age (entry s c.args.id.key).attr m is
    (ap (λ (a : Attr). has_bit a.flags 2) (sym at) ∙ sym c.if-not-is_discardable.ensures) (sym c.if-is_discarded.ensures))
    (c.saturating_add.ensures ∙ ap (λ (a : Attr). min (a.lock + 1) 255) at)
    (moved_made p (with_change w (Locks c.args.id.age c.saturating_add.result)) c.set_lock.new.store c.args.regions.now (g.S.SwapDevice.block c.args.swap.now) em eb (c.set_lock.ensures.matches.world p w es em q)))

pub returns-in-None-stop_of-clause-kept : goal.returns-in-None-stop_of-clause-kept
returns-in-None-stop_of-clause-kept g c = λ k named here. subst (λ (o : Option (ℕ × ℕ)). IsSome o) (sym (ap (λ (x : Shelf). place_of x k) c.set_lock-in-None-stop_of.ensures.sets.shelf)) (c.bring_in.ensures.kept k named here)

pub returns-then-attr-gt0-clause-kept : goal.returns-then-attr-gt0-clause-kept
returns-then-attr-gt0-clause-kept g c = λ k named here. subst (λ (o : Option (ℕ × ℕ)). IsSome o) (sym (ap (λ (x : Shelf). place_of x k) c.set_lock.ensures.sets.shelf)) here

pub returns-in-Some-stop_of-clause-no_room : goal.returns-in-Some-stop_of-clause-no_room
returns-in-Some-stop_of-clause-no_room g c = λ e. c.bring_in.ensures.no_room (stop_room c.bring_in.result c.in-Some-stop_of.stop c.in-Some-stop_of.ensures e)

pub returns-in-Some-stop_of-clause-absent : goal.returns-in-Some-stop_of-clause-absent
returns-in-Some-stop_of-clause-absent g c = λ e. c.bring_in.ensures.absent (stop_room c.bring_in.result c.in-Some-stop_of.stop c.in-Some-stop_of.ensures e)

pub returns-in-Some-stop_of-clause-always_no_room : goal.returns-in-Some-stop_of-clause-always_no_room
returns-in-Some-stop_of-clause-always_no_room g c = λ u z out l. room_stops c.bring_in.result c.in-Some-stop_of.stop c.in-Some-stop_of.ensures (c.bring_in.ensures.always_no_room out l)

pub returns-in-None-stop_of-clause-always_no_room : goal.returns-in-None-stop_of-clause-always_no_room
returns-in-None-stop_of-clause-always_no_room g c = λ u z out l. absurd (room_never c.bring_in.result c.in-None-stop_of.ensures (c.bring_in.ensures.always_no_room out l))

pub returns-then-attr-gt0-clause-always_no_room : goal.returns-then-attr-gt0-clause-always_no_room
returns-then-attr-gt0-clause-always_no_room g c = λ u z out l.
    absurd (let s = c.args.store.now in
    let at = attr_there (entry_of s c.args.id) c.in-Some.attr (sym c.in-Some.ensures) c.args.id.age (slot_at s.entries c.args.id.key) refl in
    let some : 0 < (entry s c.args.id.key).attr.lock = subst (λ (a : Attr). 0 < a.lock) at c.if-attr-gt0.true in
    omega (arith, some, z))

pub returns-then-not-is_discardable-clause-always_no_room : goal.returns-then-not-is_discardable-clause-always_no_room
returns-then-not-is_discardable-clause-always_no_room g c = λ u z out l. absurd (denied c.refusal.result 5 c.refusal.ensures (omega arith) u)

pub returns-in-None-clause-always_no_room : goal.returns-in-None-clause-always_no_room
returns-in-None-clause-always_no_room g c = λ u z out l. absurd (denied c.refusal-in-None.result 5 c.refusal-in-None.ensures (omega arith) u)

pub returns-then-not-is_discardable-clause-limits : goal.returns-then-not-is_discardable-clause-limits
returns-then-not-is_discardable-clause-limits g c = limits_refl c.args.store.now c.args.regions.now

pub returns-then-attr-gt0-clause-limits : goal.returns-then-attr-gt0-clause-limits
returns-then-attr-gt0-clause-limits g c = limits_locked c.args.store.now c.set_lock.new.store c.args.regions.now c.args.id _ c.requires.live c.set_lock.ensures.sets

pub returns-in-Some-stop_of-clause-limits : goal.returns-in-Some-stop_of-clause-limits
returns-in-Some-stop_of-clause-limits g c = limits_moved c.args.store.now c.bring_in.new.store c.args.regions.now c.bring_in.new.regions c.bring_in.ensures.keeps.tables c.bring_in.ensures.maps

pub returns-in-None-stop_of-clause-limits : goal.returns-in-None-stop_of-clause-limits
returns-in-None-stop_of-clause-limits g c =
    limits_then c.args.store.now c.bring_in.new.store c.set_lock-in-None-stop_of.new.store c.args.regions.now c.bring_in.new.regions
    c.bring_in.new.regions 0 0 (limits_moved c.args.store.now c.bring_in.new.store c.args.regions.now c.bring_in.new.regions
    c.bring_in.ensures.keeps.tables c.bring_in.ensures.maps)
    (limits_locked c.bring_in.new.store c.set_lock-in-None-stop_of.new.store c.bring_in.new.regions c.args.id _ (alive_tables c.args.store.now c.bring_in.new.store c.bring_in.ensures.keeps.tables c.args.id c.requires.live) c.set_lock-in-None-stop_of.ensures.sets)

pub returns-in-None-clause-limits : goal.returns-in-None-clause-limits
returns-in-None-clause-limits g c = limits_refl c.args.store.now c.args.regions.now

pub returns-in-Some-stop_of-clause-holds : goal.returns-in-Some-stop_of-clause-holds
returns-in-Some-stop_of-clause-holds g c = told_holds c.args.regions.now c.bring_in.new.regions c.bring_in.ensures.maps

pub returns-in-None-stop_of-clause-holds : goal.returns-in-None-stop_of-clause-holds
returns-in-None-stop_of-clause-holds g c = told_holds c.args.regions.now c.bring_in.new.regions c.bring_in.ensures.maps

pub returns-then-not-is_discardable-clause-idle : goal.returns-then-not-is_discardable-clause-idle
returns-then-not-is_discardable-clause-idle g c = λ none. inl (record { device = refl; none = none })

pub returns-in-Some-stop_of-clause-idle : goal.returns-in-Some-stop_of-clause-idle
returns-in-Some-stop_of-clause-idle g c = λ none.
    elim (idle_or _ c.args.store.now c.bring_in.new.store _ _ c.bring_in.ensures.idle none) [
      | inl i ↦ inl i
      | inr more ↦ inr (unrefused_by c.bring_in.result c.in-Some-stop_of.stop c.in-Some-stop_of.ensures, more)
    ]

pub returns-in-None-stop_of-clause-idle : goal.returns-in-None-stop_of-clause-idle
returns-in-None-stop_of-clause-idle g c = λ none.
    elim (idle_or _ c.args.store.now c.bring_in.new.store _ _ c.bring_in.ensures.idle none) [
      | inl i ↦ inl (record { device = i.device; none = subst NoneTaken (sym (ap (λ (x : Shelf). x.swap) c.set_lock-in-None-stop_of.ensures.sets.shelf)) i.none })
      | inr more ↦ inr (ap (λ (x : Answer). x.error) c.done-in-None-stop_of.ensures, more)
    ]

pub returns-then-not-is_discardable-clause-goes_on : goal.returns-then-not-is_discardable-clause-goes_on
returns-then-not-is_discardable-clause-goes_on g c = for_refl c.args.images.now c.args.store.now c.args.regions.now c.requires.order c.requires.backed.clean

pub returns-in-None-clause-goes_on : goal.returns-in-None-clause-goes_on
returns-in-None-clause-goes_on g c = for_refl c.args.images.now c.args.store.now c.args.regions.now c.requires.order c.requires.backed.clean

pub returns-then-attr-gt0-clause-goes_on : goal.returns-then-attr-gt0-clause-goes_on
returns-then-attr-gt0-clause-goes_on g c = for_order c.args.images.now c.args.store.now c.set_lock.new.store c.args.regions.now c.args.regions.now c.set_lock.ensures.goes_on c.requires.backed.clean

pub returns-in-None-stop_of-clause-goes_on : goal.returns-in-None-stop_of-clause-goes_on
returns-in-None-stop_of-clause-goes_on g c = for_then c.args.images.now c.args.store.now c.bring_in.new.store c.set_lock-in-None-stop_of.new.store c.args.regions.now c.bring_in.new.regions c.bring_in.new.regions c.bring_in.ensures.goes_on c.set_lock-in-None-stop_of.ensures.goes_on

pub returns-in-Some-stop_of-clause-device : goal.returns-in-Some-stop_of-clause-device
returns-in-Some-stop_of-clause-device g c = device_for _ _ _ _ _ _ _ (λ e. stop_fault c.bring_in.result c.in-Some-stop_of.stop c.in-Some-stop_of.ensures e) c.bring_in.ensures.device

pub returns-in-None-stop_of-clause-device : goal.returns-in-None-stop_of-clause-device
returns-in-None-stop_of-clause-device g c = device_for _ _ _ _ _ _ _ (λ e. absurd (cc)) c.bring_in.ensures.device

pub returns-then-is_discarded-clause-answer : goal.returns-then-is_discarded-clause-answer
returns-then-is_discarded-clause-answer g c = λ m is.
    (let s = c.args.store.now in
    let at = attr_there (entry_of s c.args.id) c.in-Some.attr (sym c.in-Some.ensures) c.args.id.age (slot_at s.entries c.args.id.key) refl in
    refusal_answers _ 157 c.refusal-then-is_discarded.result
    (lock_gone c.args.id.age (entry s c.args.id.key).attr m is (ap (λ (a : Attr). has_bit a.flags 2) (sym at) ∙ sym c.if-not-is_discardable.ensures) (sym c.if-is_discarded.ensures)) c.refusal-then-is_discarded.ensures)

pub returns-then-is_discarded-clause-matches : goal.returns-then-is_discarded-clause-matches
returns-then-is_discarded-clause-matches g c = λ m p w is es em ei eb tells q.
    (let s = c.args.store.now in
    let at = attr_there (entry_of s c.args.id) c.in-Some.attr (sym c.in-Some.ensures) c.args.id.age (slot_at s.entries c.args.id.key) refl in
    refusal_moved p s c.args.regions.now _ w _ 157 es em eb
    (lock_gone c.args.id.age (entry s c.args.id.key).attr m is (ap (λ (a : Attr). has_bit a.flags 2) (sym at) ∙ sym c.if-not-is_discardable.ensures) (sym c.if-is_discarded.ensures)) q)

pub returns-then-is_discarded-clause-always_no_room : goal.returns-then-is_discarded-clause-always_no_room
returns-then-is_discarded-clause-always_no_room g c = λ u z out l. absurd (denied c.refusal-then-is_discarded.result 157 c.refusal-then-is_discarded.ensures (omega arith) u)

pub returns-then-is_discarded-clause-limits : goal.returns-then-is_discarded-clause-limits
returns-then-is_discarded-clause-limits g c = limits_refl c.args.store.now c.args.regions.now

pub returns-then-is_discarded-clause-idle : goal.returns-then-is_discarded-clause-idle
returns-then-is_discarded-clause-idle g c = λ none. inl (record { device = refl; none = none })

pub returns-then-is_discarded-clause-goes_on : goal.returns-then-is_discarded-clause-goes_on
returns-then-is_discarded-clause-goes_on g c = for_refl c.args.images.now c.args.store.now c.args.regions.now c.requires.order c.requires.backed.clean

pub set_lock-requires-in-None-stop_of-clause-whole : goal.set_lock-requires-in-None-stop_of-clause-whole
set_lock-requires-in-None-stop_of-clause-whole g c = ap (λ (a : Attr). a.gone) (c.bring_in.ensures.keeps.tables.same c.args.id.key).attr ∙ sym c.if-is_discarded.ensures
