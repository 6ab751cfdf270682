use Rattle.o2_regions.specs.declared.answer.Roomed.TheVariants.{NoRoom}
use Rattle.o2_regions.specs.declared.held.Held.{Held}
use Rattle.o2_store.specs.Needs.{all_wanted}
use Rattle.o2_store.specs.Shelf.{entry, place_of}
use Rattle.std.proofs.Common.{◌≡◌, ◌<◌, None, Option, IfSome, arith, sym, subst}
use Rattle.o2_stands.specs.Stands.{Matches}
use Rattle.o2_segs.specs.Answers.{AnswersRoomed, changes_roomed}
use Rattle.o2_segs.proofs.Resizing.{refusal_moved}
use Rattle.o2_segs.proofs.Rows.{at_maps, refusal_answers}
use Rattle.o2_segs.proofs.Selecting.{named_in}
use Rattle.o2_segs.proofs.Stops.{denied}
use Rattle.o2_stands.specs.Knows.{marks_under}
use Rattle.o2_stands.specs.Moves.{moved}
use Rattle.o2_world.specs.Changes.{with_all}
use Rattle.o2_world.specs.Rulings.{Ruling}
use Rattle.o2_locks.proofs.Rows.{lock_none, lock_some, marked}
use Rattle.o2_segs.proofs.Limits.{limits_refl}
use Rattle.o2_changes.proofs.Framing.{for_refl}
use Rattle.o2_locks.proofs.locking.lock_seg.Goals as goal

pub returns-in-Some-clause-answer : goal.returns-in-Some-clause-answer
returns-in-Some-clause-answer g c = λ p o es em.
    (let id = c.in-Some.held.id in
    subst (λ (r : Ruling). AnswersRoomed r c.lock.result) (sym (lock_some p o c.args.pid c.args.sel c.in-Some.held (named_in p c.args.store.now c.args.regions.now es em c.requires.caller.named) (at_maps p c.args.regions.now c.args.pid c.args.sel _ em (sym c.in-Some.ensures))))
    (c.lock.ensures.answer (marks_under p o id.age id.key) (marked p o c.args.store.now id.age id.key es)))

pub returns-in-Some-clause-matches : goal.returns-in-Some-clause-matches
returns-in-Some-clause-matches g c = λ p o w es em ei eb tells q.
    (let id = c.in-Some.held.id in
    subst (λ (r : Ruling). Matches (moved p c.lock.new.store c.lock.new.regions (g.S.SwapDevice.block c.lock.new.swap))
    (with_all w (changes_roomed r c.lock.result))) (sym
    (lock_some p o c.args.pid c.args.sel c.in-Some.held (named_in p c.args.store.now c.args.regions.now es em c.requires.caller.named)
    (at_maps p c.args.regions.now c.args.pid c.args.sel _ em (sym c.in-Some.ensures))))
    (c.lock.ensures.matches (marks_under p o id.age id.key) p w (marked p o c.args.store.now id.age id.key es) es em ei eb tells q))

pub returns-in-None-clause-answer : goal.returns-in-None-clause-answer
returns-in-None-clause-answer g c = λ p o es em. refusal_answers _ 5 c.refusal.result (lock_none p o c.args.pid c.args.sel (at_maps p c.args.regions.now c.args.pid c.args.sel _ em (sym c.in-None.ensures))) c.refusal.ensures

pub returns-in-None-clause-matches : goal.returns-in-None-clause-matches
returns-in-None-clause-matches g c = λ p o w es em ei eb tells q.
    refusal_moved p c.args.store.now c.args.regions.now _ w _ 5 es em eb (lock_none p o c.args.pid c.args.sel (at_maps p c.args.regions.now c.args.pid c.args.sel _ em (sym c.in-None.ensures))) q

pub returns-in-Some-clause-stops : goal.returns-in-Some-clause-stops
returns-in-Some-clause-stops g c = λ stop.
    subst (λ (y : Option Held). IfSome y (λ h. (entry c.args.store.now h.id.key).attr.lock ≡ 0)) c.in-Some.ensures (c.lock.ensures.stops stop)

pub returns-in-Some-clause-no_room : goal.returns-in-Some-clause-no_room
returns-in-Some-clause-no_room g c = λ e.
    subst (λ (y : Option Held). IfSome y (λ h. c.args.store.now.places.size < all_wanted c.args.store.now h.id.key c.args.keep.now)) c.in-Some.ensures (c.lock.ensures.no_room e)

pub returns-in-Some-clause-absent : goal.returns-in-Some-clause-absent
returns-in-Some-clause-absent g c = λ e. subst (λ (y : Option Held). IfSome y (λ h. place_of c.args.store.now h.id.key ≡ None)) c.in-Some.ensures (c.lock.ensures.absent e)

pub returns-in-Some-clause-always_no_room : goal.returns-in-Some-clause-always_no_room
returns-in-Some-clause-always_no_room g c = λ u.
    (let s = c.args.store.now in
    subst (λ (y : Option Held). IfSome y (λ h. (entry s h.id.key).attr.lock ≡ 0 → place_of s h.id.key ≡ None → s.places.size < all_wanted s h.id.key c.args.keep.now → c.lock.result ≡ NoRoom))
    c.in-Some.ensures (c.lock.ensures.always_no_room u))

pub returns-in-None-clause-always_no_room : goal.returns-in-None-clause-always_no_room
returns-in-None-clause-always_no_room g c = λ u. absurd (denied c.refusal.result 5 c.refusal.ensures (omega arith) u)

pub returns-in-None-clause-limits : goal.returns-in-None-clause-limits
returns-in-None-clause-limits g c = limits_refl c.args.store.now c.args.regions.now

pub returns-in-None-clause-goes_on : goal.returns-in-None-clause-goes_on
returns-in-None-clause-goes_on g c = for_refl c.args.images.now c.args.store.now c.args.regions.now c.requires.caller.order c.requires.backed.clean
