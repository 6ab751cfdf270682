use Rattle.std.proofs.Common.{refl, sym, subst}
use Rattle.o2_stands.specs.Stands.{Matches}
use Rattle.o2_segs.specs.Answers.{Answers}
use Rattle.o2_segs.proofs.Rows.{at_maps, refusal_answers, refusal_shelf}
use Rattle.o2_segs.proofs.Selecting.{named_in}
use Rattle.o2_stands.specs.Knows.{marks_under}
use Rattle.o2_world.specs.Changes.{with_all}
use Rattle.o2_world.specs.Rulings.{Ruling}
use Rattle.o2_locks.proofs.Rows.{marked, unlock_none, unlock_some}
use Rattle.o2_segs.proofs.Limits.{limits_refl}
use Rattle.o2_changes.proofs.Framing.{order_refl}
use Rattle.o2_locks.proofs.unlocking.unlock_seg.Goals as goal

pub returns-in-Some-clause-answer : goal.returns-in-Some-clause-answer
returns-in-Some-clause-answer c = λ p o es em.
    (let id = c.in-Some.held.id in
    subst (λ (r : Ruling). Answers r c.unlock.result) (sym (unlock_some p o c.args.pid c.args.sel c.in-Some.held (named_in p c.args.store.now c.args.regions.now es em c.requires.caller.named) (at_maps p c.args.regions.now c.args.pid c.args.sel _ em (sym c.in-Some.ensures))))
    (c.unlock.ensures.answer (marks_under p o id.age id.key) (marked p o c.args.store.now id.age id.key es)))

pub returns-in-Some-clause-matches : goal.returns-in-Some-clause-matches
returns-in-Some-clause-matches c = λ p o w es em q.
    (let id = c.in-Some.held.id in
    subst (λ (r : Ruling). Matches (record p { shelf = c.unlock.new.store }) (with_all w r.changes))
    (sym (unlock_some p o c.args.pid c.args.sel c.in-Some.held
    (named_in p c.args.store.now c.args.regions.now es em c.requires.caller.named)
    (at_maps p c.args.regions.now c.args.pid c.args.sel _ em (sym c.in-Some.ensures))))
    (c.unlock.ensures.matches (marks_under p o id.age id.key) p w (marked p o c.args.store.now id.age id.key es) es em q))

pub returns-in-None-clause-answer : goal.returns-in-None-clause-answer
returns-in-None-clause-answer c = λ p o es em. refusal_answers _ 5 c.refusal.result (unlock_none p o c.args.pid c.args.sel (at_maps p c.args.regions.now c.args.pid c.args.sel _ em (sym c.in-None.ensures))) c.refusal.ensures

pub returns-in-None-clause-matches : goal.returns-in-None-clause-matches
returns-in-None-clause-matches c = λ p o w es em q. refusal_shelf p c.args.store.now w _ 5 es (unlock_none p o c.args.pid c.args.sel (at_maps p c.args.regions.now c.args.pid c.args.sel _ em (sym c.in-None.ensures))) q

pub returns-in-None-clause-places : goal.returns-in-None-clause-places
returns-in-None-clause-places c = λ k some. refl

pub returns-in-None-clause-limits : goal.returns-in-None-clause-limits
returns-in-None-clause-limits c = limits_refl c.args.store.now c.args.regions.now

pub returns-in-None-clause-goes_on : goal.returns-in-None-clause-goes_on
returns-in-None-clause-goes_on c = order_refl c.args.store.now c.args.regions.now c.requires.caller.order
