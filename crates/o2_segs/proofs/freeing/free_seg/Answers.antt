use Rattle.std.proofs.Common.{◌∙◌, ap, refl, sym}
use Rattle.o2_world.specs.Rulings.{Ruling}
use Rattle.o2_segs.proofs.Members.{all_done, all_refused, all_registers}
use Rattle.o2_segs.proofs.Rows.{all_matches, at_maps, done_answers, free_kept, free_none, refusal_answers, refusal_matches}
use Rattle.o2_segs.proofs.Limits.{limits_refl}
use Rattle.o2_changes.proofs.Framing.{order_refl}
use Rattle.o2_segs.proofs.freeing.free_seg.Goals as goal

pub returns-then-is_kept-clause-answer : goal.returns-then-is_kept-clause-answer
returns-then-is_kept-clause-answer c = λ p o es em.
    refusal_answers _ 5 c.refusal.result (all_refused p o c.args.regions.now c.args.pid c.args.sel c.index-index.result c.args.cpu.now c.in-Some.held em c.index-index.ensures (sym c.in-Some.ensures) (sym c.if-is_kept.ensures)) c.refusal.ensures

pub returns-then-is_kept-clause-registers : goal.returns-then-is_kept-clause-registers
returns-then-is_kept-clause-registers c = λ p o es em.
    free_kept p o c.args.pid c.args.sel c.args.cpu.now (all_refused p o c.args.regions.now c.args.pid c.args.sel c.index-index.result c.args.cpu.now c.in-Some.held em c.index-index.ensures (sym c.in-Some.ensures) (sym c.if-is_kept.ensures))

pub returns-then-is_kept-clause-matches : goal.returns-then-is_kept-clause-matches
returns-then-is_kept-clause-matches c = λ p o w x es em at loses q.
    refusal_matches p c.args.store.now c.args.regions.now w _ 5 es em (all_refused p o c.args.regions.now c.args.pid c.args.sel c.index-index.result c.args.cpu.now c.in-Some.held em c.index-index.ensures (sym c.in-Some.ensures) (sym c.if-is_kept.ensures)) q

pub returns-else-is_kept-clause-answer : goal.returns-else-is_kept-clause-answer
returns-else-is_kept-clause-answer c = λ p o es em.
    done_answers _ _ 0 c.done.result (all_done p o c.args.regions.now c.args.pid c.args.sel c.index-index.result c.args.cpu.now c.in-Some.held em c.index-index.ensures (sym c.in-Some.ensures) (sym c.if-is_kept.ensures)) c.done.ensures

pub returns-else-is_kept-clause-registers : goal.returns-else-is_kept-clause-registers
returns-else-is_kept-clause-registers c = λ p o es em.
    c.free_held.ensures.registers
    ∙ sym (all_registers p o c.args.regions.now c.args.pid c.args.sel c.args.cpu.now _ em
    (all_done p o c.args.regions.now c.args.pid c.args.sel c.index-index.result c.args.cpu.now c.in-Some.held em c.index-index.ensures (sym c.in-Some.ensures) (sym c.if-is_kept.ensures)))

pub returns-else-is_kept-clause-matches : goal.returns-else-is_kept-clause-matches
returns-else-is_kept-clause-matches c = λ p o w x es em at loses q.
    (let d = all_done p o c.args.regions.now c.args.pid c.args.sel c.index-index.result c.args.cpu.now c.in-Some.held em c.index-index.ensures (sym c.in-Some.ensures) (sym c.if-is_kept.ensures) in
    all_matches p o c.args.store.now c.free_held.new.store c.args.regions.now c.free_held.new.regions c.args.pid c.args.sel c.index-index.result c.args.cpu.now c.in-Some.held w x
    d c.index-index.ensures c.free_held.ensures.matches es em at (loses (ap (λ (r : Ruling). r.error) d)) q)

pub returns-in-None-clause-answer : goal.returns-in-None-clause-answer
returns-in-None-clause-answer c = λ p o es em.
    refusal_answers _ 5 c.refusal-in-None.result (free_none p o c.args.pid c.args.sel c.args.cpu.now (at_maps p c.args.regions.now c.args.pid c.args.sel _ em (sym c.in-None.ensures))) c.refusal-in-None.ensures

pub returns-in-None-clause-registers : goal.returns-in-None-clause-registers
returns-in-None-clause-registers c = λ p o es em.
    free_kept p o c.args.pid c.args.sel c.args.cpu.now (free_none p o c.args.pid c.args.sel c.args.cpu.now (at_maps p c.args.regions.now c.args.pid c.args.sel _ em (sym c.in-None.ensures)))

pub returns-in-None-clause-matches : goal.returns-in-None-clause-matches
returns-in-None-clause-matches c = λ p o w x es em at loses q.
    refusal_matches p c.args.store.now c.args.regions.now w _ 5 es em (free_none p o c.args.pid c.args.sel c.args.cpu.now (at_maps p c.args.regions.now c.args.pid c.args.sel _ em (sym c.in-None.ensures))) q

pub returns-then-is_kept-clause-places : goal.returns-then-is_kept-clause-places
returns-then-is_kept-clause-places c = λ k some. refl

pub returns-in-None-clause-places : goal.returns-in-None-clause-places
returns-in-None-clause-places c = λ k some. refl

pub returns-then-is_kept-clause-limits : goal.returns-then-is_kept-clause-limits
returns-then-is_kept-clause-limits c = limits_refl c.args.store.now c.args.regions.now

pub returns-in-None-clause-limits : goal.returns-in-None-clause-limits
returns-in-None-clause-limits c = limits_refl c.args.store.now c.args.regions.now

pub returns-then-is_kept-clause-goes_on : goal.returns-then-is_kept-clause-goes_on
returns-then-is_kept-clause-goes_on c = order_refl c.args.store.now c.args.regions.now c.requires.caller.order

pub returns-in-None-clause-goes_on : goal.returns-in-None-clause-goes_on
returns-in-None-clause-goes_on c = order_refl c.args.store.now c.args.regions.now c.requires.caller.order
