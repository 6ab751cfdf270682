use Rattle.std.proofs.Common.{true, sym}
use Rattle.o2_segs.proofs.Rows.{alias_all_answers, alias_all_matches, alias_none, alias_refused, at_maps, at_rights, refusal_answers, refusal_maps}
use Rattle.o2_segs.proofs.Limits.{limits_refl}
use Rattle.o2_segs.proofs.Sharing.{low_under}
use Rattle.o2_changes.proofs.Framing.{order_refl}
use Rattle.o2_segs.proofs.aliasing.create_cs_alias.Goals as goal

pub returns-then-has_no_alias-clause-answer : goal.returns-then-has_no_alias-clause-answer
returns-then-has_no_alias-clause-answer c = λ p o es em.
    refusal_answers _ 5 c.refusal.result (alias_refused p o c.args.pid c.args.sel c.in-Some.held
    (at_maps p c.args.regions.now c.args.pid c.args.sel _ em (sym c.in-Some.ensures))
    (at_rights p c.args.regions.now c.args.pid c.args.sel c.in-Some.held true em (sym c.if-has_no_alias.ensures))) c.refusal.ensures

pub returns-then-has_no_alias-clause-matches : goal.returns-then-has_no_alias-clause-matches
returns-then-has_no_alias-clause-matches c = λ p o w x es em at q.
    refusal_maps p c.args.regions.now w _ 5 em (alias_refused p o c.args.pid c.args.sel c.in-Some.held
    (at_maps p c.args.regions.now c.args.pid c.args.sel _ em (sym c.in-Some.ensures))
    (at_rights p c.args.regions.now c.args.pid c.args.sel c.in-Some.held true em (sym c.if-has_no_alias.ensures))) q

pub returns-else-has_no_alias-clause-answer : goal.returns-else-has_no_alias-clause-answer
returns-else-has_no_alias-clause-answer c = λ p o es em.
    alias_all_answers p o c.args.regions.now c.args.pid c.args.sel c.in-Some.held c.alias.result c.requires.caller.process.0 em (sym c.in-Some.ensures) (sym c.if-has_no_alias.ensures)
    (λ e. (c.alias.ensures.full e).0) (λ i e. (c.alias.ensures.aliased i e).0)

pub returns-else-has_no_alias-clause-matches : goal.returns-else-has_no_alias-clause-matches
returns-else-has_no_alias-clause-matches c = λ p o w x es em at q.
    alias_all_matches p o c.args.store.now c.args.regions.now c.alias.new.regions c.args.pid c.args.sel c.in-Some.held w x c.requires.caller.process.0 es em (sym c.in-Some.ensures) (sym c.if-has_no_alias.ensures)
    (λ e. (c.alias.ensures.full e).1) (λ i e. (c.alias.ensures.aliased i e).1) at q

pub returns-in-None-clause-answer : goal.returns-in-None-clause-answer
returns-in-None-clause-answer c = λ p o es em.
    refusal_answers _ 5 c.refusal-in-None.result (alias_none p o c.args.pid c.args.sel (at_maps p c.args.regions.now c.args.pid c.args.sel _ em (sym c.in-None.ensures))) c.refusal-in-None.ensures

pub returns-in-None-clause-matches : goal.returns-in-None-clause-matches
returns-in-None-clause-matches c = λ p o w x es em at q.
    refusal_maps p c.args.regions.now w _ 5 em (alias_none p o c.args.pid c.args.sel (at_maps p c.args.regions.now c.args.pid c.args.sel _ em (sym c.in-None.ensures))) q

pub returns-then-has_no_alias-clause-limits : goal.returns-then-has_no_alias-clause-limits
returns-then-has_no_alias-clause-limits c = limits_refl c.args.store.now c.args.regions.now

pub returns-in-None-clause-limits : goal.returns-in-None-clause-limits
returns-in-None-clause-limits c = limits_refl c.args.store.now c.args.regions.now

pub alias-requires-clause-own : goal.alias-requires-clause-own
alias-requires-clause-own c =
    low_under c.args.regions.now c.args.pid c.args.sel c.in-Some.held _ (sym c.in-Some.ensures) (sym c.if-has_no_alias.ensures)

pub returns-then-has_no_alias-clause-goes_on : goal.returns-then-has_no_alias-clause-goes_on
returns-then-has_no_alias-clause-goes_on c = order_refl c.args.store.now c.args.regions.now c.requires.caller.order

pub returns-in-None-clause-goes_on : goal.returns-in-None-clause-goes_on
returns-in-None-clause-goes_on c = order_refl c.args.store.now c.args.regions.now c.requires.caller.order
