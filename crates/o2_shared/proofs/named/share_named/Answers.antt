use Rattle.std.proofs.Common.{sym}
use Rattle.o2_segs.proofs.Rows.{done_answers, refusal_answers, refusal_maps}
use Rattle.o2_shared.proofs.ByName.{name_done, name_nobody, name_other}
use Rattle.o2_shared.proofs.Shares.{share_matches, value_is}
use Rattle.o2_shared.proofs.Holders.{shares_none}
use Rattle.o2_shared.proofs.named.share_named.Goals as goal

pub returns-then-not-is_named-clause-answer : goal.returns-then-not-is_named-clause-answer
returns-then-not-is_named-clause-answer c = λ p o es em count.
    refusal_answers _ 2 c.refusal.result
    (name_other p o c.args.store.now c.args.regions.now c.args.pid c.args.index c.args.id es em count c.requires.caller.named c.requires.held c.in-Some.from c.in-Some.held c.in-Some.ensures.first c.in-Some.ensures.held (sym c.if-not-is_named.ensures)) c.refusal.ensures

pub returns-then-not-is_named-clause-matches : goal.returns-then-not-is_named-clause-matches
returns-then-not-is_named-clause-matches c = λ p o w x es em count at q.
    refusal_maps p c.args.regions.now w _ 2 em
    (name_other p o c.args.store.now c.args.regions.now c.args.pid c.args.index c.args.id es em count c.requires.caller.named c.requires.held c.in-Some.from c.in-Some.held c.in-Some.ensures.first c.in-Some.ensures.held (sym c.if-not-is_named.ensures)) q

pub returns-else-not-is_named-clause-answer : goal.returns-else-not-is_named-clause-answer
returns-else-not-is_named-clause-answer c = λ p o es em count.
    done_answers _ _ _ c.done.result
    (name_done p o c.args.store.now c.args.regions.now c.args.pid c.args.index c.args.id es em count c.requires.caller.named c.requires.held c.in-Some.from c.in-Some.held c.requires.first c.requires.last c.in-Some.ensures.first c.in-Some.ensures.held (sym c.if-not-is_named.ensures))
    (value_is c.done.result c.selector_at.result _ c.done.ensures c.selector_at.ensures)

pub returns-else-not-is_named-clause-matches : goal.returns-else-not-is_named-clause-matches
returns-else-not-is_named-clause-matches c = λ p o w x es em count at q.
    share_matches p c.args.store.now c.args.regions.now c.share.new.regions c.in-Some.from c.args.pid c.args.index _ c.in-Some.held _ w x c.share.ensures.matches c.in-Some.ensures.held es em
    (name_done p o c.args.store.now c.args.regions.now c.args.pid c.args.index c.args.id es em count c.requires.caller.named c.requires.held c.in-Some.from c.in-Some.held c.requires.first c.requires.last c.in-Some.ensures.first c.in-Some.ensures.held (sym c.if-not-is_named.ensures)) at q

pub returns-in-None-clause-answer : goal.returns-in-None-clause-answer
returns-in-None-clause-answer c = λ p o es em count.
    refusal_answers _ 2 c.refusal-in-None.result (name_nobody p o c.args.store.now c.args.regions.now c.args.pid c.args.index c.args.id es em count c.requires.caller.named c.requires.held c.in-None.ensures.none) c.refusal-in-None.ensures

pub returns-in-None-clause-matches : goal.returns-in-None-clause-matches
returns-in-None-clause-matches c = λ p o w x es em count at q.
    refusal_maps p c.args.regions.now w _ 2 em (name_nobody p o c.args.store.now c.args.regions.now c.args.pid c.args.index c.args.id es em count c.requires.caller.named c.requires.held c.in-None.ensures.none) q

pub returns-then-not-is_named-clause-more : goal.returns-then-not-is_named-clause-more
returns-then-not-is_named-clause-more c = shares_none c.args.store.now c.args.regions.now c.requires.caller.order

pub returns-in-None-clause-more : goal.returns-in-None-clause-more
returns-in-None-clause-more c = shares_none c.args.store.now c.args.regions.now c.requires.caller.order

pub returns-else-not-is_named-clause-more : goal.returns-else-not-is_named-clause-more
returns-else-not-is_named-clause-more c = record { still = c.share.ensures.still; limits = c.share.ensures.limits; places = c.share.ensures.places; processes = c.share.ensures.processes; goes_on = c.share.ensures.goes_on }
