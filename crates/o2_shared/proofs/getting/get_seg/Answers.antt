use Rattle.std.proofs.Common.{sym}
use Rattle.o2_segs.proofs.Rows.{done_answers, refusal_answers, refusal_maps}
use Rattle.o2_shared.proofs.Shares.{all_called, get_done, get_far, get_is, get_nobody, get_refused, shares_match}
use Rattle.o2_stands.specs.Knows.{known_in}
use Rattle.o2_shared.proofs.Holders.{shares_none}
use Rattle.o2_shared.proofs.getting.get_seg.Goals as goal

pub returns-then-not-is_local-clause-matches : goal.returns-then-not-is_local-clause-matches
returns-then-not-is_local-clause-matches c = λ p o w x es em count at q. refusal_maps p c.args.regions.now w _ 5 em (get_far (known_in p o) c.args.pid c.args.sel (sym c.if-not-is_local.ensures)) q

pub returns-then-not-may_be_shared-clause-answer : goal.returns-then-not-may_be_shared-clause-answer
returns-then-not-may_be_shared-clause-answer c = λ p o es em count.
    (let g = get_is p o c.args.store.now c.args.regions.now c.args.pid c.args.sel c.index-index.result c.index-index.ensures (sym c.if-not-is_local.ensures) es em count c.in-Some.from c.in-Some.held c.in-Some.ensures.first c.in-Some.ensures.held c.requires.caller.named in
    refusal_answers _ 5 c.refusal-then-not-may_be_shared.result (get_refused _ _ _ g (sym c.if-not-may_be_shared.ensures)) c.refusal-then-not-may_be_shared.ensures)

pub returns-then-not-may_be_shared-clause-matches : goal.returns-then-not-may_be_shared-clause-matches
returns-then-not-may_be_shared-clause-matches c = λ p o w x es em count at q.
    (let g = get_is p o c.args.store.now c.args.regions.now c.args.pid c.args.sel c.index-index.result c.index-index.ensures (sym c.if-not-is_local.ensures) es em count c.in-Some.from c.in-Some.held c.in-Some.ensures.first c.in-Some.ensures.held c.requires.caller.named in
    refusal_maps p c.args.regions.now w _ 5 em (get_refused _ _ _ g (sym c.if-not-may_be_shared.ensures)) q)

pub returns-else-not-may_be_shared-clause-answer : goal.returns-else-not-may_be_shared-clause-answer
returns-else-not-may_be_shared-clause-answer c = λ p o es em count.
    (let g = get_is p o c.args.store.now c.args.regions.now c.args.pid c.args.sel c.index-index.result c.index-index.ensures (sym c.if-not-is_local.ensures) es em count c.in-Some.from c.in-Some.held c.in-Some.ensures.first c.in-Some.ensures.held c.requires.caller.named in
    done_answers _ _ 0 c.done.result (get_done _ _ _ g (sym c.if-not-may_be_shared.ensures)) c.done.ensures)

pub returns-else-not-may_be_shared-clause-matches : goal.returns-else-not-may_be_shared-clause-matches
returns-else-not-may_be_shared-clause-matches c = λ p o w x es em count at q.
    (let g = get_is p o c.args.store.now c.args.regions.now c.args.pid c.args.sel c.index-index.result c.index-index.ensures (sym c.if-not-is_local.ensures) es em count c.in-Some.from c.in-Some.held c.in-Some.ensures.first c.in-Some.ensures.held c.requires.caller.named in
    shares_match p o c.args.store.now c.args.regions.now c.share_all.new.regions c.in-Some.from c.args.pid 0 _ _ w x c.share_all.ensures.matches es em (get_done _ _ _ g (sym c.if-not-may_be_shared.ensures)) at q)

pub share_all-requires-clause-shared : goal.share_all-requires-clause-shared
share_all-requires-clause-shared c = all_called c.args.store.now c.args.regions.now 1 c.in-Some.from c.index-index.result c.in-Some.held c.in-Some.ensures.held (sym c.if-not-may_be_shared.ensures)

pub returns-in-None-clause-answer : goal.returns-in-None-clause-answer
returns-in-None-clause-answer c = λ p o es em count.
    refusal_answers _ 5 c.refusal-in-None.result
    (get_nobody p o c.args.store.now c.args.regions.now c.args.pid c.args.sel c.index-index.result c.index-index.ensures (sym c.if-not-is_local.ensures) es em count c.in-None.ensures.none) c.refusal-in-None.ensures

pub returns-in-None-clause-matches : goal.returns-in-None-clause-matches
returns-in-None-clause-matches c = λ p o w x es em count at q.
    refusal_maps p c.args.regions.now w _ 5 em
    (get_nobody p o c.args.store.now c.args.regions.now c.args.pid c.args.sel c.index-index.result c.index-index.ensures (sym c.if-not-is_local.ensures) es em count c.in-None.ensures.none) q

pub returns-then-not-is_local-clause-more : goal.returns-then-not-is_local-clause-more
returns-then-not-is_local-clause-more c = shares_none c.args.store.now c.args.regions.now c.requires.caller.order

pub returns-then-not-may_be_shared-clause-more : goal.returns-then-not-may_be_shared-clause-more
returns-then-not-may_be_shared-clause-more c = shares_none c.args.store.now c.args.regions.now c.requires.caller.order

pub returns-in-None-clause-more : goal.returns-in-None-clause-more
returns-in-None-clause-more c = shares_none c.args.store.now c.args.regions.now c.requires.caller.order
