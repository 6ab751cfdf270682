use Rattle.std.proofs.Common.{ℕ, ◌≡◌, Some, ◌∙◌, subst, sym}
use Rattle.o2_regions.specs.Maps.{held_at}
use Rattle.o2_segs.proofs.Rows.{done_answers, refusal_answers, refusal_maps}
use Rattle.o2_segs.proofs.Selecting.{under_held}
use Rattle.o2_shared.proofs.Shares.{all_called, give_dead, give_done, give_is, give_kept, give_none, shares_match, there_by, value_is}
use Rattle.o2_shared.proofs.Holders.{shares_none}
use Rattle.o2_shared.proofs.giving.give_seg.Goals as goal

pub returns-then-not-may_be_shared-clause-answer : goal.returns-then-not-may_be_shared-clause-answer
returns-then-not-may_be_shared-clause-answer c = λ p o es em marked.
    refusal_answers _ 5 c.refusal.result
    (give_kept p o c.args.store.now c.args.regions.now c.args.pid c.args.sel c.args.to c.index-index.result c.in-Some.held c.index-index.ensures es em c.requires.caller.named (sym c.in-Some.ensures) (sym c.if-not-may_be_shared.ensures)) c.refusal.ensures

pub returns-then-not-may_be_shared-clause-matches : goal.returns-then-not-may_be_shared-clause-matches
returns-then-not-may_be_shared-clause-matches c = λ p o w es em marked q.
    refusal_maps p c.args.regions.now w _ 5 em
    (give_kept p o c.args.store.now c.args.regions.now c.args.pid c.args.sel c.args.to c.index-index.result c.in-Some.held c.index-index.ensures es em c.requires.caller.named (sym c.in-Some.ensures) (sym c.if-not-may_be_shared.ensures)) q

pub returns-then-not-is_live-clause-answer : goal.returns-then-not-is_live-clause-answer
returns-then-not-is_live-clause-answer c = λ p o es em marked.
    (let g = give_is p o c.args.store.now c.args.regions.now c.args.pid c.args.sel c.args.to c.index-index.result c.in-Some.held c.index-index.ensures es em c.requires.caller.named (sym c.in-Some.ensures) in
    refusal_answers _ 303 c.refusal-then-not-is_live.result (give_dead _ _ _ _ _ g (sym c.if-not-may_be_shared.ensures) (sym (marked c.args.to) ∙ sym c.if-not-is_live.ensures)) c.refusal-then-not-is_live.ensures)

pub returns-then-not-is_live-clause-matches : goal.returns-then-not-is_live-clause-matches
returns-then-not-is_live-clause-matches c = λ p o w es em marked q.
    (let g = give_is p o c.args.store.now c.args.regions.now c.args.pid c.args.sel c.args.to c.index-index.result c.in-Some.held c.index-index.ensures es em c.requires.caller.named (sym c.in-Some.ensures) in
    refusal_maps p c.args.regions.now w _ 303 em (give_dead _ _ _ _ _ g (sym c.if-not-may_be_shared.ensures) (sym (marked c.args.to) ∙ sym c.if-not-is_live.ensures)) q)

pub returns-else-not-is_live-clause-answer : goal.returns-else-not-is_live-clause-answer
returns-else-not-is_live-clause-answer c = λ p o es em marked.
    (let g = give_is p o c.args.store.now c.args.regions.now c.args.pid c.args.sel c.args.to c.index-index.result c.in-Some.held c.index-index.ensures es em c.requires.caller.named (sym c.in-Some.ensures) in
    done_answers _ _ _ c.done.result (give_done _ _ _ _ _ g (sym c.if-not-may_be_shared.ensures) (sym (marked c.args.to) ∙ sym c.if-not-is_live.ensures)) (value_is c.done.result c.selector_at.result _ c.done.ensures c.selector_at.ensures))

pub returns-else-not-is_live-clause-matches : goal.returns-else-not-is_live-clause-matches
returns-else-not-is_live-clause-matches c = λ p o w es em marked q.
    (let m = c.args.regions.now in
    let i = c.index-index.result in
    let h = c.in-Some.held in
    let lives = sym (marked c.args.to) ∙ sym c.if-not-is_live.ensures in
    let g = give_is p o c.args.store.now m c.args.pid c.args.sel c.args.to i h c.index-index.ensures es em c.requires.caller.named (sym c.in-Some.ensures) in
    let t = there_by p w c.args.to q lives in
    shares_match p o c.args.store.now m c.share_all.new.regions c.args.pid c.args.to _ _ _ w t.0 c.share_all.ensures.matches es em
    (give_done _ _ _ _ _ g (sym c.if-not-may_be_shared.ensures) lives) t.1 q)

pub returns-in-None-clause-answer : goal.returns-in-None-clause-answer
returns-in-None-clause-answer c = λ p o es em marked. refusal_answers _ 5 c.refusal-in-None.result (give_none p o c.args.regions.now c.args.pid c.args.sel c.args.to em (sym c.in-None.ensures)) c.refusal-in-None.ensures

pub returns-in-None-clause-matches : goal.returns-in-None-clause-matches
returns-in-None-clause-matches c = λ p o w es em marked q. refusal_maps p c.args.regions.now w _ 5 em (give_none p o c.args.regions.now c.args.pid c.args.sel c.args.to em (sym c.in-None.ensures)) q

pub may_be_shared-requires-clause-held : goal.may_be_shared-requires-clause-held
may_be_shared-requires-clause-held c =
    subst (λ (j : ℕ). held_at c.args.regions.now c.args.pid j ≡ Some c.in-Some.held) (sym c.index-index.ensures) (under_held c.args.regions.now c.args.pid c.args.sel c.in-Some.held (sym c.in-Some.ensures)).1

pub share_all-requires-clause-held : goal.share_all-requires-clause-held
share_all-requires-clause-held c =
    subst (λ (j : ℕ). held_at c.args.regions.now c.args.pid j ≡ Some c.in-Some.held) (sym c.index-index.ensures) (under_held c.args.regions.now c.args.pid c.args.sel c.in-Some.held (sym c.in-Some.ensures)).1

pub share_all-requires-clause-shared : goal.share_all-requires-clause-shared
share_all-requires-clause-shared c =
    all_called c.args.store.now c.args.regions.now 0 c.args.pid c.index-index.result c.in-Some.held
    (subst (λ (j : ℕ). held_at c.args.regions.now c.args.pid j ≡ Some c.in-Some.held) (sym c.index-index.ensures) (under_held c.args.regions.now c.args.pid c.args.sel c.in-Some.held (sym c.in-Some.ensures)).1)
    (sym c.if-not-may_be_shared.ensures)

pub returns-then-not-may_be_shared-clause-more : goal.returns-then-not-may_be_shared-clause-more
returns-then-not-may_be_shared-clause-more c = shares_none c.args.store.now c.args.regions.now c.requires.caller.order

pub returns-then-not-is_live-clause-more : goal.returns-then-not-is_live-clause-more
returns-then-not-is_live-clause-more c = shares_none c.args.store.now c.args.regions.now c.requires.caller.order

pub returns-in-None-clause-more : goal.returns-in-None-clause-more
returns-in-None-clause-more c = shares_none c.args.store.now c.args.regions.now c.requires.caller.order
