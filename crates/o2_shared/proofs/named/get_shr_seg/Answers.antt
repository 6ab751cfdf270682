use Rattle.std.proofs.Common.{subst, sym}
use Rattle.o2_segs.specs.Answers.{Answers}
use Rattle.o2_segs.proofs.Rows.{refusal_answers, refusal_maps}
use Rattle.o2_stands.specs.Knows.{known_in}
use Rattle.o2_stands.specs.Stands.{Matches}
use Rattle.o2_world.specs.Changes.{with_all}
use Rattle.o2_world.specs.Rulings.{Ruling}
use Rattle.o2_shared.proofs.ByName.{found_held, sharing_bad, sharing_none, sharing_some}
use Rattle.o2_shared.proofs.Holders.{shares_none}
use Rattle.o2_shared.proofs.named.get_shr_seg.Goals as goal

pub returns-then-not-is_name-clause-answer : goal.returns-then-not-is_name-clause-answer
returns-then-not-is_name-clause-answer c = λ p o es em count texts. refusal_answers _ 123 c.refusal.result (sharing_bad (known_in p o) c.args.pid c.args.name.now (sym c.if-not-is_name.ensures)) c.refusal.ensures

pub returns-then-not-is_name-clause-matches : goal.returns-then-not-is_name-clause-matches
returns-then-not-is_name-clause-matches c = λ p o w x es em count texts at q. refusal_maps p c.args.regions.now w _ 123 em (sharing_bad (known_in p o) c.args.pid c.args.name.now (sym c.if-not-is_name.ensures)) q

pub share_named-requires-clause-held : goal.share_named-requires-clause-held
share_named-requires-clause-held c = found_held c.args.store.now c.args.regions.now c.args.names.now _ (c.in-Some.index, c.in-Some.id) c.requires.places c.in-Some.ensures.found

pub returns-in-Some-clause-answer : goal.returns-in-Some-clause-answer
returns-in-Some-clause-answer c = λ p o es em count texts.
    subst (λ (r : Ruling). Answers r c.share_named.result)
    (sym (sharing_some p o c.args.store.now c.args.names.now c.args.pid c.args.name.now (sym c.if-not-is_name.ensures) texts (c.in-Some.index, c.in-Some.id) c.in-Some.ensures.found))
    (c.share_named.ensures.answer p o es em count)

pub returns-in-Some-clause-matches : goal.returns-in-Some-clause-matches
returns-in-Some-clause-matches c = λ p o w x es em count texts at q.
    subst (λ (r : Ruling). Matches (record p { maps = c.share_named.new.regions }) (with_all w r.changes))
    (sym (sharing_some p o c.args.store.now c.args.names.now c.args.pid c.args.name.now (sym c.if-not-is_name.ensures) texts (c.in-Some.index, c.in-Some.id) c.in-Some.ensures.found))
    (c.share_named.ensures.matches p o w x es em count at q)

pub returns-in-None-clause-answer : goal.returns-in-None-clause-answer
returns-in-None-clause-answer c = λ p o es em count texts.
    refusal_answers _ 2 c.refusal-in-None.result (sharing_none p o c.args.store.now c.args.names.now c.args.pid c.args.name.now (sym c.if-not-is_name.ensures) texts c.in-None.ensures.found) c.refusal-in-None.ensures

pub returns-in-None-clause-matches : goal.returns-in-None-clause-matches
returns-in-None-clause-matches c = λ p o w x es em count texts at q.
    refusal_maps p c.args.regions.now w _ 2 em (sharing_none p o c.args.store.now c.args.names.now c.args.pid c.args.name.now (sym c.if-not-is_name.ensures) texts c.in-None.ensures.found) q

pub returns-then-not-is_name-clause-more : goal.returns-then-not-is_name-clause-more
returns-then-not-is_name-clause-more c = shares_none c.args.store.now c.args.regions.now c.requires.caller.order

pub returns-in-None-clause-more : goal.returns-in-None-clause-more
returns-in-None-clause-more c = shares_none c.args.store.now c.args.regions.now c.requires.caller.order
