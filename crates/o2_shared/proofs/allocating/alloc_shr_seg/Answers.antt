use Rattle.std.proofs.Common.{None, subst, sym, ◌∙◌}
use Rattle.o2_stands.specs.Knows.{known_in}
use Rattle.o2_stands.specs.Stands.{Matches}
use Rattle.o2_world.specs.Changes.{with_all}
use Rattle.o2_world.specs.Known.{text_name}
use Rattle.o2_world.specs.Rulings.{Ruling}
use Rattle.o2_world.specs.SharedNames.{folded}
use Rattle.o2_segs.specs.Answers.{Answers}
use Rattle.o2_segs.proofs.Limits.{entries_refl, limits_more, limits_refl}
use Rattle.o2_segs.proofs.Rows.{refusal_answers, refusal_matches}
use Rattle.o2_shared.specs.Texts.{AreOnce, AreTexts}
use Rattle.o2_shared.proofs.NewNames.{found_nothing, name_short, naming_bad, naming_known, naming_new, once_none, text_known, text_new, texts_none, to_none}
use Rattle.o2_changes.proofs.Framing.{order_refl}
use Rattle.o2_shared.proofs.allocating.alloc_shr_seg.Goals as goal

pub returns-then-not-is_name-clause-answer : goal.returns-then-not-is_name-clause-answer
returns-then-not-is_name-clause-answer c = λ p o es em texts. refusal_answers _ 123 c.refusal.result (naming_bad (known_in p o) c.args.pid c.args.size c.args.name.now (sym c.if-not-is_name.ensures)) c.refusal.ensures

pub returns-then-not-is_name-clause-matches : goal.returns-then-not-is_name-clause-matches
returns-then-not-is_name-clause-matches c = λ p o w x es em texts at q. refusal_matches p c.args.store.now c.args.regions.now w _ 123 es em (naming_bad (known_in p o) c.args.pid c.args.size c.args.name.now (sym c.if-not-is_name.ensures)) q

pub returns-then-not-is_name-clause-texts : goal.returns-then-not-is_name-clause-texts
returns-then-not-is_name-clause-texts c = λ p o w es em texts was. texts_none c.args.store.now c.args.names.now w _ 123 (naming_bad (known_in p o) c.args.pid c.args.size c.args.name.now (sym c.if-not-is_name.ensures)) was

pub returns-then-not-is_name-clause-limits : goal.returns-then-not-is_name-clause-limits
returns-then-not-is_name-clause-limits c = limits_more c.args.store.now c.args.store.now c.args.regions.now c.args.regions.now 0 1 (limits_refl c.args.store.now c.args.regions.now)

pub returns-then-not-is_name-clause-entries : goal.returns-then-not-is_name-clause-entries
returns-then-not-is_name-clause-entries c = entries_refl c.args.store.now

pub returns-then-is_some-clause-answer : goal.returns-then-is_some-clause-answer
returns-then-is_some-clause-answer c = λ p o es em texts.
    refusal_answers _ 183 c.refusal-then-is_some.result
    (naming_known (known_in p o) c.args.pid c.args.size c.args.name.now (sym c.if-not-is_name.ensures) (text_known c.args.store.now c.args.names.now o.text (folded c.args.name.now) c.find.result texts c.find.ensures.found (sym c.if-is_some.ensures))) c.refusal-then-is_some.ensures

pub returns-then-is_some-clause-matches : goal.returns-then-is_some-clause-matches
returns-then-is_some-clause-matches c = λ p o w x es em texts at q.
    refusal_matches p c.args.store.now c.args.regions.now w _ 183 es em
    (naming_known (known_in p o) c.args.pid c.args.size c.args.name.now (sym c.if-not-is_name.ensures) (text_known c.args.store.now c.args.names.now o.text (folded c.args.name.now) c.find.result texts c.find.ensures.found (sym c.if-is_some.ensures))) q

pub returns-then-is_some-clause-texts : goal.returns-then-is_some-clause-texts
returns-then-is_some-clause-texts c = λ p o w es em texts was.
    texts_none c.args.store.now c.args.names.now w _ 183
    (naming_known (known_in p o) c.args.pid c.args.size c.args.name.now (sym c.if-not-is_name.ensures) (text_known c.args.store.now c.args.names.now o.text (folded c.args.name.now) c.find.result texts c.find.ensures.found (sym c.if-is_some.ensures))) was

pub returns-then-is_some-clause-limits : goal.returns-then-is_some-clause-limits
returns-then-is_some-clause-limits c = limits_more c.args.store.now c.args.store.now c.args.regions.now c.args.regions.now 0 1 (limits_refl c.args.store.now c.args.regions.now)

pub returns-then-is_some-clause-entries : goal.returns-then-is_some-clause-entries
returns-then-is_some-clause-entries c = entries_refl c.args.store.now

pub make_named-requires-clause-short : goal.make_named-requires-clause-short
make_named-requires-clause-short c = name_short c.args.name.now (sym c.if-not-is_name.ensures)

pub make_named-requires-clause-new : goal.make_named-requires-clause-new
make_named-requires-clause-new c = found_nothing c.find.result _ c.find.ensures.found (sym c.if-is_some.ensures)

pub returns-in-Some-clause-answer : goal.returns-in-Some-clause-answer
returns-in-Some-clause-answer c = λ p o es em texts.
    subst (λ (r : Ruling). Answers r c.make_named.result)
    (sym (naming_new p o c.args.regions.now c.args.pid c.args.size c.args.name.now _ (sym c.if-not-is_name.ensures)
    (text_new c.args.store.now c.args.names.now o.text (folded c.args.name.now) texts
    (found_nothing c.find.result _ c.find.ensures.found (sym c.if-is_some.ensures))) em c.in-Some.ensures.lowest))
    (c.make_named.ensures.answer p o es)

pub returns-in-Some-clause-matches : goal.returns-in-Some-clause-matches
returns-in-Some-clause-matches c = λ p o w x es em texts at q.
    subst (λ (r : Ruling). Matches (record p { shelf = c.make_named.new.store; maps = c.make_named.new.regions }) (with_all w r.changes))
    (sym (naming_new p o c.args.regions.now c.args.pid c.args.size c.args.name.now _ (sym c.if-not-is_name.ensures)
    (text_new c.args.store.now c.args.names.now o.text (folded c.args.name.now) texts
    (found_nothing c.find.result _ c.find.ensures.found (sym c.if-is_some.ensures))) em c.in-Some.ensures.lowest))
    (c.make_named.ensures.matches p o w x es em at q)

pub returns-in-Some-clause-texts : goal.returns-in-Some-clause-texts
returns-in-Some-clause-texts c = λ p o w es em texts was.
    subst (λ (r : Ruling). AreTexts c.make_named.new.store c.make_named.new.names (text_name (with_all w r.changes).texts))
    (sym (naming_new p o c.args.regions.now c.args.pid c.args.size c.args.name.now _ (sym c.if-not-is_name.ensures)
    (text_new c.args.store.now c.args.names.now o.text (folded c.args.name.now) texts
    (found_nothing c.find.result _ c.find.ensures.found (sym c.if-is_some.ensures))) em c.in-Some.ensures.lowest))
    (c.make_named.ensures.texts p o w es was)

pub returns-in-None-clause-answer : goal.returns-in-None-clause-answer
returns-in-None-clause-answer c = λ p o es em texts.
    refusal_answers _ 8 c.refusal-in-None.result
    (naming_new p o c.args.regions.now c.args.pid c.args.size c.args.name.now None (sym c.if-not-is_name.ensures)
    (text_new c.args.store.now c.args.names.now o.text (folded c.args.name.now) texts
    (found_nothing c.find.result _ c.find.ensures.found (sym c.if-is_some.ensures))) em c.in-None.ensures.lowest
    ∙ to_none (known_in p o) c.args.pid c.args.size (folded c.args.name.now)) c.refusal-in-None.ensures

pub returns-in-None-clause-matches : goal.returns-in-None-clause-matches
returns-in-None-clause-matches c = λ p o w x es em texts at q.
    refusal_matches p c.args.store.now c.args.regions.now w _ 8 es em
    (naming_new p o c.args.regions.now c.args.pid c.args.size c.args.name.now None (sym c.if-not-is_name.ensures)
    (text_new c.args.store.now c.args.names.now o.text (folded c.args.name.now) texts
    (found_nothing c.find.result _ c.find.ensures.found (sym c.if-is_some.ensures))) em c.in-None.ensures.lowest
    ∙ to_none (known_in p o) c.args.pid c.args.size (folded c.args.name.now)) q

pub returns-in-None-clause-texts : goal.returns-in-None-clause-texts
returns-in-None-clause-texts c = λ p o w es em texts was.
    texts_none c.args.store.now c.args.names.now w _ 8
    (naming_new p o c.args.regions.now c.args.pid c.args.size c.args.name.now None (sym c.if-not-is_name.ensures)
    (text_new c.args.store.now c.args.names.now o.text (folded c.args.name.now) texts
    (found_nothing c.find.result _ c.find.ensures.found (sym c.if-is_some.ensures))) em c.in-None.ensures.lowest
    ∙ to_none (known_in p o) c.args.pid c.args.size (folded c.args.name.now)) was

pub returns-in-None-clause-limits : goal.returns-in-None-clause-limits
returns-in-None-clause-limits c = limits_more c.args.store.now c.args.store.now c.args.regions.now c.args.regions.now 0 1 (limits_refl c.args.store.now c.args.regions.now)

pub returns-in-None-clause-entries : goal.returns-in-None-clause-entries
returns-in-None-clause-entries c = entries_refl c.args.store.now

pub returns-then-not-is_name-clause-once : goal.returns-then-not-is_name-clause-once
returns-then-not-is_name-clause-once c = λ p o w es em texts was once. once_none w _ 123 (naming_bad (known_in p o) c.args.pid c.args.size c.args.name.now (sym c.if-not-is_name.ensures)) once

pub returns-then-is_some-clause-once : goal.returns-then-is_some-clause-once
returns-then-is_some-clause-once c = λ p o w es em texts was once.
    once_none w _ 183
    (naming_known (known_in p o) c.args.pid c.args.size c.args.name.now (sym c.if-not-is_name.ensures) (text_known c.args.store.now c.args.names.now o.text (folded c.args.name.now) c.find.result texts c.find.ensures.found (sym c.if-is_some.ensures))) once

pub returns-in-Some-clause-once : goal.returns-in-Some-clause-once
returns-in-Some-clause-once c = λ p o w es em texts was once.
    subst (λ (r : Ruling). AreOnce (with_all w r.changes).texts)
    (sym (naming_new p o c.args.regions.now c.args.pid c.args.size c.args.name.now _ (sym c.if-not-is_name.ensures)
    (text_new c.args.store.now c.args.names.now o.text (folded c.args.name.now) texts
    (found_nothing c.find.result _ c.find.ensures.found (sym c.if-is_some.ensures))) em c.in-Some.ensures.lowest))
    (c.make_named.ensures.once p o w es was once)

pub returns-in-None-clause-once : goal.returns-in-None-clause-once
returns-in-None-clause-once c = λ p o w es em texts was once.
    once_none w _ 8
    (naming_new p o c.args.regions.now c.args.pid c.args.size c.args.name.now None (sym c.if-not-is_name.ensures)
    (text_new c.args.store.now c.args.names.now o.text (folded c.args.name.now) texts
    (found_nothing c.find.result _ c.find.ensures.found (sym c.if-is_some.ensures))) em c.in-None.ensures.lowest
    ∙ to_none (known_in p o) c.args.pid c.args.size (folded c.args.name.now)) once

pub returns-then-not-is_name-clause-goes_on : goal.returns-then-not-is_name-clause-goes_on
returns-then-not-is_name-clause-goes_on c = order_refl c.args.store.now c.args.regions.now c.requires.order

pub returns-then-is_some-clause-goes_on : goal.returns-then-is_some-clause-goes_on
returns-then-is_some-clause-goes_on c = order_refl c.args.store.now c.args.regions.now c.requires.order

pub returns-in-None-clause-goes_on : goal.returns-in-None-clause-goes_on
returns-in-None-clause-goes_on c = order_refl c.args.store.now c.args.regions.now c.requires.order
