use Rattle.std.proofs.Common.{◌≡◌, IsSome, ◌+◌, ◌-◌, ◌<◌, List, Option, Some, length, set, true, refl, ap, sym, ◌∙◌, subst, arith}
use Rattle.o2_entries.specs.declared.Entry.{Entry}
use Rattle.o2_regions.specs.Maps.{Maps}
use Rattle.o2_store.specs.Shelf.{Shelf, place_of}
use Rattle.o2_changes.specs.Worlds.{new_segment}
use Rattle.o2_stands.specs.Knows.{known_in}
use Rattle.o2_stands.specs.Stands.{Matches}
use Rattle.o2_world.specs.Changes.{Makes, with_all, with_change}
use Rattle.o2_world.specs.Known.{text_name}
use Rattle.o2_world.specs.SharedNames.{folded}
use Rattle.o2_segs.proofs.Limits.{entries_added, entries_same, limits_added, limits_held, limits_more, limits_same, limits_then}
use Rattle.o2_segs.proofs.Making.{added_entry, added_place, new_name}
use Rattle.o2_segs.proofs.Sharing.{new_made}
use Rattle.o2_segs.proofs.Rows.{done_answers, refusal_answers, refusal_matches}
use Rattle.o2_shared.specs.declared.names.Name.{Name}
use Rattle.o2_shared.specs.Shares.{naming_to}
use Rattle.o2_shared.specs.Texts.{AreInPlace, AreTexts, without}
use Rattle.o2_shared.proofs.Leaving.{length-without, none_without, places_without, texts_without}
use Rattle.o2_shared.proofs.NewNames.{named_matches, named_once, named_texts, new_places, new_texts, once_none, run_shared, text_new, texts_none, to_full, to_some}
use Rattle.o2_shared.proofs.Shares.{value_is}
use Rattle.o2_changes.proofs.Framing.{order_trans}
use Rattle.o2_shared.proofs.allocating.make_named.Goals as goal

pub hold_named-requires-clause-plain : goal.hold_named-requires-clause-plain
hold_named-requires-clause-plain c = ap (λ (x : Entry). x.attr.clean) (added_entry c.args.store.now c.make.new.store c.in-Some.id _ c.in-Some.ensures.added)

pub returns-in-Some-clause-answer : goal.returns-in-Some-clause-answer
returns-in-Some-clause-answer c = λ p o es.
    done_answers _ _ _ c.done.result (to_some p o c.args.store.now c.make.new.store c.in-Some.id _ c.args.pid c.args.size c.args.index (folded c.args.name.now) es c.in-Some.ensures.added)
    (value_is c.done.result c.selector_at.result _ c.done.ensures c.selector_at.ensures)

pub returns-in-Some-clause-matches : goal.returns-in-Some-clause-matches
returns-in-Some-clause-matches c = λ p o w x es em at q.
    (let s = c.args.store.now in
    let t = c.make.new.store in
    let adds = c.in-Some.ensures.added in
    named_matches p w x s t c.args.regions.now c.hold_named.new.regions c.in-Some.id c.args.pid c.args.size c.full_size.result c.args.index (folded c.args.name.now) _
    (to_some p o s t c.in-Some.id _ c.args.pid c.args.size c.args.index (folded c.args.name.now) es adds) (new_name p w s t c.in-Some.id _ es adds q.made).1 c.full_size.ensures.size c.in-Some.ensures.live c.hold_named.ensures.matches at
    (subst (λ (y : Maps). Matches (record p { shelf = t; maps = y }) (with_change w (Makes (new_segment c.full_size.result 0 true)))) em (c.in-Some.ensures.matches.world p w es em q)))

pub returns-in-Some-clause-texts : goal.returns-in-Some-clause-texts
returns-in-Some-clause-texts c = λ p o w es was.
    (let s = c.args.store.now in
    let t = c.make.new.store in
    let m = c.args.regions.now in
    let i = c.args.index in
    let name = folded c.args.name.now in
    let adds = c.in-Some.ensures.added in
    let run = c.requires.free in
    let index : i ≡ 4096 + (i - 4096) = (let l = run.0 in omega (arith, l)) in
    let long : i - 4096 < length (without name c.args.names.now) = (let l = run.1 in omega (arith, l, c.law-2.ensures.indexes, length-without name c.args.names.now)) in
    subst (λ (x : List (Option Name)). AreTexts t x (text_name (with_all w (naming_to (known_in p o) c.args.pid c.args.size name (Some i)).changes).texts)) (sym c.put.ensures)
    (named_texts t (set (without name c.args.names.now) (i - 4096) (Some (record { text = name; id = c.in-Some.id }))) w c.args.pid c.args.size i c.in-Some.id.age _ name _ (to_some p o s t c.in-Some.id _ c.args.pid c.args.size i name es adds)
    (new_texts s t m c.hold_named.new.regions c.in-Some.id _ (without name c.args.names.now) (i - 4096) c.args.pid i name adds refl (places_without s m name c.args.names.now c.requires.places) index long run c.law.ensures c.in-Some.ensures.unheld
    (none_without s name c.args.names.now c.requires.new) c.in-Some.ensures.live c.hold_named.ensures.grants c.hold_named.ensures.holds w.texts (texts_without s name c.args.names.now (text_name w.texts) c.requires.new was))))

pub returns-in-Some-clause-places : goal.returns-in-Some-clause-places
returns-in-Some-clause-places c =
    let s = c.args.store.now in
    let t = c.make.new.store in
    let m = c.args.regions.now in
    let i = c.args.index in
    let name = folded c.args.name.now in
    let run = c.requires.free in
    let index : i ≡ 4096 + (i - 4096) = (let l = run.0 in omega (arith, l)) in
    let long : i - 4096 < length (without name c.args.names.now) = (let l = run.1 in omega (arith, l, c.law-2.ensures.indexes, length-without name c.args.names.now)) in
    subst (AreInPlace t c.hold_named.new.regions) (sym c.put.ensures)
    (new_places s t m c.hold_named.new.regions c.in-Some.id _ (without name c.args.names.now) (i - 4096) c.args.pid i name c.in-Some.ensures.added refl (places_without s m name c.args.names.now c.requires.places) index long run c.law.ensures c.in-Some.ensures.unheld
    (none_without s name c.args.names.now c.requires.new) c.in-Some.ensures.live c.hold_named.ensures.grants c.hold_named.ensures.holds)

pub returns-in-Some-clause-limits : goal.returns-in-Some-clause-limits
returns-in-Some-clause-limits c =
    limits_then c.args.store.now c.make.new.store c.make.new.store c.args.regions.now c.args.regions.now c.hold_named.new.regions 1 0 (limits_added c.args.store.now c.make.new.store c.args.regions.now c.in-Some.id _ refl c.in-Some.ensures.added)
    (limits_held c.make.new.store c.args.regions.now c.hold_named.new.regions c.args.pid c.args.index _ _ refl
    (new_made c.args.regions.now c.args.pid c.args.index c.in-Some.id c.law.ensures
    (run_shared c.args.regions.now c.args.pid c.args.index c.requires.free) c.in-Some.ensures.unheld) c.hold_named.ensures.grants)

pub returns-in-Some-clause-entries : goal.returns-in-Some-clause-entries
returns-in-Some-clause-entries c = entries_added c.args.store.now c.make.new.store c.in-Some.id _ c.in-Some.ensures.added

pub returns-in-None-clause-answer : goal.returns-in-None-clause-answer
returns-in-None-clause-answer c = λ p o es. refusal_answers _ 8 c.refusal.result (to_full p o c.args.store.now c.args.pid c.args.size c.args.index (folded c.args.name.now) es c.in-None.ensures.none.0) c.refusal.ensures

pub returns-in-None-clause-matches : goal.returns-in-None-clause-matches
returns-in-None-clause-matches c = λ p o w x es em at q.
    refusal_matches p c.make.new.store c.args.regions.now w _ 8 (es ∙ sym c.in-None.ensures.none.1) em (to_full p o c.args.store.now c.args.pid c.args.size c.args.index (folded c.args.name.now) es c.in-None.ensures.none.0) q

pub returns-in-None-clause-texts : goal.returns-in-None-clause-texts
returns-in-None-clause-texts c = λ p o w es was.
    subst (λ (x : Shelf). AreTexts x c.args.names.now (text_name (with_all w (naming_to (known_in p o) c.args.pid c.args.size (folded c.args.name.now) (Some c.args.index)).changes).texts)) (sym c.in-None.ensures.none.1)
    (texts_none c.args.store.now c.args.names.now w _ 8 (to_full p o c.args.store.now c.args.pid c.args.size c.args.index (folded c.args.name.now) es c.in-None.ensures.none.0) was)

pub returns-in-None-clause-places : goal.returns-in-None-clause-places
returns-in-None-clause-places c = subst (λ (x : Shelf). AreInPlace x c.args.regions.now c.args.names.now) (sym c.in-None.ensures.none.1) c.requires.places

pub returns-in-None-clause-limits : goal.returns-in-None-clause-limits
returns-in-None-clause-limits c = limits_more c.args.store.now c.make.new.store c.args.regions.now c.args.regions.now 0 1 (limits_same c.args.store.now c.make.new.store c.args.regions.now c.args.regions.now c.in-None.ensures.none.1 refl)

pub returns-in-None-clause-entries : goal.returns-in-None-clause-entries
returns-in-None-clause-entries c = entries_same c.args.store.now c.make.new.store c.in-None.ensures.none.1

pub returns-in-Some-clause-once : goal.returns-in-Some-clause-once
returns-in-Some-clause-once c = λ p o w es was once.
    named_once w c.args.pid c.args.size c.args.index c.in-Some.id.age _ (folded c.args.name.now) _ (to_some p o c.args.store.now c.make.new.store c.in-Some.id _ c.args.pid c.args.size c.args.index (folded c.args.name.now) es c.in-Some.ensures.added)
    (text_new c.args.store.now c.args.names.now (text_name w.texts) (folded c.args.name.now) was c.requires.new) once

pub returns-in-None-clause-once : goal.returns-in-None-clause-once
returns-in-None-clause-once c = λ p o w es was once. once_none w _ 8 (to_full p o c.args.store.now c.args.pid c.args.size c.args.index (folded c.args.name.now) es c.in-None.ensures.none.0) once

pub returns-in-Some-clause-kept : goal.returns-in-Some-clause-kept
returns-in-Some-clause-kept c = λ k here. added_place c.args.store.now c.make.new.store c.in-Some.id _ k c.in-Some.ensures.added here

pub returns-in-None-clause-kept : goal.returns-in-None-clause-kept
returns-in-None-clause-kept c = λ k here. subst (λ (x : Shelf). IsSome (place_of x k)) (sym c.in-None.ensures.none.1) here

pub returns-in-Some-clause-goes_on : goal.returns-in-Some-clause-goes_on
returns-in-Some-clause-goes_on c = order_trans c.args.store.now c.make.new.store c.make.new.store c.args.regions.now c.args.regions.now c.hold_named.new.regions c.make.ensures.goes_on c.hold_named.ensures.goes_on

pub returns-in-None-clause-goes_on : goal.returns-in-None-clause-goes_on
returns-in-None-clause-goes_on c = c.make.ensures.goes_on
