use Rattle.std.proofs.Common.{◌≡◌, ◌<◌, ◌∙◌, List, ℕ, None, Option, Some, ap, arith, length, rules, subst, sym}
use Rattle.std.proofs.lemmas.List.{get_or_default, length-map}
use Rattle.std.specs.Char.{to_ascii_lowercase}
use Rattle.o2_world.specs.SharedNames.{folded}
use Rattle.o2_shared.specs.declared.names.Name.{Name}
use Rattle.o2_shared.specs.NameOrder.{HasText, LacksText}
use Rattle.o2_shared.specs.Texts.{live_of}
use Rattle.o2_shared.proofs.Finding.{found_alive, found_dead, found_nowhere}
use Rattle.o2_shared.proofs.Ordered.{distinct, lacks_long, within_names}
use Rattle.o2_shared.proofs.names.Shared.find.Goals as goal

pub returns-then-name-gt-NAME_MOST-clause-found : goal.returns-then-name-gt-NAME_MOST-clause-found
returns-then-name-gt-NAME_MOST-clause-found c =
    let t = folded c.args.name.now in
    let l : length (folded c.args.name.now) ≡ length c.args.name.now = length-map c.args.name.now to_ascii_lowercase in
    let long : 128 < length (folded c.args.name.now) = omega (arith, l) in
    rw (← c.self.view_is) (sym (found_nowhere c.args.store.now t c.self.inside.names.items (lacks_long c.self.inside.names.items c.self.inside.order.items c.self.invariant.1 t long)))

pub returns-in_err-place-clause-found : goal.returns-in_err-place-clause-found
returns-in_err-place-clause-found c =
    let t = folded c.args.name.now in
    let lacks = subst (λ (ns : List (Option Name)). LacksText ns (folded c.args.name.now)) c.as_slice-names.ensures.value (subst (λ (u : List ℕ). LacksText c.as_slice-names.result.now u) c.folded-text.ensures c.in_err-place.ensures.none) in
    let nothing : c.from_residual.result ≡ None = search rules in
    rw (← c.self.view_is) (nothing ∙ sym (found_nowhere c.args.store.now t c.self.inside.names.items lacks))

pub bounds-names-place : goal.bounds-names-place
bounds-names-place c = (let has = c.in_ok-place.ensures.some in within_names c.as_slice-names.result.now c.in_ok-place.place has.name has.there)

pub returns-in_err-id-clause-found : goal.returns-in_err-id-clause-found
returns-in_err-id-clause-found c =
    let t = folded c.args.name.now in
    let names = c.self.inside.names.items in
    let place = c.in_ok-place.place in
    let has = subst (λ (ns : List (Option Name)). HasText ns (folded c.args.name.now) c.in_ok-place.place) c.as_slice-names.ensures.value (subst (λ (u : List ℕ). HasText c.as_slice-names.result.now u c.in_ok-place.place) c.folded-text.ensures c.in_ok-place.ensures.some) in
    let d = get_or_default names place c.index-names-place.result None (within_names names place has.name has.there) in
    let v = c.as_slice-names.ensures.value in
    let there = has.there in
    let is : c.index-names-place.result ≡ Some has.name = cc in
    let dead : live_of c.args.store.now (Some has.name) ≡ None = ap (live_of c.args.store.now) (sym is) ∙ sym c.in_err-id.ensures in
    let nothing : c.from_residual-in_err-id.result ≡ None = search rules in
    rw (← c.self.view_is) (nothing ∙ sym (found_dead c.args.store.now t names place has.name (distinct names c.self.inside.order.items c.self.invariant.1) has.there has.same dead))

pub returns-clause-found : goal.returns-clause-found
returns-clause-found c =
    let t = folded c.args.name.now in
    let names = c.self.inside.names.items in
    let place = c.in_ok-place.place in
    let has = subst (λ (ns : List (Option Name)). HasText ns (folded c.args.name.now) c.in_ok-place.place) c.as_slice-names.ensures.value (subst (λ (u : List ℕ). HasText c.as_slice-names.result.now u c.in_ok-place.place) c.folded-text.ensures c.in_ok-place.ensures.some) in
    let d = get_or_default names place c.index-names-place.result None (within_names names place has.name has.there) in
    let v = c.as_slice-names.ensures.value in
    let there = has.there in
    let is : c.index-names-place.result ≡ Some has.name = cc in
    let alive : live_of c.args.store.now (Some has.name) ≡ Some c.in_ok-id.id = ap (live_of c.args.store.now) (sym is) ∙ sym c.in_ok-id.ensures in
    rw (← c.self.view_is) (sym (found_alive c.args.store.now t names place has.name (distinct names c.self.inside.order.items c.self.invariant.1) has.there has.same c.in_ok-id.id alive))

pub returns-clause-index : goal.returns-clause-index
returns-clause-index c =
    let has = c.in_ok-place.ensures.some in
    let w = within_names c.as_slice-names.result.now c.in_ok-place.place has.name has.there in
    let v : length c.as_slice-names.result.now ≡ length c.self.inside.names.items = ap length c.as_slice-names.ensures.value in
    let n = c.self.invariant.0 in
    (omega arith, omega (arith, w, v, n))
