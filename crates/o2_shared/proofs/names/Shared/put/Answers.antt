use Rattle.std.proofs.Common.{◌≡◌, ◌∙◌, ◌-◌, List, Option, Some, None, ap, set, subst, sym}
use Rattle.std.proofs.lemmas.List.{set-set}
use Rattle.o2_shared.specs.declared.names.Name.{Name}
use Rattle.o2_shared.specs.NameOrder.{LacksText}
use Rattle.o2_shared.specs.Texts.{without}
use Rattle.o2_shared.proofs.Leaving.{lacks_without}
use Rattle.o2_shared.proofs.names.Shared.put.Goals as goal

pub add-requires-clause-new : goal.add-requires-clause-new
add-requires-clause-new c =
    (let place = c.args.index - 4096 in
    let text = c.folded-text.result in
    let left : c.drop_place.new.names.items ≡ set (without text c.self.inside.names.items) place None = c.drop_place.ensures.names ∙ ap (λ (ns : List (Option Name)). set ns place None) c.drop_text.ensures.names in
    subst (λ (ns : List (Option Name)). LacksText ns text) (sym left) (lacks_without text c.self.inside.names.items place))

pub returns : goal.returns
returns c =
    (let place = c.args.index - 4096 in
    let text = c.folded-text.result in
    let left : c.drop_place.new.names.items ≡ set (without text c.self.inside.names.items) place None = c.drop_place.ensures.names ∙ ap (λ (ns : List (Option Name)). set ns place None) c.drop_text.ensures.names in
    let all : c.add.new.names.items ≡ set (without text c.self.inside.names.items) place (Some (record { text = text; id = c.args.id })) =
    c.add.ensures.names ∙ ap (λ (ns : List (Option Name)). set ns place (Some (record { text = text; id = c.args.id }))) left
    ∙ set-set (without text c.self.inside.names.items) place None (Some (record { text = text; id = c.args.id })) in
    rw (← c.self.view_is, ← c.folded-text.ensures) all)
