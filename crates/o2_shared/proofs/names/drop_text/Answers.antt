use Rattle.std.proofs.Common.{◌∙◌, List, ℕ, Option, subst, sym}
use Rattle.o2_shared.specs.declared.names.Name.{Name}
use Rattle.o2_shared.specs.NameOrder.{IsAt, IsGap, place_at}
use Rattle.o2_shared.proofs.Leaving.{without_nobody, without_one}
use Rattle.o2_shared.proofs.Ordered.{distinct, name_there, nobody_there}
use Rattle.o2_shared.proofs.names.drop_text.Goals as goal

pub returns-in-Ok-clause-names : goal.returns-in-Ok-clause-names
returns-in-Ok-clause-names c =
    (let names = c.args.names.now.items in
    let order = c.args.order.now.items in
    let text = c.args.text.now in
    let at = c.in-Ok.at in
    let is = subst (λ (ns : List (Option Name)). IsAt ns order text at) c.as_slice.ensures.value (subst (λ (os : List ℕ). IsAt c.as_slice.result.now os text at) c.as_slice-2.ensures.value c.in-Ok.ensures) in
    c.take_out.ensures.names ∙ without_one text names (place_at order at) (distinct names order c.requires) (name_there names order c.requires text at is))

pub returns-in_default-clause-names : goal.returns-in_default-clause-names
returns-in_default-clause-names c =
    (let names = c.args.names.now.items in
    let order = c.args.order.now.items in
    let text = c.args.text.now in
    let at = c.in_default.field-0 in
    let gap = subst (λ (ns : List (Option Name)). IsGap ns order text at) c.as_slice.ensures.value (subst (λ (os : List ℕ). IsGap c.as_slice.result.now os text at) c.as_slice-2.ensures.value c.in_default.ensures) in
    sym (without_nobody text names (nobody_there names order c.requires text at gap)))
