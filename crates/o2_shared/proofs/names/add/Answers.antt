use Rattle.std.proofs.Common.{List, ℕ, Option, Some, arith, set, subst, sym}
use Rattle.o2_shared.specs.declared.names.Name.{Name}
use Rattle.o2_shared.specs.NameOrder.{IsAt, IsGap, IsOrdered}
use Rattle.o2_shared.proofs.Ordered.{few, name_there, put_in}
use Rattle.o2_shared.proofs.names.add.Goals as goal

pub insert_at-requires-clause-room : goal.insert_at-requires-clause-room
insert_at-requires-clause-room c =
    (let l = few c.args.names.now.items c.args.order.now.items c.requires.ordered c.args.place c.requires.within c.requires.free in
    let r = c.requires.room in
    omega (arith, l, r))

pub returns-in-Err-clause-ordered : goal.returns-in-Err-clause-ordered
returns-in-Err-clause-ordered c =
    (let names = c.args.names.now.items in
    let order = c.args.order.now.items in
    let gap = subst (λ (ns : List (Option Name)). IsGap ns order c.args.name.text c.in-Err.at) c.as_slice.ensures.value (subst (λ (os : List ℕ). IsGap c.as_slice.result.now os c.args.name.text c.in-Err.at) c.as_slice-2.ensures.value c.in-Err.ensures) in
    subst (λ (os : List ℕ). IsOrdered (set names c.args.place (Some c.args.name)) os) (sym c.insert_at.ensures.items)
    (put_in names order c.requires.ordered c.in-Err.at c.args.place c.args.name c.requires.within c.requires.free gap c.requires.short))

pub returns-in_default-clause-names : goal.returns-in_default-clause-names
returns-in_default-clause-names c =
    (let names = c.args.names.now.items in
    let order = c.args.order.now.items in
    let at = c.in_default.field-0 in
    let is = subst (λ (ns : List (Option Name)). IsAt ns order c.args.name.text at) c.as_slice.ensures.value (subst (λ (os : List ℕ). IsAt c.as_slice.result.now os c.args.name.text at) c.as_slice-2.ensures.value c.in_default.ensures) in
    let has = name_there names order c.requires.ordered c.args.name.text at is in
    absurd (c.requires.new.other _ has.name has.there has.same))
