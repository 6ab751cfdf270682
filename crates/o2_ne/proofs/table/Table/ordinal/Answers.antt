use Rattle.std.proofs.Common.{ℕ, Option, Some, sym, ap, ◌∙◌}
use Rattle.o2_ne.specs.NameTable.{same_name}
use Rattle.o2_ne.proofs.NameIndex.{here, other, past}
use Rattle.o2_ne.proofs.TableLaws.{places_rise}
use Rattle.o2_ne.proofs.table.Table.ordinal.Goals as goal

pub returns-in_default : goal.returns-in_default
returns-in_default c =
    let point = rw c.as_slice-order.ensures.value at c.first_of.ensures in
    let at = rw c.as_slice-order.ensures.value at c.in_default.ensures in
    sym (past c.args.file.now _ _ c.args.name.now _ c.requires point (sym at))

pub returns-then-not-is_same_name : goal.returns-then-not-is_same_name
returns-then-not-is_same_name c =
    let point = rw c.as_slice-order.ensures.value at c.first_of.ensures in
    let at = rw c.as_slice-order.ensures.value at c.in-Some.ensures in
    sym (other c.args.file.now _ _ c.args.name.now _ c.requires point c.in-Some.place (sym at)
    (ap (λ t. same_name t c.args.name.now) (sym c.text_at.ensures) ∙ sym c.is_same_name.ensures ∙ c.if-not-is_same_name.true))

pub returns : goal.returns
returns c =
    let point = rw c.as_slice-order.ensures.value at c.first_of.ensures in
    let at = rw c.as_slice-order.ensures.value at c.in-Some.ensures in
    let some : ℕ → Option ℕ = λ n. Some n in
    ap some c.ordinal_at.ensures
    ∙ sym (here c.args.file.now _ _ c.args.name.now _ c.requires point c.in-Some.place (places_rise _ _ _) (sym at)
    (ap (λ t. same_name t c.args.name.now) (sym c.text_at.ensures) ∙ sym c.is_same_name.ensures ∙ c.if-not-is_same_name.false))
