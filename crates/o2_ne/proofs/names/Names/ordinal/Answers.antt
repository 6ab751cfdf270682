use Rattle.std.proofs.Common.{sym, ap, ◌∙◌}
use Rattle.o2_ne.specs.NameTable.{ordinal_of}
use Rattle.o2_ne.proofs.TableLaws.{first_table, second_table}
use Rattle.o2_ne.proofs.names.Names.ordinal.Goals as goal

pub returns-in-Some : goal.returns-in-Some
returns-in-Some c =
    let found = rw c.as_slice-file.ensures at c.in-Some.ensures in
    sym (ap (λ x. ordinal_of c.args.name.now x.names) (sym c.self.view_is) ∙ first_table c.args.name.now _ _ _ (sym found))

pub returns-in-None : goal.returns-in-None
returns-in-None c =
    let found = rw c.as_slice-file.ensures at c.ordinal-in-None.ensures in
    let none = rw c.as_slice-file.ensures at c.in-None.ensures in
    found ∙ sym (ap (λ x. ordinal_of c.args.name.now x.names) (sym c.self.view_is) ∙ second_table c.args.name.now _ _ (sym none))
