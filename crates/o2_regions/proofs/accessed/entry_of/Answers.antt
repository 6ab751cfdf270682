use Rattle.std.proofs.Common.{◌≡◌, ◌∙◌, sym, subst, get_or, [], List}
use Rattle.std.proofs.lemmas.List.{get_or_read}
use Rattle.o2_desc.specs.declared.descriptor.Descriptor.{Descriptor}
use Rattle.o2_desc.specs.Bytes.{empty}
use Rattle.o2_regions.proofs.Telling.{none_past}
use Rattle.o2_regions.proofs.accessed.entry_of.Goals as goal

pub returns-in-None : goal.returns-in-None
returns-in-None c =
    subst (λ (t : List Descriptor). empty ≡ get_or t c.args.index empty) (get_or_read c.args.tables.now c.args.pid c.index-tables-pid.result c.requires c.index-tables-pid.is [])
    (none_past c.index-tables-pid.result c.args.index empty (sym c.in-None.is ∙ c.get.ensures))
