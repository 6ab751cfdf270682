use Rattle.std.proofs.Common.{◌≡◌, ap, ◌∙◌, sym, subst, get_or, [], List, ◌/◌, ◌%◌, arith, false}
use Rattle.std.proofs.lemmas.List.{get_or_read}
use Rattle.o2_desc.specs.declared.descriptor.Descriptor.{Descriptor}
use Rattle.o2_desc.specs.Bits.{is_accessed}
use Rattle.o2_desc.specs.Bytes.{empty}
use Rattle.o2_regions.proofs.Telling.{none_past}
use Rattle.o2_regions.proofs.accessed.is_used.Goals as goal

pub returns-in-None-clause-value : goal.returns-in-None-clause-value
returns-in-None-clause-value c =
    subst (λ (t : List Descriptor). false ≡ is_accessed (get_or t (c.args.place % 8192) empty).access)
    (get_or_read c.args.tables.now (c.args.place / 8192) c.index-tables-pid.result (omega (arith, c.if-pid-tables.false)) c.index-tables-pid.is [])
    (ap (λ (d : Descriptor). is_accessed d.access) (none_past c.index-tables-pid.result (c.args.place % 8192) empty (sym c.in-None.is ∙ c.get.ensures)))
