use Rattle.std.proofs.Common.{ap, ◌∙◌, sym, subst, List}
use Rattle.o2_desc.specs.declared.descriptor.Descriptor.{Descriptor}
use Rattle.o2_desc.specs.Bits.{is_accessed}
use Rattle.o2_regions.specs.Accessed.{AreListed}
use Rattle.o2_regions.proofs.Listing.{listed_set}
use Rattle.o2_regions.proofs.accessed.Tables.set_entry.Goals as goal

pub invariant_of-self : goal.invariant_of-self
invariant_of-self c =
    subst (λ (t : List (List Descriptor)). AreListed t c.note.new.listed) (sym c.set_entry.ensures)
    (listed_set c.self.inside.tables.items c.self.inside.listed c.note.new.listed c.args.pid c.args.index c.args.d c.self.invariant c.note.ensures.few
    c.note.ensures.keeps (rw (← c.self.view_is) at c.requires.pid) c.requires.index
    (λ b u. c.note.ensures.has (ap (λ (d : Descriptor). is_accessed d.access) (rw (← c.self.view_is) at c.entry-was.ensures) ∙ b) u))
