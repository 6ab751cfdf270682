use Rattle.std.proofs.Common.{ap, sym, arith, List}
use Rattle.o2_desc.specs.declared.descriptor.Descriptor.{Descriptor}
use Rattle.o2_regions.specs.contracts.regions.Regions.{the_view}
use Rattle.o2_regions.proofs.Listing.{said_clear, said_segment, said_stays}
use Rattle.o2_regions.proofs.regions.Regions.next_used.Goals as goal

pub used_of-requires : goal.used_of-requires
used_of-requires c = λ p e.
    (let k = c.self.invariant.0 in
    let w = (c.next_used-next.ensures.place p e).inside in
    omega (arith, w, k.tables_long, k.held_long))

pub returns-clause-clears : goal.returns-clause-clears
returns-clause-clears c = λ o e.
    rw (← c.self.view_is) (said_segment (the_view c.self.inside) c.next_used-next.new.self c.next_used-next.result o c.used_of.result c.next_used-next.ensures.place (sym (rw c.deref.ensures.value at c.used_of.ensures)) e)

pub returns-clause-stays : goal.returns-clause-stays
returns-clause-stays c = λ e.
    rw (← c.self.view_is) (ap (λ (t : List (List Descriptor)). record (the_view c.self.inside) { tables = t })
    (said_stays (the_view c.self.inside) c.next_used-next.new.self c.next_used-next.result c.used_of.result c.next_used-next.ensures.stays (sym (rw c.deref.ensures.value at c.used_of.ensures)) e))

pub returns-clause-clear : goal.returns-clause-clear
returns-clause-clear c = λ e.
    rw (← c.self.view_is) (c.next_used-next.ensures.clear (said_clear (the_view c.self.inside).held c.next_used-next.result c.used_of.result (sym (rw c.deref.ensures.value at c.used_of.ensures)) e))
