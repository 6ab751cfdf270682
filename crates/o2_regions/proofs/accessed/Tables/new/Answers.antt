use Rattle.o2_regions.proofs.Listing.{listed_made}
use Rattle.o2_regions.proofs.accessed.Tables.new.Goals as goal

pub invariant_of-result : goal.invariant_of-result
invariant_of-result c = listed_made c.in_ok-tables.tables.items c.args.processes 8192 c.new.result c.in_ok-tables.ensures c.new.ensures.count
