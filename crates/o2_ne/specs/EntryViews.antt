-- How the code's reading of an entry table is seen.
use Rattle.o2_ne.specs.declared.entries.Reading.{Reading}
use Rattle.o2_ne.specs.EntryTable.{Table}

abbrev pub table : Reading → Table
table r = record { found = r.found.items; ordinal = r.ordinal; place = r.place; ended = r.ended }
