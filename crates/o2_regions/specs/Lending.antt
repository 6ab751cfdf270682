-- The table of a process, as it is lent.
use Rattle.std.specs.Prelude.{ℕ, List, slice_set}
use Rattle.std.specs.Borrow.{Lends, MutBor, Fml}
use Rattle.o2_desc.specs.declared.descriptor.Descriptor.{Descriptor}
use Rattle.o2_desc.specs.contracts.table.Table.{the_row as table_row}
use Rattle.o2_regions.specs.Maps.{Maps}
use Rattle.o2_regions.specs.contracts.regions.Regions.{the_row}
use Rattle.o2_regions.specs.contracts.accessed.Tables.{the_row as tables_row}

-- the maps with another table for a process
abbrev pub with_table : Maps → ℕ → List Descriptor → Maps
with_table m pid table = record m { tables = slice_set m.tables pid table }

-- the maps end with the last value of the table that was lent
abbrev pub LendsTable : MutBor Maps → ℕ → MutBor (List Descriptor) → Fml
LendsTable s pid r = Lends the_row table_row s r (with_table s.now pid)

-- the tables end with the last value of the one that was lent
abbrev pub LendsEntry : MutBor (List (List Descriptor)) → ℕ → MutBor (List Descriptor) → Fml
LendsEntry s pid r = Lends tables_row table_row s r (slice_set s.now pid)
