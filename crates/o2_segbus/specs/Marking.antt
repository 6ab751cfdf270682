-- Accessed bits in the tables of processes.
use Rattle.std.specs.Prelude.{ℕ, ◌/◌, if◌then◌else◌}
use Rattle.o2_desc.specs.Bytes.{mark_at}
use Rattle.o2_regions.specs.Lending.{with_table}
use Rattle.o2_regions.specs.Maps.{Maps, table_of}
use Rattle.o2_isa.specs.View.{is_null}

-- the accessed bit of a process's index is set
abbrev pub with_mark : Maps → ℕ → ℕ → Maps
with_mark m pid i = with_table m pid (mark_at (table_of m pid) i)

-- the accessed bit of what a selector names is set
abbrev pub with_mark_of : Maps → ℕ → ℕ → Maps
with_mark_of m pid s = if is_null s then m else with_mark m pid (s / 8)
