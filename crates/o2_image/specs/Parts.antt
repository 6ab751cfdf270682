-- What the bytes of a module hold.
use Rattle.std.specs.Prelude.{ℕ, List}
use Rattle.o2_ne.specs.declared.head.Head.{Head}
use Rattle.o2_ne.specs.declared.entries.Entry.{Entry}
use Rattle.o2_ne.specs.NameTable.{Exports}
use Rattle.o2_ne_segs.specs.declared.segment.Segment.{Segment}
use Rattle.o2_ne_segs.specs.declared.reloc.Reloc.{Reloc}

-- the file, its header, its segments from 1, its names, the names of its references from 1, its entries by rising
-- ordinal, and for each segment its records from 0
pub record Parts : Type 0 where
  pub file : List ℕ
  pub head : Head
  pub segments : List Segment
  pub names : Exports
  pub references : List (List ℕ)
  pub entries : List Entry
  pub relocs : List (List Reloc)
