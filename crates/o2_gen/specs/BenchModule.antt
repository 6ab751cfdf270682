-- The bench module: what its file holds.
use Rattle.std.specs.Prelude.{ℕ, List, [], ◌∷◌, codes, true, false}
use Rattle.o2_ne.specs.declared.head.Head.{Head}
use Rattle.o2_ne.specs.NameTable.{Exports}
use Rattle.o2_ne_segs.specs.declared.reloc.Reloc.{Reloc}
use Rattle.o2_ne_segs.specs.declared.segment.Kind.TheVariants.{Code, Writable}
use Rattle.o2_ne_segs.specs.declared.segment.Segment.{Segment}
use Rattle.o2_image.specs.Parts.{Parts}
use Rattle.o2_gen.specs.BenchFile.{bench_file}

-- a program that starts at 1:0, with automatic data in segment 2, a stack of 512 bytes behind that, and no heap
abbrev pub bench_head : Head
bench_head = record {
  at = 64;
  entries = 101;
  entries_len = 0;
  flags = 2;
  auto_seg = 2;
  heap = 0;
  stack = 512;
  ip = 0;
  cs = 1;
  sp = 0;
  ss = 2;
  segments = 2;
  references = 1;
  nonresident_len = 0;
  segments_at = 64;
  resident_at = 80;
  references_at = 89;
  imported_at = 91;
  nonresident_at = 0;
  movable = 0;
  shift = 4;
  target = 1;
}

abbrev pub code_segment : Segment
code_segment = record { file_at = 176; file_len = 105; size = 105; kind = Code; relocs = true; flags = 0x0D00 }

abbrev pub data_segment : Segment
data_segment = record { file_at = 320; file_len = 64; size = 64; kind = Writable; relocs = false; flags = 0x0C01 }

-- it exports nothing
abbrev pub bench_names : Exports
bench_names = record { own = codes "BENCH"; names = [] }

-- a far import by ordinal from the first reference
abbrev pub calls : ℕ → ℕ → Reloc
calls place ordinal = record { source = 3; flags = 1; place = place; first = 1; second = ordinal }

-- DosAllocSeg, DosWrite and DosExit
abbrev pub bench_calls : List Reloc
bench_calls = calls 0x0F 34 ∷ calls 0x55 138 ∷ calls 0x5E 5 ∷ []

unfoldable pub bench_module : Parts
bench_module = record {
  file = bench_file;
  head = bench_head;
  segments = code_segment ∷ data_segment ∷ [];
  names = bench_names;
  references = codes "DOSCALLS" ∷ [];
  entries = [];
  relocs = bench_calls ∷ [] ∷ [];
}
