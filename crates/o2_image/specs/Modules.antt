-- A module of a file: its parts, or the fault of the first check that fails.
use Rattle.std.specs.Prelude.{ℕ, ◌+◌, Bool, true, false, List, [], ◌∷◌, Option, Some, None, map, nat_le, Result, Ok}
use Rattle.o2_base.specs.declared.faults.ModuleFault.{ModuleFault}
use Rattle.o2_base.specs.declared.faults.ModuleFault.TheVariants.{BadTable, OutOfProfile}
use Rattle.o2_base.specs.declared.faults.Which.TheVariants as which
use Rattle.o2_ne.specs.declared.head.Head.{Head}
use Rattle.o2_ne.specs.declared.entries.Entry.{Entry}
use Rattle.o2_ne.specs.Checks.{Check, all_hold, or_fault, ◌>>=◌}
use Rattle.o2_ne.specs.Header.{head_of}
use Rattle.o2_ne.specs.NameTable.{Exports, exports_of}
use Rattle.o2_ne.specs.EntryTable.{entries_of}
use Rattle.o2_ne.specs.Steps.{over}
use Rattle.o2_ne_segs.specs.declared.segment.Kind.{Kind}
use Rattle.o2_ne_segs.specs.declared.segment.Kind.TheVariants.{Code, CodeOnly, Writable, ReadOnly}
use Rattle.o2_ne_segs.specs.declared.segment.Segment.{Segment}
use Rattle.o2_ne_segs.specs.SegmentTable.{nth_segment, segments_of}
use Rattle.o2_ne_segs.specs.Records.{relocs_in}
use Rattle.o2_image.specs.Faults.{under_ne, under_seg}
use Rattle.o2_image.specs.Parts.{Parts}
use Rattle.o2_image.specs.References.{all_references, references_in}
use Rattle.o2_image.specs.Records.{segment_step}

abbrev pub is_writable : Kind → Bool
is_writable Code = false
is_writable CodeOnly = false
is_writable Writable = true
is_writable ReadOnly = false

abbrev pub is_code : Kind → Bool
is_code Code = true
is_code CodeOnly = true
is_code Writable = false
is_code ReadOnly = false

-- the automatic data segment, where there is one, is writable data, and fits with stack and heap
abbrev pub auto_data_checks : Head → Option Segment → List (Check ModuleFault)
auto_data_checks h None = []
auto_data_checks h (Some s) =
    or_fault (is_writable s.kind) (BadTable which.AutoData)
    ∷ or_fault (nat_le (s.size + h.stack + h.heap) 65536) (OutOfProfile which.AutoSize)
    ∷ []

-- the parts, where the references and records are those that the file has at their places
abbrev pub parts_of : List ℕ → Head → List Segment → Exports → List Entry → Parts
parts_of file h ss names es = record {
  file = file;
  head = h;
  segments = ss;
  names = names;
  references = references_in file h;
  entries = es;
  relocs = map (relocs_in file) ss;
}

-- header, segments, automatic data, names, references, entries, then for each segment its records, and for each
-- record its target and its places
unfoldable pub module_of : List ℕ → Result Parts ModuleFault
module_of file = do
  h ← under_ne (head_of file)
  ss ← under_seg (segments_of file (h.at + h.segments_at) h.segments h.shift)
  _ ← all_hold (auto_data_checks h (nth_segment h.auto_seg ss))
  names ← under_ne (exports_of file h)
  _ ← all_references file h
  es ← under_ne (entries_of file h)
  _ ← over (segment_step file h es) ss 1
  Ok (parts_of file h ss names es)
