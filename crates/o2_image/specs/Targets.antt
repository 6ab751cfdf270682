-- Which source types records have, and where they lead.
use Rattle.std.specs.Prelude.{ℕ, ◌==◌, ◌&&◌, ◌||◌, ◌%◌, Bool, true, not, List, is_some, if◌then◌else◌}
use Rattle.std.specs.Int.RustNames.{bit_and}
use Rattle.o2_ne.specs.declared.head.Head.{Head}
use Rattle.o2_ne.specs.declared.entries.Entry.{Entry}
use Rattle.o2_ne.specs.EntryTable.{is_segment, target_of}
use Rattle.o2_ne_segs.specs.declared.reloc.Reloc.{Reloc}
use Rattle.o2_image.specs.References.{has_string, imported_place}

-- 0 a low byte, 2 a selector, 3 a far pointer, 5 an offset
abbrev pub is_source : ℕ → Bool
is_source n = n == 0 || (n == 2 || (n == 3 || n == 5))

-- how many bytes are patched at a place
abbrev pub width_of : ℕ → ℕ
width_of source = if source == 0 then 1 else (if source == 3 then 4 else 2)

-- 0 internal, 1 an import by ordinal, 2 an import by name, 3 a system fixup
abbrev pub target_kind : Reloc → ℕ
target_kind r = bit_and r.flags 3

abbrev pub is_fixup : Reloc → Bool
is_fixup r = target_kind r == 3

abbrev pub is_additive : Reloc → Bool
is_additive r = not (bit_and r.flags 4 == 0)

-- a segment and an offset, or FF and an ordinal
abbrev pub has_internal : Head → List Entry → Reloc → Bool
has_internal h es r =
    if r.first % 256 == 255 then is_some (target_of r.second es) else is_segment h.segments (r.first % 256)

abbrev pub has_reference : Head → Reloc → Bool
has_reference h r = is_segment h.references r.first

abbrev pub has_name : List ℕ → Head → Reloc → Bool
has_name file h r = has_reference h r && has_string file (imported_place h r.second)

-- the record's target exists
abbrev pub has_target : List ℕ → Head → List Entry → Reloc → Bool
has_target file h es r =
    if target_kind r == 0 then has_internal h es r
    else (if target_kind r == 1 then has_reference h r
    else (if target_kind r == 2 then has_name file h r else true))

-- the record has one of the source types, and its target exists
abbrev pub leads : List ℕ → Head → List Entry → Reloc → Bool
leads file h es r = is_source r.source && has_target file h es r
