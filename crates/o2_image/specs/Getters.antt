-- What the calls of a module answer.
use Rattle.std.specs.Prelude.{ℕ, ◌-◌, ◌==◌, Bool, not, List, [], Option, Some, None, length, slice_get, if◌then◌else◌}
use Rattle.std.specs.List.{sum_by}
use Rattle.std.specs.Int.RustNames.{bit_and}
use Rattle.o2_ne_segs.specs.declared.reloc.Reloc.{Reloc}
use Rattle.o2_image.specs.Parts.{Parts}
use Rattle.o2_image.specs.References.{counted_string, has_string, imported_place}

abbrev pub is_library : Parts → Bool
is_library m = not (bit_and m.head.flags 0x8000 == 0)

-- an item by its number from 1
abbrev pub nth : {X : Type 0} → List X → ℕ → Option X
nth xs n = if n == 0 then None else slice_get xs (n - 1)

-- a list by its number from 1; another number has none
abbrev pub list_or_none : {X : Type 0} → Option (List X) → List X
list_or_none None = []
list_or_none (Some xs) = xs

abbrev pub nth_list : {X : Type 0} → List (List X) → ℕ → List X
nth_list xss n = list_or_none (nth xss n)

-- a record by its segment from 1 and its number from 0
abbrev pub nth_reloc : Parts → ℕ → ℕ → Option Reloc
nth_reloc m seg k = slice_get (nth_list m.relocs seg) k

abbrev pub reloc_total : Parts → ℕ
reloc_total m = sum_by length m.relocs

-- the imported name at an offset
abbrev pub imported_name : Parts → ℕ → Option (List ℕ)
imported_name m offset =
    if has_string m.file (imported_place m.head offset) then Some (counted_string m.file (imported_place m.head offset))
    else None
