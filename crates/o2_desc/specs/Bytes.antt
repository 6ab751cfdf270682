-- A descriptor as eight bytes (Intel 80286 Programmer's Reference Manual, chapter 6): the limit, the base's low word, its high
-- byte, the access byte, and a word that is zero.
use Rattle.std.specs.Prelude.{ℕ, ◌/◌, ◌%◌, List, [], ◌∷◌, slice_index_or, slice_set}
use Rattle.o2_desc.specs.declared.descriptor.Descriptor.{Descriptor}
use Rattle.o2_desc.specs.Bits.{marked}

abbrev pub bytes_of : Descriptor → List ℕ
bytes_of d =
    d.limit % 256 ∷ d.limit / 256 ∷
    d.base % 256 ∷ d.base / 256 % 256 ∷
    d.base / 65536 ∷
    d.access ∷
    0 ∷ 0 ∷ []

-- a descriptor that names nothing
abbrev pub empty : Descriptor
empty = record { base = 0; limit = 0; access = 0 }

-- the i-th of a table's entries
abbrev pub entry : List Descriptor → ℕ → Descriptor
entry ds i = slice_index_or ds i empty

-- a table with the accessed bit of an entry set
abbrev pub mark_at : List Descriptor → ℕ → List Descriptor
mark_at ds i = slice_set ds i (record (entry ds i) { access = marked (entry ds i).access })
