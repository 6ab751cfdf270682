-- A segment's entry in an image, up to its blocks.
use Rattle.std.specs.Prelude.{ℕ, List, [], ◌∷◌, ◌++◌, Option}
use Rattle.o2_entries.specs.declared.Entry.{Entry}
use Rattle.o2_store.specs.declared.brought.Place.{Place}
use Rattle.o2_store.specs.declared.brought.Place.TheVariants.{Zeros, Image, Memory, Blocks}
use Rattle.o2_store.specs.Shelf.{kept_of, shown_at}
use Rattle.o2_dump.specs.CoreBytes.{bit, long, word}
use Rattle.o2_dumping.specs.declared.shown.Shown.{Shown}

-- a segment with this entry and this range in memory, if it has one
abbrev pub shown_of : Option (ℕ × ℕ) → Entry → Shown
shown_of range e = record { size = e.size; kept = kept_of range e; attr = e.attr; place = shown_at range e }

abbrev pub shown_number : Place → ℕ
shown_number Zeros = 0
shown_number (Image m k) = 1
shown_number (Memory base) = 2
shown_number Blocks = 3

-- what is told of a place in front of the blocks, of which there are so many
abbrev pub place_front : Place → ℕ → List ℕ
place_front Zeros n = []
place_front (Image m k) n = word m ++ word k
place_front (Memory base) n = long base
place_front Blocks n = long n

abbrev pub segment_front : Shown → ℕ → List ℕ
segment_front s n =
    long s.size ++ long s.kept
    ++ (s.attr.flags ∷ s.attr.lock ∷ bit s.attr.clean ∷ shown_number s.place ∷ bit s.attr.gone ∷ [])
    ++ place_front s.place n
