-- The entry table of an NE file.
use Rattle.std.specs.Prelude.{ℕ, ◌+◌, ◌==◌, ◌&&◌, ◌||◌, Bool, true, false, not, List, [], ◌∷◌, ◌++◌, nat_le, Result, Ok, if◌then◌else◌, Option, option_map, find}
use Rattle.o2_base.specs.declared.faults.NeFault.{NeFault}
use Rattle.o2_base.specs.declared.faults.NeFault.TheVariants.{BadTable, OutOfProfile}
use Rattle.o2_base.specs.declared.faults.Which.TheVariants as which
use Rattle.o2_ne.specs.declared.head.Head.{Head}
use Rattle.o2_ne.specs.declared.entries.Entry.{Entry}
use Rattle.o2_ne.specs.Words.{byte_at, word_at}
use Rattle.o2_ne.specs.Checks.{Check, all_hold, or_fault, in_file, ◌>>=◌}
use Rattle.o2_ne.specs.Steps.{steps}

-- the reading of the table so far: the entries found, the next ordinal, the place of the next byte,
-- and whether the end was met
pub record Table : Type 0 where
  pub found : List Entry
  pub ordinal : ℕ
  pub place : ℕ
  pub ended : Bool

abbrev pub is_segment : ℕ → ℕ → Bool
is_segment count n = nat_le 1 n && nat_le n count

-- in a bundle of type 255 each entry has six bytes and names its segment; in another it has three,
-- and the type is the segment
abbrev pub is_movable : ℕ → Bool
is_movable kind = kind == 255

abbrev pub size_of : ℕ → ℕ
size_of kind = if is_movable kind then 6 else 3

abbrev pub entry_at : List ℕ → ℕ → ℕ → ℕ → Entry
entry_at file kind ordinal p = record {
  ordinal = ordinal;
  segment = if is_movable kind then byte_at file (p + 3) else kind;
  offset = if is_movable kind then word_at file (p + 4) else word_at file (p + 1);
}

-- an entry lies in the file, and its segment exists
abbrev pub entry_checks : List ℕ → ℕ → ℕ → Table → List (Check NeFault)
entry_checks file segments kind t =
    in_file file t.place (size_of kind)
    ∷ or_fault (not (is_movable kind) || is_segment segments (byte_at file (t.place + 3))) (BadTable which.Entries)
    ∷ []

-- the table behind an entry
abbrev pub next_entry : List ℕ → ℕ → Table → Table
next_entry file kind t = record t {
  found = t.found ++ entry_at file kind t.ordinal t.place ∷ [];
  ordinal = t.ordinal + 1;
  place = t.place + size_of kind;
}

-- one entry of a bundle
abbrev pub entry_step : List ℕ → ℕ → ℕ → Table → Result Table NeFault
entry_step file segments kind t = do
  _ ← all_hold (entry_checks file segments kind t)
  Ok (next_entry file kind t)

-- the type is that of a bundle of entries
abbrev pub kind_checks : ℕ → ℕ → List (Check NeFault)
kind_checks segments kind =
    or_fault (not (kind == 254)) (OutOfProfile which.Constant)
    ∷ or_fault (is_movable kind || is_segment segments kind) (BadTable which.Entries)
    ∷ []

-- a bundle with this count and type, whose entries begin at the place of the table
abbrev pub bundle : List ℕ → ℕ → ℕ → ℕ → Table → Result Table NeFault
bundle file segments n kind t =
    if kind == 0 then Ok (record t { ordinal = t.ordinal + n }) else (do
      _ ← all_hold (kind_checks segments kind)
      steps (entry_step file segments kind) n t)

-- the table behind the count and type at place p
abbrev pub bundle_from : List ℕ → ℕ → ℕ → Table → Result Table NeFault
bundle_from file segments p t = do
  _ ← all_hold (in_file file (p + 1) 1 ∷ [])
  bundle file segments (byte_at file p) (byte_at file (p + 1)) (record t { place = p + 2 })

-- the bundle at place p
abbrev pub bundle_at : List ℕ → ℕ → ℕ → Table → Result Table NeFault
bundle_at file segments p t = do
  _ ← all_hold (in_file file p 1 ∷ [])
  if byte_at file p == 0 then Ok (record t { ended = true }) else bundle_from file segments p t

-- the next bundle, where the table has not ended
unfoldable pub table_step : List ℕ → ℕ → ℕ → Table → Result Table NeFault
table_step file segments end t =
    if t.ended || nat_le end t.place then Ok t else bundle_at file segments t.place t

-- the defined entries of a file, by rising ordinal; a table of n bytes has at most n bundles
unfoldable pub entries_of : List ℕ → Head → Result (List Entry) NeFault
entries_of file h = do
  t ← steps (table_step file h.segments (h.at + h.entries + h.entries_len)) h.entries_len
      (record { found = []; ordinal = 1; place = h.at + h.entries; ended = false })
  Ok t.found

-- where an ordinal leads
abbrev pub target_of : ℕ → List Entry → Option (ℕ × ℕ)
target_of ordinal es = option_map (λ e. (e.segment, e.offset)) (find (λ e. e.ordinal == ordinal) es)
