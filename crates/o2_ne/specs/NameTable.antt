-- The name tables of a segmented executable: strings with a length byte before and an ordinal behind, ended by
-- length 0.
use Rattle.std.specs.Prelude.{◌≡◌, ℕ, ◌+◌, ◌<◌, ◌≤◌, ◌==◌, Bool, true, false, not, List, [], ◌∷◌, ◌++◌, length, map, find, Option, option_map, Result, Ok, if◌then◌else◌}
use Rattle.std.specs.Char.{to_ascii_lowercase}
use Rattle.std.specs.Str.{bytes_eq}
use Rattle.std.specs.List.{list_any}
use Rattle.o2_base.specs.declared.faults.NeFault.{NeFault}
use Rattle.o2_base.specs.declared.faults.NeFault.TheVariants.{BadTable}
use Rattle.o2_base.specs.declared.faults.Which.TheVariants as which
use Rattle.o2_ne.specs.declared.head.Head.{Head}
use Rattle.o2_ne.specs.declared.names.Name.{Name}
use Rattle.o2_ne.specs.Words.{byte_at, string_at, word_at}
use Rattle.o2_ne.specs.Checks.{all_hold, in_file, or_fault, ◌>>=◌}
use Rattle.o2_ne.specs.Steps.{steps}

-- the reading of a table so far
pub record Walk : Type 0 where
  pub found : List Name
  pub place : ℕ
  pub ended : Bool

-- a string of n bytes and its ordinal
abbrev pub name_at : List ℕ → ℕ → ℕ → Name
name_at file p n = record { text = string_at file p n; ordinal = word_at file (p + n) }

abbrev pub named : List ℕ → ℕ → Walk → Result Walk NeFault
named file n w =
    if n == 0 then Ok (record w { ended = true }) else (do
      _ ← all_hold (in_file file (w.place + 1) (n + 2) ∷ [])
      Ok (record {
        found = w.found ++ name_at file (w.place + 1) n ∷ [];
        place = w.place + 1 + n + 2;
        ended = false;
      }))

-- the next name, where the table has not ended
unfoldable pub name_step : List ℕ → Walk → Result Walk NeFault
name_step file w = if w.ended then Ok w else (do
  _ ← all_hold (in_file file w.place 1 ∷ [])
  named file (byte_at file w.place) w)

-- the names of the table from place p on; a file has fewer names than bytes
unfoldable pub names_at : List ℕ → ℕ → Result (List Name) NeFault
names_at file p = do
  w ← steps (name_step file) (length file) (record { found = []; place = p; ended = false })
  Ok w.found

-- the string of n bytes with which a table begins, as the module's name: it is not empty, and has no line end
abbrev pub own_text : List ℕ → ℕ → ℕ → Result (List ℕ) NeFault
own_text file p n = do
  _ ← all_hold (or_fault (not (n == 0)) (BadTable which.Names) ∷ in_file file (p + 1) (n + 2) ∷ [])
  _ ← all_hold (or_fault (not (list_any (λ b. b == 10) (string_at file (p + 1) n))) (BadTable which.Names) ∷ [])
  Ok (string_at file (p + 1) n)

abbrev pub own_name : List ℕ → ℕ → Result (List ℕ) NeFault
own_name file p = do
  _ ← all_hold (in_file file p 1 ∷ [])
  own_text file p (byte_at file p)

-- what holds of a module's name: it has 1 to 255 bytes, none of them a line end
pub record IsOwnName (name : List ℕ) : Type 0 where
  pub some : 0 < length name
  pub short : length name ≤ 255
  pub line : list_any (λ b. b == 10) name ≡ false

-- the nonresident names
abbrev pub nonresident : List ℕ → Head → Result (List Name) NeFault
nonresident file h = if h.nonresident_len == 0 then Ok [] else names_at file h.nonresident_at

-- a module's own name, and the names that it exports
pub record Exports : Type 0 where
  pub own : List ℕ
  pub names : List Name

-- both, and the file that they stand in
pub record Named : Type 0 where
  pub file : List ℕ
  pub own : List ℕ
  pub names : List Name

abbrev pub exports : Named → Exports
exports n = record { own = n.own; names = n.names }

-- the module's name is the first resident string; behind it come the other resident names, then the nonresident ones
unfoldable pub exports_of : List ℕ → Head → Result Exports NeFault
exports_of file h = do
  own ← own_name file (h.at + h.resident_at)
  resident ← names_at file (h.at + h.resident_at + length own + 3)
  others ← nonresident file h
  Ok (record { own = own; names = resident ++ others })

-- with ASCII letters folded
abbrev pub same_name : List ℕ → List ℕ → Bool
same_name a b = bytes_eq (map to_ascii_lowercase a) (map to_ascii_lowercase b)

-- the ordinal of a name; the first match counts
abbrev pub ordinal_of : List ℕ → List Name → Option ℕ
ordinal_of name ns = option_map (λ n. n.ordinal) (find (λ n. same_name n.text name) ns)
