-- What a key of a table says: an integer, a string, an array of strings.
use Rattle.std.specs.Prelude.{ℕ, ℤ, pos, negsuc, ◌==◌, ◌&&◌, Bool, false, List, [], ◌∷◌, ◌++◌, nat_le, Option, Some, None, option_and_then, Result, Ok, if◌then◌else◌}
use Rattle.std.specs.List.{list_any}
use Rattle.std.specs.Str.{is_utf8}
use Rattle.toml.specs.Data.{Data, Members, as_array, as_integer, as_str, get_member}
use Rattle.toml.specs.Parse.{parse_document}
use Rattle.o2_base.specs.declared.faults.Key.{Key}
use Rattle.o2_base.specs.declared.faults.MachineFault.{MachineFault}
use Rattle.o2_base.specs.declared.faults.MachineFault.TheVariants.{BadToml, Missing, BadValue, Limit}
use Rattle.o2_conf.specs.Keys.{name_of}
use Rattle.o2_conf.specs.Steps.{◌>>=◌, some_or, within, each}

-- the table that the bytes are a TOML document of
abbrev pub document : List ℕ → Option Members
document bytes = if is_utf8 bytes then parse_document bytes else None

abbrev pub document_of : List ℕ → Result Members MachineFault
document_of bytes = some_or (document bytes) BadToml

-- the value at a key
abbrev pub value_at : Members → Key → Option Data
value_at ms k = get_member (name_of k) ms

abbrev pub is_from : ℕ → ℕ → ℕ → Bool
is_from low high n = nat_le low n && nat_le n high

abbrev pub is_between : ℕ → ℕ → ℤ → Bool
is_between low high (pos n) = is_from low high n
is_between low high (negsuc n) = false

-- the number that an integer is, where it isn't negative
abbrev pub size_of : ℤ → ℕ
size_of (pos n) = n
size_of (negsuc n) = 0

-- a value that is an integer from low to high
abbrev pub integer_of : Key → ℕ → ℕ → Data → Result ℕ MachineFault
integer_of k low high d = do
  z ← some_or (as_integer d) (BadValue k)
  within (is_between low high z) (size_of z) (Limit k)

-- the integer at a key, which must be there
abbrev pub integer_at : Members → Key → ℕ → ℕ → Result ℕ MachineFault
integer_at ms k low high = do
  d ← some_or (value_at ms k) (Missing k)
  integer_of k low high d

-- a string without a zero byte
abbrev pub has_zero : List ℕ → Bool
has_zero bytes = list_any (λ b. b == 0) bytes

abbrev pub without_zero : List ℕ → Option (List ℕ)
without_zero bytes = if has_zero bytes then None else Some bytes

abbrev pub text_of : Data → Option (List ℕ)
text_of d = option_and_then without_zero (as_str d)

-- one more string of an array
abbrev pub text_step : Key → Data → List (List ℕ) → Result (List (List ℕ)) MachineFault
text_step k d found = do
  text ← some_or (text_of d) (BadValue k)
  Ok (found ++ text ∷ [])

-- an array of strings
unfoldable pub texts_of : Key → Data → Result (List (List ℕ)) MachineFault
texts_of k d = do
  items ← some_or (as_array d) (BadValue k)
  each (text_step k) items []
