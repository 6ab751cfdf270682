-- The script: slices and words `discard` in their order.
use Rattle.std.specs.Prelude.{ℕ, ◌==◌, ◌&&◌, ◌||◌, Bool, not, List, [], ◌∷◌, ◌++◌, length, nat_le, nat_lt, slice_index, Option, Some, None, Result, Ok, bytes_eq, codes, if◌then◌else◌}
use Rattle.std.specs.List.{list_all, before_first, after_first, position_or_len}
use Rattle.std.specs.Str.Parse.{digits_value}
use Rattle.std.specs.Char.{is_ascii_digit}
use Rattle.toml.specs.Data.{Data, as_array, as_str}
use Rattle.o2_base.specs.declared.faults.Key.TheVariants as key
use Rattle.o2_base.specs.declared.faults.MachineFault.{MachineFault}
use Rattle.o2_base.specs.declared.faults.MachineFault.TheVariants.{BadValue, Limit}
use Rattle.o2_conf.specs.declared.script.Word.{Word}
use Rattle.o2_conf.specs.declared.script.Word.TheVariants.{Discard, Slice}
use Rattle.o2_conf.specs.Steps.{◌>>=◌, some_or, within, each}
use Rattle.o2_conf.specs.Values.{is_from}

-- decimal digits, of which the first is 0 only where it is the only one
abbrev pub is_decimal : List ℕ → Bool
is_decimal ds = nat_le 1 (length ds) && ((length ds == 1 || not (slice_index ds 0 == 48)) && list_all is_ascii_digit ds)

-- the number that decimal digits spell, from 1 to most
abbrev pub number_of : ℕ → List ℕ → Result ℕ MachineFault
number_of most ds = within (is_from 1 most (digits_value 10 ds)) (digits_value 10 ds) (Limit key.Script)

-- what stands before the first colon, and what after it
abbrev pub cut_of : List ℕ → Option (List ℕ × List ℕ)
cut_of text =
    if nat_lt (position_or_len (λ b. b == 58) text) (length text)
    then Some (before_first (λ b. b == 58) text, after_first (λ b. b == 58) text) else None

-- both halves of a word, where each is decimal
abbrev pub halves_of : List ℕ → Result (List ℕ × List ℕ) MachineFault
halves_of text = do
  parts ← some_or (cut_of text) (BadValue key.Script)
  within (is_decimal parts.0 && is_decimal parts.1) parts (BadValue key.Script)

-- a word `P:N`, which gives the process P a slice of N steps: first its form, then its numbers' ranges
abbrev pub slice_of : List ℕ → Result Word MachineFault
slice_of text = do
  parts ← halves_of text
  p ← number_of 65535 parts.0
  n ← number_of 4000000000 parts.1
  Ok (Slice p n)

-- a word by its text
abbrev pub word_of : List ℕ → Result Word MachineFault
word_of text = if bytes_eq text (codes "discard") then Ok Discard else slice_of text

-- one more word
abbrev pub word_step : Data → List Word → Result (List Word) MachineFault
word_step d found = do
  text ← some_or (as_str d) (BadValue key.Script)
  word ← word_of text
  Ok (found ++ word ∷ [])

-- an array of at most 100,000 words; none where the key is absent
abbrev pub script_or : Option Data → Result (List Word) MachineFault
script_or None = Ok []
script_or (Some d) = do
  items ← some_or (as_array d) (BadValue key.Script)
  words ← each word_step items []
  within (nat_le (length words) 100000) words (Limit key.Script)
