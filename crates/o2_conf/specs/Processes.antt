-- The processes of a machine file.
use Rattle.std.specs.Prelude.{ℕ, ◌+◌, List, [], ◌∷◌, ◌++◌, length, map, sum, nat_le, Option, Some, None, Result, Ok}
use Rattle.toml.specs.Data.{Data, Members, as_array, as_table}
use Rattle.o2_base.specs.declared.faults.Key.TheVariants as key
use Rattle.o2_base.specs.declared.faults.MachineFault.{MachineFault}
use Rattle.o2_base.specs.declared.faults.MachineFault.TheVariants.{Missing, BadValue, Limit}
use Rattle.o2_conf.specs.declared.process.Process.{Process}
use Rattle.o2_conf.specs.Steps.{◌>>=◌, some_or, within, each}
use Rattle.o2_conf.specs.Values.{value_at, is_from, text_of, texts_of}

-- How many bytes the environment segment of a process has: each string with a zero byte and a zero byte after them, the
-- module's name with a zero byte, and the arguments with two.
abbrev pub strings_size : List (List ℕ) → ℕ
strings_size strings = sum (map (λ s. length s + 1) strings)

abbrev pub environment_size : List ℕ → List ℕ → List (List ℕ) → ℕ
environment_size name arguments strings = (length name + length arguments + 4) + strings_size strings

-- the module that a process runs
unfoldable pub module_at : Members → Result (List ℕ) MachineFault
module_at ms = do
  d ← some_or (value_at ms key.ProcessModule) (Missing key.ProcessModule)
  text ← some_or (text_of d) (BadValue key.ProcessModule)
  within (is_from 1 255 (length text)) text (Limit key.ProcessModule)

-- its arguments; none where the key is absent
abbrev pub arguments_or : Option Data → Result (List ℕ) MachineFault
arguments_or None = Ok []
arguments_or (Some d) = some_or (text_of d) (BadValue key.ProcessArguments)

-- its environment strings; none where the key is absent
abbrev pub environment_or : Option Data → Result (List (List ℕ)) MachineFault
environment_or None = Ok []
environment_or (Some d) = texts_of key.ProcessEnvironment d

-- a process by its table
unfoldable pub process_at : Members → Result Process MachineFault
process_at ms = do
  name ← module_at ms
  arguments ← arguments_or (value_at ms key.ProcessArguments)
  strings ← environment_or (value_at ms key.ProcessEnvironment)
  _ ← within (nat_le (environment_size name arguments strings) 65536) strings (Limit key.ProcessEnvironment)
  Ok (record { «module» = name; arguments = arguments; environment = strings })

-- one more process of the array
abbrev pub process_step : Data → List Process → Result (List Process) MachineFault
process_step d found = do
  ms ← some_or (as_table d) (BadValue key.Process)
  p ← process_at ms
  Ok (found ++ p ∷ [])

-- one more item of the array, which must be a table
abbrev pub table_step : Data → ℕ → Result ℕ MachineFault
table_step d count = do
  _ ← some_or (as_table d) (BadValue key.Process)
  Ok (count + 1)

-- an array of 1 to 64 tables, each a process
unfoldable pub processes_at : Members → Result (List Process) MachineFault
processes_at ms = do
  d ← some_or (value_at ms key.Process) (Missing key.Process)
  items ← some_or (as_array d) (BadValue key.Process)
  count ← each table_step items 0
  _ ← within (is_from 1 64 count) count (Limit key.Process)
  each process_step items []
