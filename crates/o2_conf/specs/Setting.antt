-- What a machine file says: its keys in their order, or the first fault. Keys that aren't named here are ignored.
use Rattle.std.specs.Prelude.{ℕ, ◌%◌, ◌==◌, ◌&&◌, Bool, List, length, nat_le, Option, Some, None, Result, Ok}
use Rattle.std.specs.List.{list_all}
use Rattle.toml.specs.Data.{Data, Members}
use Rattle.o2_base.specs.declared.faults.Key.TheVariants as key
use Rattle.o2_base.specs.declared.faults.MachineFault.{MachineFault}
use Rattle.o2_base.specs.declared.faults.MachineFault.TheVariants.{Missing, BadValue, Limit}
use Rattle.o2_conf.specs.declared.conf.Conf.{Conf}
use Rattle.o2_conf.specs.declared.numbers.Numbers.{Numbers}
use Rattle.o2_conf.specs.Steps.{◌>>=◌, some_or, within}
use Rattle.o2_conf.specs.Values.{document_of, value_at, is_from, integer_of, integer_at, text_of, texts_of}
use Rattle.o2_conf.specs.Processes.{processes_at}
use Rattle.o2_conf.specs.Ordinals.{ordinals_or}
use Rattle.o2_conf.specs.Script.{script_or}

-- the memory's size, a multiple of 16
unfoldable pub memory_at : Members → Result ℕ MachineFault
memory_at ms = do
  n ← integer_at ms key.Memory 4096 16777216
  within (n % 16 == 0) n (Limit key.Memory)

-- what DosMemAvail answers, 0 where the key is absent
abbrev pub avail_or : Option Data → Result ℕ MachineFault
avail_or None = Ok 0
avail_or (Some d) = integer_of key.Avail 0 4294967295 d

unfoldable pub numbers_at : Members → Result Numbers MachineFault
numbers_at ms = do
  memory ← memory_at ms
  swap ← integer_at ms key.Swap 0 65536
  segments ← integer_at ms key.Segments 1 65535
  budget ← integer_at ms key.Budget 0 4000000000
  quantum ← integer_at ms key.Quantum 1 1000000
  avail ← avail_or (value_at ms key.Avail)
  Ok (record { memory = memory; swap = swap; segments = segments; budget = budget; quantum = quantum; avail = avail })

-- 1 to 64 file names of 1 to 255 bytes
abbrev pub are_short : List (List ℕ) → Bool
are_short names = list_all (λ name. is_from 1 255 (length name)) names

unfoldable pub modules_at : Members → Result (List (List ℕ)) MachineFault
modules_at ms = do
  d ← some_or (value_at ms key.Modules) (Missing key.Modules)
  names ← texts_of key.Modules d
  within (is_from 1 64 (length names) && are_short names) names (Limit key.Modules)

-- the library that answers for the services' module where the services don't; none where the key is absent
abbrev pub shim_or : Option Data → Result (Option (List ℕ)) MachineFault
shim_or None = Ok None
shim_or (Some d) = do
  text ← some_or (text_of d) (BadValue key.Shim)
  within (is_from 1 255 (length text)) (Some text) (Limit key.Shim)

-- the setting, or the first fault; a file has at most 1,048,576 bytes
unfoldable pub setting : List ℕ → Result Conf MachineFault
setting file = do
  bytes ← within (nat_le (length file) 1048576) file (Limit key.File)
  ms ← document_of bytes
  n ← numbers_at ms
  modules ← modules_at ms
  process ← processes_at ms
  ordinals ← ordinals_or (value_at ms key.Ordinals)
  script ← script_or (value_at ms key.Script)
  shim ← shim_or (value_at ms key.Shim)
  Ok (record {
    memory = n.memory;
    swap = n.swap;
    segments = n.segments;
    budget = n.budget;
    quantum = n.quantum;
    avail = n.avail;
    modules = modules;
    process = process;
    ordinals = ordinals;
    script = script;
    shim = shim;
  })
