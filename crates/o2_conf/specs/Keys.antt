-- The keys of a machine file.
use Rattle.std.specs.Prelude.{ℕ, List, [], codes}
use Rattle.o2_base.specs.declared.faults.Key.{Key}
use Rattle.o2_base.specs.declared.faults.Key.TheVariants as key

-- the key as it stands in its table; the file as a whole has none
abbrev pub name_of : Key → List ℕ
name_of key.File = []
name_of key.Memory = codes "memory"
name_of key.Swap = codes "swap"
name_of key.Segments = codes "segments"
name_of key.Budget = codes "budget"
name_of key.Quantum = codes "quantum"
name_of key.Avail = codes "avail"
name_of key.Modules = codes "modules"
name_of key.Process = codes "process"
name_of key.ProcessModule = codes "module"
name_of key.ProcessArguments = codes "arguments"
name_of key.ProcessEnvironment = codes "environment"
name_of key.Ordinals = codes "ordinals"
name_of key.Script = codes "script"
name_of key.Shim = codes "shim"
