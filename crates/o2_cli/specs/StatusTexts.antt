-- The numbers and the lines of the statuses.
use Rattle.std.specs.Prelude.{ℕ, List, [], ◌∷◌, ◌++◌, codes}
use Rattle.o2_base.specs.declared.faults.Key.{Key}
use Rattle.o2_base.specs.declared.faults.Key.TheVariants as key
use Rattle.o2_base.specs.declared.faults.MachineFault.{MachineFault}
use Rattle.o2_base.specs.declared.faults.MachineFault.TheVariants as machine
use Rattle.o2_base.specs.declared.faults.ModuleFault.{ModuleFault}
use Rattle.o2_base.specs.declared.faults.ModuleFault.TheVariants as module_fault
use Rattle.o2_cli.specs.declared.status.Status.{Status}
use Rattle.o2_cli.specs.declared.status.Status.TheVariants as status

abbrev pub status_number : Status → ℕ
status_number status.Fine = 0
status_number status.BadWords = 1
status_number (status.NoFile name) = 2
status_number (status.BadMachine fault) = 3
status_number (status.BadModule name fault) = 4
status_number status.FileFault = 5
status_number status.InputFault = 6
status_number status.SinkFault = 7
status_number status.NoRoom = 8
status_number status.SwapFull = 9
status_number status.SwapFault = 10
status_number status.NoMemory = 11

-- a key as the machine file spells it
abbrev pub key_text : Key → List ℕ
key_text key.File = codes "file"
key_text key.Memory = codes "memory"
key_text key.Swap = codes "swap"
key_text key.Segments = codes "segments"
key_text key.Budget = codes "budget"
key_text key.Quantum = codes "quantum"
key_text key.Avail = codes "avail"
key_text key.Modules = codes "modules"
key_text key.Process = codes "process"
key_text key.ProcessModule = codes "process.module"
key_text key.ProcessArguments = codes "process.arguments"
key_text key.ProcessEnvironment = codes "process.environment"
key_text key.Ordinals = codes "ordinals"
key_text key.Script = codes "script"
key_text key.Shim = codes "shim"

-- the number of a reason, and its key
abbrev pub machine_text : MachineFault → List ℕ
machine_text machine.BadToml = codes "1 "
machine_text (machine.Missing k) = codes "2 " ++ key_text k
machine_text (machine.BadValue k) = codes "3 " ++ key_text k
machine_text (machine.Limit k) = codes "4 " ++ key_text k

abbrev pub module_reason : ModuleFault → List ℕ
module_reason module_fault.NotMz = codes "1"
module_reason module_fault.NotNe = codes "2"
module_reason (module_fault.Truncated place) = codes "3"
module_reason module_fault.NotOs2 = codes "4"
module_reason module_fault.LinkErrors = codes "5"
module_reason (module_fault.BadTable which) = codes "6"
module_reason (module_fault.OutOfProfile which) = codes "7"
module_reason (module_fault.BadChain segment place) = codes "8"
module_reason (module_fault.BadTarget segment number) = codes "9"
module_reason (module_fault.NoModule name) = codes "10"
module_reason (module_fault.NoOrdinal name ordinal) = codes "11"
module_reason (module_fault.NoName name export) = codes "12"
module_reason (module_fault.TwoModules name) = codes "13"
module_reason (module_fault.NoSelector name) = codes "14"
module_reason module_fault.NoStack = codes "15"
module_reason module_fault.NoEntry = codes "16"
module_reason module_fault.NoSegment = codes "17"
module_reason (module_fault.NoShim name) = codes "18"

abbrev pub line_of : List ℕ → List ℕ
line_of text = codes "os2run: " ++ text ++ 10 ∷ []

-- the line of a status, none where all is fine
abbrev pub status_text : Status → List ℕ
status_text status.Fine = []
status_text status.BadWords = line_of (codes "usage: os2run exe FILE, run FILE, check FILE, bench N or dump FILE")
status_text (status.NoFile name) = line_of (codes "no file " ++ name)
status_text (status.BadMachine fault) = line_of (codes "machine file: reason " ++ machine_text fault)
status_text (status.BadModule name fault) = line_of (codes "module " ++ (name ++ (codes ": reason " ++ module_reason fault)))
status_text status.FileFault = line_of (codes "file fault")
status_text status.InputFault = line_of (codes "input fault")
status_text status.SinkFault = line_of (codes "output fault")
status_text status.NoRoom = line_of (codes "no room")
status_text status.SwapFull = line_of (codes "swap full")
status_text status.SwapFault = line_of (codes "swap fault")
status_text status.NoMemory = line_of (codes "no memory")
