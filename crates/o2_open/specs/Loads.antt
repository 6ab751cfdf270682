-- What a command opens, or its first refusal: the machine file, each module in its order, and linking.
use Rattle.std.specs.Prelude.{ℕ, List, [], ◌∷◌, ◌++◌, ◌≡◌, length, map, nat_lt, unwrap_or, if◌then◌else◌, ◌==◌, Option, Some, None, Result, Ok, Err}
use Rattle.o2_base.specs.declared.faults.Key.TheVariants as key
use Rattle.o2_base.specs.declared.faults.MachineFault.TheVariants.{Limit}
use Rattle.o2_base.specs.declared.faults.ModuleFault.{ModuleFault}
use Rattle.o2_base.specs.declared.faults.ModuleFault.TheVariants.{NoModule, NoShim, OutOfProfile, NoStack, NoEntry, NoSegment}
use Rattle.o2_base.specs.declared.faults.Which.TheVariants.{FileLength}
use Rattle.o2_outer.specs.Texts.{Rose}
use Rattle.o2_words.specs.declared.words.Verb.{Verb}
use Rattle.o2_words.specs.declared.words.Verb.TheVariants.{Exe, Run, Check, Dump, Bench}
use Rattle.o2_conf.specs.declared.conf.Conf.{Conf}
use Rattle.o2_conf.specs.Setting.{setting}
use Rattle.o2_conf.specs.Environments.{environment_bytes}
use Rattle.o2_conf.specs.Alone.{exe_setting}
use Rattle.o2_gen.specs.BenchModule.{bench_module}
use Rattle.o2_gen.specs.BenchSetting.{bench_setting}
use Rattle.o2_image.specs.Parts.{Parts}
use Rattle.o2_image.specs.Modules.{module_of}
use Rattle.o2_image.specs.Getters.{nth, nth_list}
use Rattle.o2_dynlink.specs.declared.fault.LinkFault.{LinkFault}
use Rattle.o2_dynlink.specs.Linking.{linked_of}
pub use Rattle.o2_dynlink.specs.Linking.{IsLinked}
use Rattle.o2_open.specs.declared.session.Session.{Session}
use Rattle.o2_open.specs.declared.fault.OpenFault.{OpenFault}
use Rattle.o2_open.specs.declared.fault.OpenFault.TheVariants as open_fault

-- what the files hold under each name
abbrev pub Contents : Type 0
Contents = List ℕ → Option (List ℕ)

infixl 10 ◌>>=◌
abbrev pub ◌>>=◌ : {X Y : Type 0} → Result X OpenFault → (X → Result Y OpenFault) → Result Y OpenFault
(Ok x) >>= f = f x
(Err e) >>= f = Err e

-- a reading of a part, by whose fault a command opens nothing
abbrev pub under : {X F : Type 0} → (F → OpenFault) → Result X F → Result X OpenFault
under refusal (Ok x) = Ok x
under refusal (Err fault) = Err (refusal fault)

-- the bytes of a file, `most` at most
abbrev pub found : List ℕ → ℕ → OpenFault → Option (List ℕ) → Result (List ℕ) OpenFault
found name most too_long None = Err (open_fault.NoFile name)
found name most too_long (Some file) = if nat_lt most (length file) then Err too_long else Ok file

-- a module, in a file of at most 4,194,304 bytes
unfoldable pub module_in : Contents → List ℕ → Result Parts OpenFault
module_in contents name = do
  file ← found name 4194304 (open_fault.BadModule name (OutOfProfile FileLength)) (contents name)
  under (open_fault.BadModule name) (module_of file)

-- the modules in these files, one after the other
abbrev pub modules_in : Contents → List (List ℕ) → List Parts → Result (List Parts) OpenFault
modules_in contents [] so_far = Ok so_far
modules_in contents (name ∷ names) so_far = module_in contents name >>= (λ m. modules_in contents names (so_far ++ m ∷ []))

-- a machine file, of at most 1,048,576 bytes
unfoldable pub machine_in : Contents → List ℕ → Result Conf OpenFault
machine_in contents name = do
  file ← found name 1048576 (open_fault.BadMachine (Limit key.File)) (contents name)
  under open_fault.BadMachine (setting file)

-- the name of the module that a process, or the key `shim`, asks for
abbrev pub asked : ModuleFault → List ℕ
asked (NoModule name) = name
asked (NoShim name) = name
asked _ = []

-- the file that a refusal of linking is about, or the module that a process or the key `shim` asks for
abbrev pub link_refusal : Conf → LinkFault → OpenFault
link_refusal c f = open_fault.BadModule (if f.file == 0 then asked f.fault else nth_list c.modules f.file) f.fault

-- the modules of a setting, linked
abbrev pub linked_in : Conf → List Parts → Result Session OpenFault
linked_in c ms = under (link_refusal c) (linked_of ms c) >>= (λ l. Ok (record { conf = c; linked = l }))

-- the environments of a session's images are those of its setting
abbrev pub HasEnvironments : Session → Type 0
HasEnvironments s = s.linked.images.environments ≡ map environment_bytes s.conf.process

-- a start that is refused: by the file of the program that the process runs, where the programs lie at these places
abbrev pub start_refusal : Conf → (programs : List ℕ) → ℕ → ModuleFault → OpenFault
start_refusal c programs pid fault = open_fault.BadModule (nth_list c.modules (unwrap_or (nth programs pid) 0)) fault

-- what `exe` opens: the module in a file, as the only one
abbrev pub exe_loaded : Contents → List ℕ → Result Session OpenFault
exe_loaded contents name = module_in contents name >>= (λ m. linked_in (exe_setting name m.names.own) (m ∷ []))

-- what `run`, `check` and `dump` open: a machine file, and the modules that it names
abbrev pub run_loaded : Contents → List ℕ → Result Session OpenFault
run_loaded contents name = machine_in contents name >>= (λ c. modules_in contents c.modules [] >>= linked_in c)

-- what `bench` opens: its own module, by its own setting
abbrev pub bench_loaded : (count : ℕ) → Result Session OpenFault
bench_loaded count = linked_in (bench_setting count) (bench_module ∷ [])

-- what a command opens, or its first refusal
unfoldable pub loaded : Verb → Contents → List ℕ → Result Session OpenFault
loaded Exe contents name = exe_loaded contents name
loaded Run contents name = run_loaded contents name
loaded Check contents name = run_loaded contents name
loaded Dump contents name = run_loaded contents name
loaded (Bench count) contents name = bench_loaded count

-- What a function that loads gives, seen by view: what is loaded, or its refusal, or there was no memory, or the files failed.
abbrev pub Fails : {Y : Type 0} → OpenFault → Result Y OpenFault → Type 0
Fails open_fault.NoMemory read = Unit {0}
Fails open_fault.FileFault read = Unit {0}
Fails s read = read ≡ Err s

abbrev pub Loads : {X Y : Type 0} → (X → Y) → Result X OpenFault → Result Y OpenFault → Type 0
Loads view (Ok x) read = read ≡ Ok (view x)
Loads view (Err s) read = Fails s read

-- the refusal, unless there was no memory for it
abbrev pub Tells : OpenFault → OpenFault → Type 0
Tells open_fault.NoMemory wanted = Unit {0}
Tells s wanted = s ≡ wanted

-- a reason that a start alone has: no stack, no entry point, too many segments
abbrev pub IsOfStart : ModuleFault → Type 0
IsOfStart NoStack = Unit {0}
IsOfStart NoEntry = Unit {0}
IsOfStart NoSegment = Unit {0}
IsOfStart _ = ⊥

-- what may keep a command from opening, with the counts of the files' faults before and after: never what a start asks for
abbrev pub Refuses : ℕ → ℕ → OpenFault → Type 0
Refuses before now open_fault.NoMemory = Unit {0}
Refuses before now open_fault.FileFault = Rose before now
Refuses before now (open_fault.NoFile name) = Unit {0}
Refuses before now (open_fault.BadMachine fault) = Unit {0}
Refuses before now (open_fault.BadModule name fault) = IsOfStart fault → ⊥
