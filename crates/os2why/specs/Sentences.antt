-- The sentences of refusals, with each name and number that the refusal has.
use Rattle.std.specs.Prelude.{ℕ, ◌+◌, ◌==◌, ◌&&◌, nat_le, Bool, true, false, List, [], ◌∷◌, ◌++◌, Option, Some, None, option_map, codes, if◌then◌else◌}
use Rattle.std.specs.List.{position_from}
use Rattle.std.specs.Fmt.{decimal, digits}
use Rattle.o2_base.specs.Services.{ServiceRow, services, row_at, is_built}
use Rattle.o2_base.specs.declared.faults.Which.{Which}
use Rattle.o2_base.specs.declared.faults.Which.TheVariants as which
use Rattle.o2_base.specs.declared.faults.Key.{Key}
use Rattle.o2_base.specs.declared.faults.Key.TheVariants as key
use Rattle.o2_base.specs.declared.faults.ModuleFault.{ModuleFault}
use Rattle.o2_base.specs.declared.faults.ModuleFault.TheVariants as fault
use Rattle.o2_base.specs.declared.faults.MachineFault.{MachineFault}
use Rattle.o2_base.specs.declared.faults.MachineFault.TheVariants as machine
use Rattle.o2_open.specs.declared.fault.OpenFault.{OpenFault}
use Rattle.o2_open.specs.declared.fault.OpenFault.TheVariants as open_fault
use Rattle.o2_dynlink.specs.Imports.{service_called}
use Rattle.o2_dynlink.specs.Listed.{is_doscalls}
use Rattle.o2_cli.specs.StatusTexts.{key_text, machine_text, module_reason}
use Rattle.o2_tool.specs.Text.{hex4, shown_text}

-- what a table or a limit is about
abbrev pub which_text : Which → List ℕ
which_text which.DataMode = codes "its header's data mode (bits 0 and 1 of the flags) is 3, which is none"
which_text which.Shift = codes "its alignment shift is above 15"
which_text which.AutoData = codes "its automatic data segment isn't in the segment table, or isn't writable data"
which_text which.Names = codes "it has no module name, or one with a line end in it"
which_text which.Entries = codes "an entry's segment isn't in the segment table"
which_text which.FileLength = codes "the file has more than 4,194,304 bytes"
which_text which.Segments = codes "it has more than 254 segments"
which_text which.References = codes "it has more than 255 module references"
which_text which.Iterated = codes "a segment is iterated (LINK /EXEPACK): link the program again without packing"
which_text which.Conforming = codes "a segment is conforming code or expand-down data"
which_text which.Ring = codes "a segment has privilege level 1 or 2 (IOPL)"
which_text which.Wide = codes "a segment is one of 32 bits"
which_text which.AutoSize = codes "automatic data, stack and heap together have more than 65,536 bytes: link it with less stack or heap"
which_text which.Constant = codes "its entry table has constants"

-- the service that DOSCALLS has under an ordinal, where the machine file gives no list of its own
abbrev pub service_of : ℕ → Option ℕ
service_of ordinal = option_map (λ i. i + 1) (position_from (λ s. s.ordinal == ordinal) 0 services)

abbrev pub row_name : Option ServiceRow → List ℕ
row_name None = []
row_name (Some r) = r.name

-- the name of a service
abbrev pub call_name : ℕ → List ℕ
call_name number = row_name (row_at number)

-- an import by an ordinal
abbrev pub import_text : List ℕ → ℕ → List ℕ → List ℕ
import_text name ordinal rest = codes "it imports " ++ (shown_text name ++ (codes "." ++ (decimal ordinal ++ rest)))

-- an import of a service that isn't built
abbrev pub unbuilt_text : List ℕ → ℕ → ℕ → List ℕ
unbuilt_text name ordinal number = import_text name ordinal (codes " (" ++ (shown_text (call_name number) ++ codes "), which isn't built yet"))

-- why an import of a service isn't there: it isn't built, or the machine file leaves its ordinal out
abbrev pub known_text : List ℕ → ℕ → ℕ → List ℕ
known_text name ordinal number =
    if is_built number
    then import_text name ordinal (codes " (" ++ (shown_text (call_name number) ++ codes "), which the table [ordinals] of the machine file leaves out"))
    else unbuilt_text name ordinal number

-- where the machine file has no service under the ordinal
abbrev pub usual_text : List ℕ → ℕ → Option ℕ → List ℕ
usual_text name ordinal None = import_text name ordinal (codes ", and this machine has no call of that ordinal")
usual_text name ordinal (Some number) = known_text name ordinal number

-- and where it has one, which then isn't built
abbrev pub call_text : List ℕ → ℕ → Option ℕ → List ℕ
call_text name ordinal None = usual_text name ordinal (service_of ordinal)
call_text name ordinal (Some number) = unbuilt_text name ordinal number

-- the number of a service, where it is one
abbrev pub in_table : Option ℕ → Option ℕ
in_table None = None
in_table (Some number) = if nat_le 1 number && nat_le number 31 then Some number else None

-- why an import by an ordinal isn't there; the machine file has the service `listed` under it
abbrev pub ordinal_text : List ℕ → ℕ → Option ℕ → List ℕ
ordinal_text name ordinal listed =
    if is_doscalls name then call_text name ordinal (in_table listed)
    else import_text name ordinal (codes ", and " ++ (shown_text name ++ codes " has no entry of that ordinal"))

abbrev pub named_text : List ℕ → List ℕ → Option ℕ → List ℕ
named_text name call None = codes "it imports " ++ (shown_text name ++ (codes "." ++ (shown_text call ++ codes ", and this machine has no call of that name")))
named_text name call (Some number) = codes "it imports " ++ (shown_text name ++ (codes "." ++ (shown_text call ++ codes ", which isn't built yet")))

-- why an import by a name isn't there
abbrev pub name_text : List ℕ → List ℕ → List ℕ
name_text name call =
    if is_doscalls name then named_text name call (service_called call)
    else codes "it imports " ++ (shown_text name ++ (codes "." ++ (shown_text call ++ (codes ", and " ++ (shown_text name ++ codes " exports no such name")))))

-- why a name is that of no module; a process asks for it, or else another module does
abbrev pub lost_text : Bool → List ℕ → List ℕ
lost_text true name = codes "a process runs the module " ++ (shown_text name ++ codes ", which no file of `modules` is. `module` is the name in the executable, and not the file's")
lost_text false name = codes "it refers to the module " ++ (shown_text name ++ codes ", which is neither DOSCALLS nor a library among the files that are named")

-- why a relocation isn't done, and why a module's name isn't its own
abbrev pub target_text : ℕ → ℕ → List ℕ
target_text segment number = codes "segment " ++ (decimal segment ++ (codes ": its relocation " ++ (decimal number ++ codes ", from 0, is of an unknown kind, or what it leads to isn't there")))

abbrev pub taken_text : List ℕ → List ℕ
taken_text name = codes "another module has its name, " ++ (shown_text name ++ codes ", or it is named DOSCALLS")

-- why the key `shim` is refused
abbrev pub shim_text : List ℕ → List ℕ
shim_text name = codes "no library among the files that are named has the name " ++ (shown_text name ++ codes ", which the key `shim` gives")

-- why a module is refused; of a module that isn't there, whether a process asks for it, and of an ordinal, which service the machine
-- file has under it
abbrev pub words_of : Bool → Option ℕ → ModuleFault → List ℕ
words_of asked listed fault.NotMz = codes "it doesn't begin with MZ: it is no executable"
words_of asked listed fault.NotNe = codes "there is no NE where the four bytes at 3Ch say: it is a program of DOS, or one of 32 bits"
words_of asked listed (fault.Truncated place) = codes "it ends early: byte "
    ++ (decimal place ++ (codes " (" ++ (digits 16 true place ++ codes "h), from 0, isn't there. It is cut off, or was copied as text")))
words_of asked listed fault.NotOs2 = codes "it is for another system, as Windows: byte 36h of its NE header is neither 0 nor 1"
words_of asked listed fault.LinkErrors = codes "its linker marked it as having errors (flag 2000h): link it again"
words_of asked listed (fault.BadTable w) = which_text w
words_of asked listed (fault.OutOfProfile w) = which_text w
words_of asked listed (fault.BadChain segment place) = codes "segment "
    ++ (decimal segment ++ (codes ": at offset " ++ (hex4 place ++ codes "h a relocation's chain leaves the segment's bytes, or meets a byte that is patched already")))
words_of asked listed (fault.BadTarget segment number) = target_text segment number
words_of asked listed (fault.NoModule name) = lost_text asked name
words_of asked listed (fault.NoOrdinal name ordinal) = ordinal_text name ordinal listed
words_of asked listed (fault.NoName name call) = name_text name call
words_of asked listed (fault.TwoModules name) = taken_text name
words_of asked listed (fault.NoSelector name) = codes "no selectors are left for the segments of the library " ++ shown_text name
words_of asked listed fault.NoStack = codes "it has no stack: SS names no writable data, or there is neither a stack segment nor automatic data"
words_of asked listed fault.NoEntry = codes "it has no entry point: CS:IP lies in no code of it, or past its end, or it is a library"
words_of asked listed fault.NoSegment = codes "its processes want more segments than the key `segments` allows: raise it"
words_of asked listed (fault.NoShim name) = shim_text name

-- whether an import of DOSCALLS is refused
abbrev pub asks_system : ModuleFault → Bool
asks_system (fault.NoOrdinal name ordinal) = is_doscalls name
asks_system (fault.NoName name call) = is_doscalls name
asks_system _ = false

-- what is told of such an import beside: a library may give it, or the one that the key `shim` names hasn't it
abbrev pub gift_text : Option (List ℕ) → List ℕ
gift_text None = codes ". A library that answers for DOSCALLS (the key `shim`) may give it"
gift_text (Some shim) = codes ", and the shim " ++ (shown_text shim ++ codes " has none either")

abbrev pub beside_text : Option (List ℕ) → ModuleFault → List ℕ
beside_text shim f = if asks_system f then gift_text shim else []

-- the number of the reason as os2run tells it, and why
abbrev pub sentence_of : Bool → Option ℕ → Option (List ℕ) → ModuleFault → List ℕ
sentence_of asked listed shim f = codes "reason " ++ (module_reason f ++ (codes ": " ++ (words_of asked listed f ++ beside_text shim f)))

-- what a key has to be
abbrev pub form_text : Key → List ℕ
form_text key.File = codes "a TOML document"
form_text key.Memory = codes "a number, without quotes and without a point"
form_text key.Swap = codes "a number, without quotes and without a point"
form_text key.Segments = codes "a number, without quotes and without a point"
form_text key.Budget = codes "a number, without quotes and without a point"
form_text key.Quantum = codes "a number, without quotes and without a point"
form_text key.Avail = codes "a number, without quotes and without a point"
form_text key.Modules = codes "an array of texts without zero bytes, as [\"hello.exe\"]"
form_text key.Process = codes "an array of tables, each below a line [[process]]"
form_text key.ProcessModule = codes "one text without a zero byte"
form_text key.ProcessArguments = codes "one text without a zero byte"
form_text key.ProcessEnvironment = codes "an array of texts without zero bytes"
form_text key.Ordinals = codes "a table with the names of calls, in exactly their letters, each with an ordinal of its own"
form_text key.Script = codes "an array of texts, each discard, or P:N without blanks, signs or leading zeros"
form_text key.Shim = codes "one text without a zero byte"

-- the limits of a key
abbrev pub limits_text : Key → List ℕ
limits_text key.File = codes "the file has at most 1,048,576 bytes"
limits_text key.Memory = codes "it is a multiple of 16 from 4,096 to 16,777,216"
limits_text key.Swap = codes "it is 0 to 65,536"
limits_text key.Segments = codes "it is 1 to 65,535"
limits_text key.Budget = codes "it is 0 to 4,000,000,000"
limits_text key.Quantum = codes "it is 1 to 1,000,000"
limits_text key.Avail = codes "it is 0 to 4,294,967,295"
limits_text key.Modules = codes "there are 1 to 64, each of 1 to 255 bytes"
limits_text key.Process = codes "there are 1 to 64"
limits_text key.ProcessModule = codes "it has 1 to 255 bytes"
limits_text key.ProcessArguments = codes "it has no zero byte"
limits_text key.ProcessEnvironment = codes "with the module's name and the arguments it makes a segment of at most 65,536 bytes"
limits_text key.Ordinals = codes "an ordinal is 1 to 65,535"
limits_text key.Script = codes "there are at most 100,000 words, of a process 1 to 65,535 with 1 to 4,000,000,000 steps"
limits_text key.Shim = codes "it has 1 to 255 bytes"

-- why a machine file is refused
abbrev pub machine_words : MachineFault → List ℕ
machine_words machine.BadToml = codes "it is no TOML document"
machine_words (machine.Missing k) = codes "the key `" ++ (key_text k ++ codes "` is missing")
machine_words (machine.BadValue k) = codes "the key `" ++ (key_text k ++ (codes "` has another type or form: it is " ++ form_text k))
machine_words (machine.Limit k) = codes "the key `" ++ (key_text k ++ (codes "` is outside its limits: " ++ limits_text k))

-- the number of the reason and the key as os2run tells them, and why
abbrev pub machine_sentence : MachineFault → List ℕ
machine_sentence f = codes "reason " ++ (machine_text f ++ (codes ": " ++ machine_words f))

-- what is refused: the module in a file, a process whose module no file has, or the key `shim`
abbrev pub place_text : Bool → List ℕ → List ℕ
place_text true name = codes "a process has no module"
place_text false name = codes "the module in " ++ (shown_text name ++ codes " is refused")

abbrev pub head_text : Bool → List ℕ → ModuleFault → List ℕ
head_text asked name (fault.NoShim shim) = codes "the key `shim` names no listed library"
head_text asked name _ = place_text asked name

-- why a module doesn't open
abbrev pub module_text : Bool → Option ℕ → Option (List ℕ) → List ℕ → ModuleFault → List ℕ
module_text asked listed shim name f = head_text asked name f ++ (codes "\n  " ++ sentence_of asked listed shim f)

-- why a command isn't opened; of a module that isn't there, whether a process asks for it; of an ordinal, which service the machine
-- file has under it; and of an import of DOSCALLS, the shim that it names
abbrev pub cause_text : Bool → Option ℕ → Option (List ℕ) → OpenFault → List ℕ
cause_text asked listed shim (open_fault.NoFile name) = codes "there is no file " ++ shown_text name
cause_text asked listed shim (open_fault.BadMachine f) = codes "the machine file is refused\n  " ++ machine_sentence f
cause_text asked listed shim (open_fault.BadModule name f) = module_text asked listed shim name f
cause_text asked listed shim open_fault.FileFault = codes "a file can't be read"
cause_text asked listed shim open_fault.NoMemory = codes "there is no memory for it"
