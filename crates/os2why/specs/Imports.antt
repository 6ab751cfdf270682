-- What an inventory says of an import.
use Rattle.std.specs.Prelude.{ℕ, Bool, true, false, List, ◌++◌, Option, Some, None, codes, find, is_some, option_and_then, if◌then◌else◌}
use Rattle.std.specs.Fmt.{decimal}
use Rattle.o2_base.specs.Services.{is_built}
use Rattle.o2_image.specs.Parts.{Parts}
use Rattle.o2_dynlink.specs.Imports.{entry_called, entry_with, service_called, service_with}
use Rattle.o2_dynlink.specs.Listed.{is_doscalls, is_library_named}
use Rattle.o2_tool.specs.Text.{shown_text}
use Rattle.os2why.specs.Sentences.{call_name, in_table}
use Rattle.os2why.specs.declared.imports.State.{State}
use Rattle.os2why.specs.declared.imports.State.TheVariants.{Missing, Wanted, Given, Shim, Built}

-- the service that an import by an ordinal of the list, or by a name, is of, where it is of one
abbrev pub by_ordinal : List (ℕ × ℕ) → List ℕ → ℕ → Option ℕ
by_ordinal ordinals name ordinal = if is_doscalls name then in_table (service_with ordinals ordinal) else None

abbrev pub by_name : List ℕ → List ℕ → Option ℕ
by_name name symbol = if is_doscalls name then service_called symbol else None

-- an import is there where it is of a service that is built
abbrev pub is_there : Option ℕ → Bool
is_there None = false
is_there (Some number) = is_built number

-- the library that imports from a module are looked up in: the listed one of its name, and for DOSCALLS the shim
abbrev pub library_for : Option (List ℕ) → List Parts → List ℕ → Option Parts
library_for shim ms name =
    if is_doscalls name then option_and_then (λ (own : List ℕ). find (is_library_named own) ms) shim
    else find (is_library_named name) ms

-- whether it has the import as an entry
abbrev pub gives_ordinal : Option (List ℕ) → List Parts → List ℕ → ℕ → Bool
gives_ordinal shim ms name ordinal = is_some (entry_with ordinal (library_for shim ms name))

abbrev pub gives_name : Option (List ℕ) → List Parts → List ℕ → List ℕ → Bool
gives_name shim ms name symbol = is_some (entry_called symbol (library_for shim ms name))

-- who has an import: a built service comes first, then a library; what neither has a shim would have to give, if it is from DOSCALLS
abbrev pub state_of : Bool → Bool → Bool → State
state_of true is_system is_given = Built
state_of false true true = Shim
state_of false true false = Wanted
state_of false false true = Given
state_of false false false = Missing

-- the text of an import: its service's name, or else this one
abbrev pub label_or : Option ℕ → List ℕ → List ℕ
label_or None other = other
label_or (Some number) other = codes "DOSCALLS." ++ shown_text (call_name number)

abbrev pub ordinal_label : List ℕ → ℕ → List ℕ
ordinal_label name ordinal = shown_text name ++ (codes "." ++ decimal ordinal)

abbrev pub name_label : List ℕ → List ℕ → List ℕ
name_label name symbol = shown_text name ++ (codes "." ++ shown_text symbol)
