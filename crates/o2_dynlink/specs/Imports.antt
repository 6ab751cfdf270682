-- Where the records of a module lead: within it, to a service, or to what a library exports. The library at the place `shim`
-- answers for the services' module where the services don't.
use Rattle.std.specs.Prelude.{ℕ, ◌+◌, ◌%◌, ◌==◌, List, [], ◌∷◌, ◌++◌, Option, Some, None, find, option_and_then, option_map, Result, Ok, Err, if◌then◌else◌}
use Rattle.std.specs.List.{position_from}
use Rattle.std.specs.Option.{option_map_or}
use Rattle.o2_base.specs.Services.{gate_of, is_built, services}
use Rattle.o2_base.specs.declared.faults.ModuleFault.{ModuleFault}
use Rattle.o2_base.specs.declared.faults.ModuleFault.TheVariants.{NoModule, NoName, NoOrdinal}
use Rattle.o2_ne.specs.Checks.{◌>>=◌}
use Rattle.o2_ne.specs.EntryTable.{target_of}
use Rattle.o2_ne.specs.NameTable.{ordinal_of, same_name}
use Rattle.o2_ne.specs.Steps.{over}
use Rattle.o2_ne_segs.specs.declared.reloc.Reloc.{Reloc}
use Rattle.o2_image.specs.Getters.{imported_name, nth, nth_list}
use Rattle.o2_image.specs.Images.{Target}
use Rattle.o2_image.specs.Parts.{Parts}
use Rattle.o2_image.specs.Targets.{target_kind}
use Rattle.o2_dynlink.specs.Listed.{doscalls, is_doscalls, library_named}
use Rattle.o2_dynlink.specs.Selectors.{base_at, point}

-- what f gives of each item, or the first fault
abbrev pub gather : {X Y F : Type 0} → (X → Result Y F) → X → List Y → Result (List Y) F
gather f x found = do
  y ← f x
  Ok (found ++ y ∷ [])

abbrev pub each : {X Y F : Type 0} → (X → Result Y F) → List X → Result (List Y) F
each f xs = over (gather f) xs []

-- whether something is given
abbrev pub passed : {Y F : Type 0} → Result Y F → Result (Unit {0}) F
passed (Ok y) = Ok tt
passed (Err e) = Err e

-- what f gives of each item of a list of lists, by its number from 1
abbrev pub on_list : {X Y F : Type 0} → (X → Result Y F) → List (List X) → ℕ → Result (List Y) F
on_list f xss n = each f (nth_list xss n)

-- the gate of a service that the machine has
abbrev pub gate_of_built : Option ℕ → Option Target
gate_of_built None = None
gate_of_built (Some s) = if is_built s then Some (gate_of s, 0) else None

-- that gate, or what there is in its place
abbrev pub gate_or : Option Target → Result Target ModuleFault → Result Target ModuleFault
gate_or None other = other
gate_or (Some gate) other = Ok gate

-- the service with an ordinal of the list, and the one of a name
abbrev pub service_with : List (ℕ × ℕ) → ℕ → Option ℕ
service_with ordinals n = option_map (λ p. p.0) (find (λ p. p.1 == n) ordinals)

abbrev pub service_called : List ℕ → Option ℕ
service_called name = option_map (λ i. i + 1) (position_from (λ s. same_name s.name name) 0 services)

abbrev pub entry_or : ℕ → Option (ℕ × ℕ) → ModuleFault → Result Target ModuleFault
entry_or base None fault = Err fault
entry_or base (Some e) fault = Ok (point base e)

-- an entry of a library at a base by its ordinal, and by its name
abbrev pub exported : ℕ → List ℕ → ℕ → Option Parts → Result Target ModuleFault
exported base name n None = Err (NoModule name)
exported base name n (Some m) = entry_or base (target_of n m.entries) (NoOrdinal name n)

abbrev pub exported_as : ℕ → List ℕ → List ℕ → Option Parts → Result Target ModuleFault
exported_as base name text None = Err (NoModule name)
exported_as base name text (Some m) =
    entry_or base (option_and_then (λ n. target_of n m.entries) (ordinal_of text m.names.names)) (NoName name text)

-- the listed library of a name
abbrev pub found_at : List Parts → Option ℕ → Option Parts
found_at ms place = option_and_then (nth ms) place

abbrev pub base_for : List ℕ → Option ℕ → ℕ
base_for bases place = option_map_or (base_at bases) place 0

-- an entry of a listed module by its ordinal, and by its name
abbrev pub entry_with : ℕ → Option Parts → Option (ℕ × ℕ)
entry_with n m = option_and_then (λ (m : Parts). target_of n m.entries) m

abbrev pub entry_called : List ℕ → Option Parts → Option (ℕ × ℕ)
entry_called text m = option_and_then (λ (m : Parts). option_and_then (λ n. target_of n m.entries) (ordinal_of text m.names.names)) m

-- what the services' module has beside the services: the entries of the library at the place `shim`, by ordinal and by name
abbrev pub shim_ordinal : List Parts → List ℕ → Option ℕ → ℕ → Result Target ModuleFault
shim_ordinal ms bases shim n = entry_or (base_for bases shim) (entry_with n (found_at ms shim)) (NoOrdinal doscalls n)

abbrev pub shim_name : List Parts → List ℕ → Option ℕ → List ℕ → Result Target ModuleFault
shim_name ms bases shim text = entry_or (base_for bases shim) (entry_called text (found_at ms shim)) (NoName doscalls text)

-- ordinal n, or the name `text`, of the module `name`; of the services' module a built service comes first
abbrev pub import_ordinal : List Parts → List ℕ → Option ℕ → List (ℕ × ℕ) → List ℕ → ℕ → Result Target ModuleFault
import_ordinal ms bases shim ordinals name n =
    if is_doscalls name then gate_or (gate_of_built (service_with ordinals n)) (shim_ordinal ms bases shim n)
    else exported (base_for bases (library_named ms name)) name n (found_at ms (library_named ms name))

abbrev pub import_name : List Parts → List ℕ → Option ℕ → List ℕ → List ℕ → Result Target ModuleFault
import_name ms bases shim name text =
    if is_doscalls name then gate_or (gate_of_built (service_called text)) (shim_name ms bases shim text)
    else exported_as (base_for bases (library_named ms name)) name text (found_at ms (library_named ms name))

-- a segment of the module itself, or an entry of it; a checked module has it
abbrev pub internal : ℕ → Parts → Reloc → Target
internal base m r =
    if r.first % 256 == 255 then option_map_or (point base) (target_of r.second m.entries) (0, 0)
    else point base (r.first % 256, r.second)

-- the imported name at an offset; a checked module has it
abbrev pub import_text : List Parts → List ℕ → Option ℕ → List ℕ → Option (List ℕ) → Result Target ModuleFault
import_text ms bases shim name None = Ok (0, 0)
import_text ms bases shim name (Some text) = import_name ms bases shim name text

-- an import of a reference; a checked module has it
abbrev pub imported : List Parts → List ℕ → Option ℕ → List (ℕ × ℕ) → Parts → Reloc → Option (List ℕ) → Result Target ModuleFault
imported ms bases shim ordinals m r None = Ok (0, 0)
imported ms bases shim ordinals m r (Some name) =
    if target_kind r == 1 then import_ordinal ms bases shim ordinals name r.second
    else import_text ms bases shim name (imported_name m r.second)

-- where a record leads; a system fixup leads nowhere
abbrev pub target_in : List Parts → List ℕ → Option ℕ → List (ℕ × ℕ) → ℕ → Parts → Reloc → Result Target ModuleFault
target_in ms bases shim ordinals base m r =
    if target_kind r == 0 then Ok (internal base m r)
    else (if target_kind r == 3 then Ok (0, 0) else imported ms bases shim ordinals m r (nth m.references r.first))

-- where all records of a module lead, by segment and record
abbrev pub targets_of : List Parts → List ℕ → Option ℕ → List (ℕ × ℕ) → ℕ → Parts → Result (List (List Target)) ModuleFault
targets_of ms bases shim ordinals base m = each (each (target_in ms bases shim ordinals base m)) m.relocs
