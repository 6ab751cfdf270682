-- Linking: its checks in their order, and what it gives.
use Rattle.std.specs.Prelude.{◌≡◌, ℕ, ◌+◌, All, List, [], ◌∷◌, ◌++◌, Option, Some, None, length, map, nat_le, Result, Ok, Err, if◌then◌else◌}
use Rattle.std.specs.List.{zip}
use Rattle.o2_base.specs.declared.faults.ModuleFault.{ModuleFault}
use Rattle.o2_base.specs.declared.faults.ModuleFault.TheVariants.{NoModule, NoSelector, NoShim, TwoModules}
use Rattle.o2_conf.specs.declared.conf.Conf.{Conf}
use Rattle.o2_conf.specs.declared.process.Process.{Process}
use Rattle.o2_conf.specs.Environments.{environment_bytes}
use Rattle.o2_ne.specs.Checks.{◌>>=◌}
use Rattle.o2_ne.specs.Steps.{over}
use Rattle.o2_image.specs.Images.{Target}
use Rattle.o2_image.specs.Parts.{Parts}
use Rattle.o2_image.specs.Whole.{IsRunnable}
use Rattle.o2_dynlink.specs.declared.fault.LinkFault.{LinkFault}
use Rattle.o2_dynlink.specs.Imports.{each, targets_of}
use Rattle.o2_dynlink.specs.Listed.{is_taken, library_named, lost_reference, module_named}
use Rattle.o2_dynlink.specs.Outcome.{LinkedParts}
use Rattle.o2_dynlink.specs.Reached.{libraries_of}
use Rattle.o2_dynlink.specs.Selectors.{base_at, bases_of}

abbrev pub refusal : ℕ → ModuleFault → LinkFault
refusal place fault = record { file = place; fault = fault }

-- a refusal of the module at a place
abbrev pub at_place : {X : Type 0} → ℕ → Result X ModuleFault → Result X LinkFault
at_place place (Ok x) = Ok x
at_place place (Err fault) = Err (refusal place fault)

-- the name of the module at index i is its own
unfoldable pub name_step : List Parts → Parts → ℕ → Result ℕ LinkFault
name_step ms m i = if is_taken ms i m.names.own then Err (refusal (i + 1) (TwoModules m.names.own)) else Ok (i + 1)

abbrev pub none_lost : Option (List ℕ) → Result (Unit {0}) ModuleFault
none_lost None = Ok tt
none_lost (Some name) = Err (NoModule name)

-- the place of the library that answers for the services' module, by the name that the machine file gives
abbrev pub shim_or : List ℕ → Option ℕ → Result (Option ℕ) LinkFault
shim_or name None = Err (refusal 0 (NoShim name))
shim_or name (Some place) = Ok (Some place)

abbrev pub shim_of : List Parts → Option (List ℕ) → Result (Option ℕ) LinkFault
shim_of ms None = Ok None
shim_of ms (Some name) = shim_or name (library_named ms name)

-- each reference of a module is to a listed library or to the services' module, and each import is defined
unfoldable pub module_targets : List Parts → List ℕ → Option ℕ → List (ℕ × ℕ) → ℕ → Parts → Result (List (List Target)) ModuleFault
module_targets ms bases shim ordinals base m = do
  _ ← none_lost (lost_reference ms m)
  targets_of ms bases shim ordinals base m

-- the targets of one module more
unfoldable pub module_step : List Parts → List ℕ → Option ℕ → List (ℕ × ℕ) → Parts → List (List (List Target)) → Result (List (List (List Target))) LinkFault
module_step ms bases shim ordinals m found = do
  targets ← at_place (length found + 1) (module_targets ms bases shim ordinals (base_at bases (length found + 1)) m)
  Ok (found ++ targets ∷ [])

abbrev pub place_or : List ℕ → Option ℕ → Result ℕ LinkFault
place_or name None = Err (refusal 0 (NoModule name))
place_or name (Some place) = Ok place

-- the place of the module that a process runs
abbrev pub program_of : List Parts → Process → Result ℕ LinkFault
program_of ms p = place_or p.«module» (module_named ms p.«module»)

-- the segments of the module at index i lie in the table, whose last index is 8191, as those of a program always do
unfoldable pub region_step : List ℕ → Parts → ℕ → Result ℕ LinkFault
region_step bases m i =
    if nat_le (base_at bases (i + 1) + length m.segments) 8191 then Ok (i + 1)
    else Err (refusal (i + 1) (NoSelector m.names.own))

abbrev pub outcome : List Parts → Conf → List (List (List Target)) → List ℕ → LinkedParts
outcome ms c targets programs = record {
  images = record { modules = zip ms targets; environments = map environment_bytes c.process };
  programs = programs;
  libraries = map (libraries_of c.shim ms) programs;
}

-- What linking gives, or the first refusal: of a name, of the library that answers for the services' module, of a reference
-- or an import, of a process's module, of a library's segments.
unfoldable pub linked_of : List Parts → Conf → Result LinkedParts LinkFault
linked_of ms c = do
  _ ← over (name_step ms) ms 0
  shim ← shim_of ms c.shim
  targets ← over (module_step ms (bases_of ms) shim c.ordinals) ms []
  programs ← each (program_of ms) c.process
  _ ← over (region_step (bases_of ms)) ms 0
  Ok (outcome ms c targets programs)

-- linked modules are those of a setting, and each of them passed its checks
abbrev pub IsLinked : Conf → LinkedParts → Type 0
IsLinked c l = (modules : List Parts) × (All IsRunnable modules × (linked_of modules c ≡ Ok l))
