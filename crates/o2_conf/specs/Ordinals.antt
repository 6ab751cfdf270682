-- The ordinals of the services.
use Rattle.std.specs.Prelude.{ℕ, ◌==◌, ◌&&◌, Bool, true, List, [], ◌∷◌, ◌++◌, map, Option, Some, None, bytes_eq, Result, Ok, not}
use Rattle.std.specs.List.{list_any, list_all, position_from}
use Rattle.std.specs.Ordering.{nat_cmp, is_lt}
use Rattle.std.specs.Cmp.Lexicographic.{slice_cmp}
use Rattle.toml.specs.Data.{Data, as_table}
use Rattle.o2_base.specs.Services.{ServiceRow, services, row_at}
use Rattle.o2_base.specs.declared.faults.Key.TheVariants as key
use Rattle.o2_base.specs.declared.faults.MachineFault.{MachineFault}
use Rattle.o2_base.specs.declared.faults.MachineFault.TheVariants.{BadValue}
use Rattle.o2_conf.specs.Steps.{◌>>=◌, some_or, within, each_member}
use Rattle.o2_conf.specs.Values.{integer_of}

-- the number of the service that has this name
unfoldable pub service_named : List ℕ → Option ℕ
service_named name = position_from (λ s. bytes_eq s.name name) 1 services

-- the services by rising names
abbrev pub by_name : List ℕ
by_name =
    16 ∷ 5 ∷ 12 ∷ 24 ∷ 11 ∷ 23 ∷ 1 ∷ 31 ∷ 7 ∷ 18 ∷ 2 ∷ 30 ∷ 15 ∷ 13 ∷ 14 ∷ 29 ∷ 9 ∷ 19 ∷ 3 ∷ 17 ∷ 6 ∷ 26 ∷ 25 ∷ 28 ∷ 27 ∷ 8 ∷ 21 ∷ 22 ∷ 20 ∷ 10 ∷ 4 ∷ []

-- whether each text comes before the next, byte by byte
abbrev pub rises : List (List ℕ) → Bool
rises [] = true
rises (x ∷ []) = true
rises (x ∷ y ∷ rest) = is_lt (slice_cmp nat_cmp x y) && rises (y ∷ rest)

abbrev pub name_or : Option ServiceRow → List ℕ
name_or (Some s) = s.name
name_or None = []

abbrev pub name_of : ℕ → List ℕ
name_of number = name_or (row_at number)

-- whether each service is among these
abbrev pub has_all_services : List ℕ → Bool
has_all_services numbers = list_all (λ s. list_any (λ n. bytes_eq (name_of n) s.name) numbers) services

-- a service with the ordinal that the table of services gives it
abbrev pub ordinal_or : Option ServiceRow → ℕ
ordinal_or (Some s) = s.ordinal
ordinal_or None = 0

abbrev pub default_ordinal : ℕ → ℕ × ℕ
default_ordinal number = (number, ordinal_or (row_at number))

-- the ordinals where the machine file gives none
abbrev pub default_ordinals : List (ℕ × ℕ)
default_ordinals = map default_ordinal by_name

-- a service by its name with its ordinal, which no earlier one has
unfoldable pub ordinal_of : List ℕ → Data → List (ℕ × ℕ) → Result (ℕ × ℕ) MachineFault
ordinal_of name d found = do
  number ← some_or (service_named name) (BadValue key.Ordinals)
  ordinal ← integer_of key.Ordinals 1 65535 d
  within (not (list_any (λ p. p.1 == ordinal) found)) (number, ordinal) (BadValue key.Ordinals)

abbrev pub ordinal_step : List ℕ → Data → List (ℕ × ℕ) → Result (List (ℕ × ℕ)) MachineFault
ordinal_step name d found = do
  pair ← ordinal_of name d found
  Ok (found ++ pair ∷ [])

-- a table of services with their ordinals, by rising names
abbrev pub ordinals_or : Option Data → Result (List (ℕ × ℕ)) MachineFault
ordinals_or None = Ok default_ordinals
ordinals_or (Some d) = do
  ms ← some_or (as_table d) (BadValue key.Ordinals)
  each_member ordinal_step ms []
