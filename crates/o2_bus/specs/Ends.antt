-- Who holds a name of a plain memory.
use Rattle.std.specs.Prelude.{ℕ, Bool, false, ◌==◌, List, Option, Some, None}
use Rattle.std.specs.List.{list_any}
use Rattle.o2_bus.specs.declared.plain.Plain.{Plain}
use Rattle.o2_bus.specs.declared.plain.Grant.{Grant}
use Rattle.o2_bus.specs.declared.plain.Map.{Map}

abbrev pub grants_name : ℕ → Option Grant → Bool
grants_name name None = false
grants_name name (Some g) = g.name == name

abbrev pub map_names : ℕ → Map → Bool
map_names name m = list_any (grants_name name) m.grants.items

abbrev pub maps_name : List Map → ℕ → Bool
maps_name maps name = list_any (map_names name) maps

-- some process holds the name
unfoldable pub is_held_in : Plain → ℕ → Bool
is_held_in p name = maps_name p.maps.items name
