-- Who holds a name, and the end of a process.
use Rattle.std.specs.Prelude.{ℕ, ◌-◌, Bool, false, List, if◌then◌else◌, ◌==◌, Option, Some, None, filter, slice_get, slice_set}
use Rattle.std.specs.List.{list_any}
use Rattle.o2_world.specs.Map.{Map, get}
use Rattle.o2_world.specs.World.{Segment, Held, Process}

abbrev pub names_it : ℕ → Option Held → Bool
names_it name None = false
names_it name (Some h) = h.name == name

-- a process holds the name under some index
unfoldable pub holds_name : Map Held → ℕ → Bool
holds_name held name = list_any (λ (e : ℕ × Held). names_it name (get held e.0)) held

abbrev pub is_held : List Process → ℕ → Bool
is_held ps name = list_any (λ (p : Process). holds_name p.held name) ps

-- the names that some process holds
abbrev pub kept : List Process → Map Segment → Map Segment
kept ps names = filter (λ (e : ℕ × Segment). is_held ps e.0) names

-- the process of a number: process n is at place n - 1, and number 0 is no process
abbrev pub process_at : List Process → ℕ → Option Process
process_at ps n = if n == 0 then None else slice_get ps (n - 1)

abbrev pub with_process : List Process → ℕ → Process → List Process
with_process ps n p = if n == 0 then ps else slice_set ps (n - 1) p
