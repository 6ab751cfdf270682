-- What a process sees of the world.
use Rattle.std.specs.Prelude.{ℕ, Bool, true, false, List, [], map, Option, Some, None, option_map}
use Rattle.o2_isa.specs.declared.cpu.Cpu.{Cpu}
use Rattle.o2_isa.specs.View.{View, Hold, simple_view, bound_registers}
use Rattle.o2_world.specs.Map.{Map, get}
use Rattle.o2_world.specs.World.{Segment, Held, Process}

abbrev pub hold_of : Held → Hold
hold_of h = record { name = h.name; rights = h.rights }

-- what a map holds under an index
abbrev pub holds_in : Map Held → ℕ → Option Hold
holds_in held i = option_map hold_of (get held i)

abbrev pub segment_bytes : Option Segment → List ℕ
segment_bytes None = []
segment_bytes (Some s) = s.bytes

-- the bytes behind a name, none where it doesn't live
abbrev pub bytes_in : Map Segment → ℕ → List ℕ
bytes_in names n = segment_bytes (get names n)

abbrev pub is_discarded : Option Segment → Bool
is_discarded None = false
is_discarded (Some s) = s.discarded

-- whether a segment is discarded
abbrev pub discarded_in : Map Segment → ℕ → Bool
discarded_in names n = is_discarded (get names n)

-- maps, bytes and marks as the processor sees them: everything is present
abbrev pub view_over : (ℕ → Option Hold) → (ℕ → List ℕ) → (ℕ → Bool) → Cpu → View
view_over held bytes discarded cpu = record (simple_view held (λ n. true) bytes (bound_registers held cpu)) { discarded = discarded }

abbrev pub view_of : Map Segment → Process → View
view_of names p = view_over (holds_in p.held) (bytes_in names) (discarded_in names) p.cpu

-- the names with these bytes
abbrev pub with_bytes : Map Segment → (ℕ → List ℕ) → Map Segment
with_bytes names bytes = map (λ (e : ℕ × Segment). (e.0, record e.1 { bytes = bytes e.0 })) names
