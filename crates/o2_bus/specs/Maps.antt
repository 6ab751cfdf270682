-- Segments and maps by look-ups.
use Rattle.std.specs.Prelude.{◌≡◌, ◌<◌, ℕ, List, [], slice_get, length, Option, Some, None, option_map}
use Rattle.o2_isa.specs.View.{Hold}
use Rattle.o2_bus.specs.declared.plain.Grant.{Grant}
use Rattle.o2_bus.specs.declared.plain.Map.{Map}
use Rattle.o2_bus.specs.declared.segment.Segment.{Segment}

abbrev pub hold_of : Grant → Hold
hold_of g = record { name = g.name; rights = g.access }

abbrev pub granted : Option (Option Grant) → Option Hold
granted None = None
granted (Some g) = option_map hold_of g

abbrev pub in_map : Option Map → ℕ → Option Hold
in_map None i = None
in_map (Some m) i = granted (slice_get m.grants.items i)

abbrev pub segment_bytes : Option Segment → List ℕ
segment_bytes None = []
segment_bytes (Some s) = s.bytes.items

-- what is held has at least one byte
abbrev pub AreFilled : List Segment → List Map → Type 0
AreFilled segments maps = (p i : ℕ) (h : Hold) → in_map (slice_get maps p) i ≡ Some h → 0 < length (segment_bytes (slice_get segments h.name))
