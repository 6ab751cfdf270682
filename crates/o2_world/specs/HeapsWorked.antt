-- Rows of the calls on heaps inside a segment, as the definitions compute them for a process that has a segment of 64 bytes, 0027.
use Rattle.std.specs.Prelude.{ℕ, List, [], ◌∷◌, drop, map, take}
use Rattle.o2_world.specs.World.{World}
use Rattle.o2_world.specs.CallParts.{Before, Effect}
use Rattle.o2_world.specs.Views.{bytes_in}
use Rattle.o2_world.specs.Text.{lines_text}
use Rattle.o2_world.specs.SegmentsWorked.{allocs, calls}
use Rattle.o2_world.specs.SharedWorked.{calls_of, two_sharers}

-- the calls by their arguments, with values at 52 of the data
abbrev pub sub_sets : (selector flags size : ℕ) → Before → Effect
sub_sets selector flags size = calls 20 (selector ∷ flags ∷ size ∷ [])

abbrev pub sub_allocs_at : (selector offset_selector offset size : ℕ) → Before → Effect
sub_allocs_at selector to at size = calls 21 (selector ∷ to ∷ at ∷ size ∷ [])

abbrev pub sub_allocs : (size : ℕ) → Before → Effect
sub_allocs size = sub_allocs_at 0x27 0x17 52 size

abbrev pub sub_frees : (offset size : ℕ) → Before → Effect
sub_frees offset size = calls 22 (0x27 ∷ offset ∷ size ∷ [])

abbrev pub by_one : List (Before → Effect) → List (ℕ × (Before → Effect))
by_one rows = map (λ (row : Before → Effect). (1, row)) rows

abbrev pub with_segment : World
with_segment = calls_of two_sharers (by_one (allocs 64 0 ∷ []))

-- the lines behind those of the starts and of the segment
abbrev pub told_of_heap : List (Before → Effect) → List ℕ
told_of_heap rows = lines_text (drop 10 (calls_of with_segment (by_one rows)).lines)

-- the first bytes of the segment
abbrev pub heap_behind : (count : ℕ) → List (Before → Effect) → List ℕ
heap_behind count rows = take count (bytes_in (calls_of with_segment (by_one rows)).names 5)
