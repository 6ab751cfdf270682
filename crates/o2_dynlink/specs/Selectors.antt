-- Which index of the local descriptor table each segment of a module has, and its selector.
use Rattle.std.specs.Prelude.{ℕ, ◌+◌, ◌-◌, ◌%◌, ◌&&◌, List, [], ◌∷◌, Option, Some, None, get_or, length, nat_le, if◌then◌else◌}
use Rattle.o2_base.specs.Selectors.{selector_of}
use Rattle.o2_image.specs.Getters.{is_library, nth}
use Rattle.o2_image.specs.Images.{Target}
use Rattle.o2_image.specs.Parts.{Parts}

-- how many indexes of the shared region are taken, once a module has its own: a library takes one for each segment, a
-- program none
abbrev pub shared_after : ℕ → Parts → ℕ
shared_after used m = if is_library m then used + length m.segments else used

-- What is added to a segment's number, where so many shared indexes are taken: a program's segment n has index n, and the
-- libraries' segments, one behind the other, have the indexes from 4096 on.
abbrev pub base_after : ℕ → Parts → ℕ
base_after used m = if is_library m then 4095 + used else 0

abbrev pub bases_from : ℕ → List Parts → List ℕ
bases_from used [] = []
bases_from used (m ∷ ms) = base_after used m ∷ bases_from (shared_after used m) ms

-- that of each module
abbrev pub bases_of : List Parts → List ℕ
bases_of ms = bases_from 0 ms

-- that of the module at a place from 1
abbrev pub base_at : List ℕ → ℕ → ℕ
base_at bases place = get_or bases (place - 1) 0

-- the index of a segment by its number from 1, where there is one
abbrev pub index_in : ℕ → ℕ → Option Parts → Option ℕ
index_in base seg None = None
index_in base seg (Some m) = if nat_le 1 seg && nat_le seg (length m.segments) then Some (base + seg) else None

-- the index of segment `seg` of the module at a place, both from 1
abbrev pub index_of : List Parts → ℕ → ℕ → Option ℕ
index_of ms place seg = index_in (base_at (bases_of ms) place) seg (nth ms place)

-- an offset in a segment of the module with this base; a selector has 16 bits
abbrev pub point : ℕ → ℕ × ℕ → Target
point base e = (selector_of (base + e.0) % 65536, e.1)
