-- How many shared indexes the segments of libraries take.
use Rattle.std.specs.Prelude.{ℕ, List, length, fold, Option, Some, None, if◌then◌else◌}
use Rattle.o2_image.specs.Getters.{is_library}
use Rattle.o2_image.specs.Parts.{Parts}
use Rattle.o2_dynlink.specs.Selectors.{shared_after}

-- those of all libraries, one behind the other
abbrev pub library_indexes : List Parts → ℕ
library_indexes ms = fold shared_after 0 ms

abbrev pub indexes_of : Option Parts → ℕ
indexes_of None = 0
indexes_of (Some m) = if is_library m then length m.segments else 0
