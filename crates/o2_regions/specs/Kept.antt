-- What is true of the maps of every Regions, and of the indexes beside them.
use Rattle.std.specs.Prelude.{◌≡◌, ℕ, ◌+◌, ◌*◌, ◌<◌, ◌≤◌, Bool, true, false, List, length, Option, Some, None, slice_index_or}
use Rattle.std.specs.Option.{is_some}
use Rattle.o2_regions.specs.declared.held.Held.{Held}
use Rattle.o2_regions.specs.Links.{AreNext, ArePrev}
use Rattle.o2_regions.specs.Maps.{Maps, held_at, is_reserved, region_of}

-- the lists are as long as the number of processes says; whoever holds an index is a process and holds it at least
-- once, and the index is reserved
pub record AreKept (m : Maps) : Type 0 where
  pub some : 1 ≤ m.processes
  pub most : m.processes ≤ 64
  pub held_long : length m.held ≡ (m.processes + 1) * 8192
  pub reserved_long : length m.reserved ≡ (m.processes + 2) * 4096
  pub tables_long : length m.tables ≡ m.processes + 1
  pub process : (pid i : ℕ) (h : Held) → held_at m pid i ≡ Some h → 1 ≤ pid
  pub counted : (pid i : ℕ) (h : Held) → held_at m pid i ≡ Some h → 0 < h.holds
  pub covered : (pid i : ℕ) (h : Held) → held_at m pid i ≡ Some h → is_reserved m (region_of pid i) i ≡ true

-- a place is marked where something is held there
pub record AreMarked (held : List (Option Held)) (marks : List Bool) : Type 0 where
  pub marks_long : length marks ≡ length held
  pub marked : (p : ℕ) → slice_index_or marks p false ≡ is_some (slice_index_or held p None)

-- the maps, the marks of what is held, and the links of who holds a segment
abbrev pub AreWhole : Maps → List Bool → List ℕ → List ℕ → Type 0
AreWhole m marks next prev =
    AreKept m × AreMarked m.held marks × AreNext (length m.held) m.held next × ArePrev (length m.held) m.held prev
