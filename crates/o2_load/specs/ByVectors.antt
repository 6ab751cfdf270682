-- A memory of byte vectors in which processes start.
use Rattle.std.specs.Prelude.{◌≡◌, ℕ, ◌<◌, true, [], length, option_map}
use Rattle.o2_isa.specs.View.{Hold}
use Rattle.o2_bus.specs.Plain.{held_in, bytes_in, shown_in, count_in}
use Rattle.o2_world.specs.World.{Held}
use Rattle.o2_world.specs.Opening.{held_by_load}
use Rattle.o2_load.specs.declared.vectors.Vectors.{Vectors}
use Rattle.o2_load.specs.Memory.{Memory}

-- what is held there is held by load
abbrev pub by_load : Hold → Held
by_load h = held_by_load h.name h.rights

abbrev pub vectors_seen : Vectors → Memory
vectors_seen v = record {
  count = count_in v.plain;
  most = v.most;
  held = λ pid i. option_map by_load (held_in v.plain pid i);
  takes = λ pid i. true;
  fixed = [];
}

-- each name is present and has bytes
pub record AreFilled (v : Vectors) : Type 0 where
  pub shown : (n : ℕ) → shown_in v.plain n ≡ true
  pub some : (n : ℕ) → n < count_in v.plain → 0 < length (bytes_in v.plain n)
