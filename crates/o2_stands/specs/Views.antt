-- What the boundless machine sees of a process of a machine over a store.
use Rattle.std.specs.Prelude.{◌≡◌, ℕ, false}
use Rattle.o2_isa.specs.declared.cpu.Cpu.{Cpu}
use Rattle.o2_isa.specs.View.{View, Filling, Hidden, Rest, whole, no_rest, no_hidden}
use Rattle.o2_isa.specs.Presence.{with_unseen}
use Rattle.o2_segbus.specs.Seen.{present_in, seen}
use Rattle.o2_stands.specs.Parts.{Parts, away_in}

-- a filling gives the bytes of the names that are out of memory, by images and blocks
pub record Fills (p : Parts) (h : Hidden) (f : Filling) : Type 0 where
  pub away : (n : ℕ) → present_in p.shelf n ≡ false → h.away n f.blocks ≡ away_in p n

-- what a bus shows of a process, whatever no row of meanings reads, with all segments present
abbrev pub filled : Parts → Rest → Hidden → Filling → ℕ → Cpu → View
filled p r h f pid c = with_unseen no_rest no_hidden (whole f (with_unseen r h (seen p.shelf p.maps pid c)))

-- the filling by images and blocks, with anything in place of what is hidden
abbrev pub filling_of : Parts → Hidden → Filling
filling_of p h = record { blocks = away_in p; hidden = h }

-- what the boundless machine sees where a bus shows this of the machine
abbrev pub boundless_view : Parts → Hidden → View → View
boundless_view p h v = with_unseen no_rest no_hidden (whole (filling_of p h) v)
