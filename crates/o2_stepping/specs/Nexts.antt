-- The next step of a world for which a machine over a store stands.
use Rattle.std.specs.Prelude.{◌≡◌, Some}
use Rattle.o2_stands.specs.Parts.{Parts}
use Rattle.o2_stands.specs.Stands.{AreLawful, IsSetTo, Stands}
use Rattle.o2_world.specs.Calls.{Before}
use Rattle.o2_world.specs.Holders.{process_at}
use Rattle.o2_world.specs.Run.{before, next_dispatch, words_coming}
use Rattle.o2_world.specs.World.{Process, Setting, World}

-- the machine has what the setting says and stands for the world, whose next step is this process's, and before which no word comes
pub record IsNext (p : Parts) (s : Setting) (w : World) (q : Process) : Type 0 where
  pub lawful : AreLawful p.shelf p.maps
  pub set : IsSetTo p s
  pub stands : Stands p w
  pub chosen : process_at w.processes (next_dispatch s w).current ≡ Some q
  pub wordless : words_coming w ≡ 0

-- what that step starts from
abbrev pub next_start : Setting → World → Process → Before
next_start s w q = before s w (next_dispatch s w).current q
