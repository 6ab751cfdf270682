-- Why a run stops short of its end, and the line that it then ends with.
use Rattle.std.specs.Prelude.{ℕ, ◌<◌, Bool, List, [], ◌++◌, ◌∷◌, codes, min}
use Rattle.o2_world.specs.World.{World, Setting}
use Rattle.o2_world.specs.Run.{IsReadNext}
use Rattle.o2_run.specs.Room.{Fits, room, swap_load, live_load}
use Rattle.o2_run.specs.declared.steps.Stop.{Stop}
use Rattle.o2_run.specs.declared.steps.Stop.TheVariants.{Input, NoRoom, SwapFull, SwapFault}

abbrev pub stop_text : Stop → List ℕ
stop_text Input = codes "stop input fault"
stop_text NoRoom = codes "stop room"
stop_text SwapFull = codes "stop swap full"
stop_text SwapFault = codes "stop swap fault"

abbrev pub stop_line : Stop → List ℕ
stop_line why = stop_text why ++ 10 ∷ []

-- not all that lives fits the memory, and what isn't clean doesn't fit the blocks in use: those of the setting, or of the
-- device where it has fewer
pub record IsSwapFull (blocks : ℕ) (s : Setting) (w : World) : Type 0 where
  pub swap : min s.swap blocks < swap_load w
  pub memory : s.memory < live_load s w

-- the cause of a stop in the world before the step: at an input fault its next step is a DosRead that goes to the input; a
-- fault of the device shows in its count alone
abbrev pub StopsFor : (blocks : ℕ) → Setting → World → Stop → Type 0
StopsFor blocks s w Input = IsReadNext s w
StopsFor blocks s w NoRoom = s.memory < room s w
StopsFor blocks s w SwapFull = IsSwapFull blocks s w
StopsFor blocks s w SwapFault = Unit {0}

-- A machine asks the input only where the room of the step that asks fits its memory, so where that fails it fits, too.
abbrev pub StopFits : (swaps : Bool) → Setting → World → Stop → Type 0
StopFits swaps s w Input = Fits swaps s w
StopFits swaps s w NoRoom = Unit {0}
StopFits swaps s w SwapFull = Unit {0}
StopFits swaps s w SwapFault = Unit {0}
