-- What an answer of a call tells of the names behind its pointers.
use Rattle.std.specs.Prelude.{ℕ, List, Result, Ok, Err}
use Rattle.o2_isa.specs.View.{View, Filling}
use Rattle.o2_isa.specs.Presence.{IsMissed}
use Rattle.o2_run.specs.declared.fault.Fault.{Fault}
use Rattle.o2_gate.specs.declared.called.Called.{Called}
use Rattle.o2_gate.specs.declared.called.Called.TheVariants.{Back, Exited, Trap, Missed, Asked, Waits}
use Rattle.o2_gate.specs.Pointed.{ArePresent}

-- where a segment is missed it is behind one of these names, and at every other answer all of them are present; the names are
-- those of the boundless machine, whatever it has in place of what is absent
abbrev pub TellsNames : View → (Filling → List ℕ) → Result Called Fault → Type 0
TellsNames v names (Ok (Missed s)) = (f : Filling) → IsMissed v s (names f)
TellsNames v names (Ok (Back put)) = (f : Filling) → ArePresent v (names f)
TellsNames v names (Ok (Exited code)) = (f : Filling) → ArePresent v (names f)
TellsNames v names (Ok (Trap vector code)) = (f : Filling) → ArePresent v (names f)
TellsNames v names (Ok (Asked a next)) = (f : Filling) → ArePresent v (names f)
TellsNames v names (Ok Waits) = (f : Filling) → ArePresent v (names f)
TellsNames v names (Err x) = (f : Filling) → ArePresent v (names f)
