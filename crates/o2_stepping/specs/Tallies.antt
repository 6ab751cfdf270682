-- How much an effect puts.
use Rattle.std.specs.Prelude.{◌≡◌, length}
use Rattle.o2_world.specs.Calls.{Effect}
use Rattle.o2_stepping.specs.declared.tally.Tally.{Tally}

pub record IsTally (e : Effect) (t : Tally) : Type 0 where
  pub bytes : length e.piece ≡ t.bytes
  pub lines : length e.lines ≡ t.lines
