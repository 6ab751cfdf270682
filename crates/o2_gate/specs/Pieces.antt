-- How many pieces a call hands both sinks, by its answer.
use Rattle.std.specs.Prelude.{Result, Ok, Err}
use Rattle.o2_run.specs.declared.fault.Fault.{Fault}
use Rattle.o2_run.specs.declared.fault.Fault.TheVariants as fault
use Rattle.o2_run.specs.Pieces.{Counts, Hands, puts_of}
use Rattle.o2_gate.specs.declared.called.Called.{Called}
use Rattle.o2_gate.specs.declared.called.Called.TheVariants.{Back, Exited, Trap, Missed, Asked, Waits}

-- one line, and a piece for the console where it has bytes; two lines for an exit, and nothing for an exception, a miss, a
-- stop, or a call that is asked for or waits. What a sink's fault leaves is PartHands
abbrev pub CallHands : Counts → Result Called Fault → Type 0
CallHands n (Ok (Back bytes)) = Hands n (puts_of bytes) 1
CallHands n (Ok (Exited code)) = Hands n 0 2
CallHands n (Ok (Trap vector code)) = Hands n 0 0
CallHands n (Ok (Missed s)) = Hands n 0 0
CallHands n (Ok (Asked a next)) = Hands n 0 0
CallHands n (Ok Waits) = Hands n 0 0
CallHands n (Err fault.Sink) = Unit {0}
CallHands n (Err (fault.Stopped why)) = Hands n 0 0
