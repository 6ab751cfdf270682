-- How many pieces a step hands both sinks, by its answer.
use Rattle.std.specs.Prelude.{◌≡◌, ℕ, ◌+◌, Bool, true, false, length, Result, Ok, Err}
use Rattle.o2_world.specs.Calls.{Effect}
use Rattle.o2_run.specs.declared.fault.Fault.{Fault}
use Rattle.o2_run.specs.declared.fault.Fault.TheVariants as fault
use Rattle.o2_run.specs.Pieces.{Counts, FailsInLine, FaultPart, Hands, HandsUpTo, puts_of}
use Rattle.o2_stepping.specs.declared.one_step.Ran.{Ran}
use Rattle.o2_stepping.specs.declared.one_step.Attempt.{Attempt}
use Rattle.o2_stepping.specs.declared.one_step.Attempt.TheVariants as attempt
use Rattle.o2_stepping.specs.declared.one_step.Stepped.{Stepped}
use Rattle.o2_stepping.specs.declared.one_step.Stepped.TheVariants as stepped

-- each line is one put, and so is the piece where it has bytes; where a sink failed in a line, none is put behind it
abbrev pub HandsWhole : (whole : Bool) → Counts → (pieces lines : ℕ) → Type 0
HandsWhole true n pieces lines = Hands n pieces lines
HandsWhole false n pieces lines = HandsUpTo n pieces 0 lines

-- nothing is put where a step is missed, asked or stopped. What a sink's fault leaves is RanPart
abbrev pub RanHands : Counts → Result Ran Fault → Type 0
RanHands n (Ok ran) = HandsWhole ran.whole n (puts_of ran.tally.bytes) ran.tally.lines
RanHands n (Err fault.Sink) = Unit {0}
RanHands n (Err (fault.Stopped why)) = Hands n 0 0

abbrev pub StepPuts : Counts → Stepped → Type 0
StepPuts n (stepped.Ran ran) = Hands n (puts_of ran.tally.bytes) ran.tally.lines
StepPuts n (stepped.Asked a next) = Hands n 0 0

abbrev pub AttemptHands : Counts → Result Attempt Fault → Type 0
AttemptHands n (Ok (attempt.Stepped x)) = StepPuts n x
AttemptHands n (Ok (attempt.Missed s)) = Hands n 0 0
AttemptHands n (Err fault.Sink) = Unit {0}
AttemptHands n (Err (fault.Stopped why)) = Hands n 0 0

abbrev pub StepHands : Counts → Result Stepped Fault → Type 0
StepHands n (Ok x) = StepPuts n x
StepHands n (Err fault.Sink) = Unit {0}
StepHands n (Err (fault.Stopped why)) = Hands n 0 0

-- What a sink's fault leaves: of a step that is done all the same, the lines in front of the failed one were put whole, and none behind it
-- was put.
abbrev pub LatePart : (whole : Bool) → Effect → Counts → Type 0
LatePart true e n = Unit {0}
LatePart false e n = (n.console_new ≡ n.console_old + puts_of (length e.piece)) × FailsInLine e.lines n.text_old n.text_new n.report_old n.report_new

abbrev pub RanPart : Effect → Counts → Result Ran Fault → Type 0
RanPart e n (Ok ran) = LatePart ran.whole e n
RanPart e n (Err f) = FaultPart e n f

abbrev pub SteppedPart : Effect → Counts → Stepped → Type 0
SteppedPart e n (stepped.Ran ran) = LatePart ran.whole e n
SteppedPart e n (stepped.Asked a next) = Unit {0}

abbrev pub StepPart : Effect → Counts → Result Stepped Fault → Type 0
StepPart e n (Ok x) = SteppedPart e n x
StepPart e n (Err f) = FaultPart e n f

abbrev pub AttemptPart : Effect → Counts → Result Attempt Fault → Type 0
AttemptPart e n (Ok (attempt.Stepped x)) = SteppedPart e n x
AttemptPart e n (Ok (attempt.Missed s)) = Unit {0}
AttemptPart e n (Err f) = FaultPart e n f
