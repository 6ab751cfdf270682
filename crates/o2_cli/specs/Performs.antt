-- All that the program does with its words and its streams.
use Rattle.std.specs.Prelude.{◌≡◌, ◌+◌, ◌⊎◌, ℕ, List, [], String}
use Rattle.std.specs.declared.alloc.Global.{Global}
use Rattle.o2_outer.specs.Answers.{OnFailed, Takes}
use Rattle.o2_outer.specs.declared.sink.Put.{Put}
use Rattle.o2_cli.specs.declared.status.Status.{Status}
use Rattle.o2_cli.specs.Promises.{Promises}
use Rattle.o2_cli.specs.Sides.{FileSides, InputSides, SinkSides, SwapSides, SinkRose}
use Rattle.o2_cli.specs.StatusTexts.{status_number, status_text}

-- the line of a status is put at once, or a front of it where the sink failed
pub record IsTold {L : Type 0} (last : SinkSides L) (status : Status) : Type 0 where
  pub put : Put
  pub takes : Takes (last.taken last.old) (last.taken last.new) (status_text status) put
  pub cause : OnFailed put (SinkRose last)
  pub at_once : last.puts last.new ≡ last.puts last.old + 1

-- the sink gets the line of the status or, where it has none or there was no memory for it, nothing
pub record Tells {L : Type 0} (last : SinkSides L) (status : Status) : Type 0 where
  pub told : (last.new ≡ last.old) ⊎ IsTold last status
  pub silent : status_text status ≡ [] → last.new ≡ last.old

-- the command does all that it promises, its status is told, and the program ends with its number
pub record Performs {F I C R S L : Type 0} (words : List (String Global)) (f : FileSides F) (i : InputSides I) (c : SinkSides C) (r : SinkSides R) (s : SwapSides S) (last : SinkSides L) (code : ℕ) : Type 0 where
  pub status : Status
  pub promises : Promises words f i c r s status
  pub told : Tells last status
  pub number : code ≡ status_number status
