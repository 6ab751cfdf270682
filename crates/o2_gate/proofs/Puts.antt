-- A piece for the console, and then a text for the report.
use Rattle.std.proofs.Common.{ℕ, List, Option, inr}
use Rattle.o2_outer.specs.declared.sink.Put.{Put}
use Rattle.o2_outer.specs.declared.sink.Put.TheVariants.{Done, Failed}
use Rattle.o2_outer.specs.Texts.{Gains}
use Rattle.o2_outer.specs.Answers.{Takes}
use Rattle.o2_outer.proofs.TextLemmas.{gains_some}
use Rattle.o2_gate.specs.Called.{PutsBoth}

-- the text behind the whole piece
pub both_by : (piece text : List ℕ) (c d r q : Option (List ℕ)) (p : Put) → Gains c d piece → Takes r q text p → PutsBoth piece text c d r q p
both_by piece text c d r q Done g t = (g, t)
both_by piece text c d r q Failed g t = record { to_console = gains_some piece c d g; to_report = t; in_order = inr g }
