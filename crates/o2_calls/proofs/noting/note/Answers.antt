use Rattle.std.proofs.Common.{subst, sym}
use Rattle.o2_gate.specs.MovedLines.{AreInside}
use Rattle.o2_calls.specs.Noted.{blocks_of}
use Rattle.o2_calls.proofs.NotedMaps.{table_inside}
use Rattle.o2_calls.proofs.noting.note.Goals as goal

pub returns-then-answer-eq0-clause-inside : goal.returns-then-answer-eq0-clause-inside
returns-then-answer-eq0-clause-inside c = subst AreInside (sym c.note_done.ensures) (table_inside (blocks_of c.args.arguments c.args.pid c.args.counted c.args.regions.now c.args.answer.now.value))
