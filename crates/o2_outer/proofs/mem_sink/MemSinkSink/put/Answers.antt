-- What was taken is a front of the piece.
use Rattle.std.proofs.Common.{take, drop, sym, arith}
use Rattle.std.proofs.lemmas.Grind.{common_steps}
use Rattle.std.proofs.lemmas.List.{take-append-drop}
use Rattle.o2_outer.proofs.mem_sink.MemSinkSink.put.Goals as goal

pub returns-else-is_none-clause-takes : goal.returns-else-is_none-clause-takes
returns-else-is_none-clause-takes c =
    let n = c.min-taken.result in
    let piece = c.args.piece.now in
    λ t e. (take n piece, grind (arith, common_steps), (drop n piece, sym (take-append-drop n piece)))
