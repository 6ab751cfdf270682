use Rattle.std.proofs.Common.{ℕ, ◌+◌, List, ap, ◌∙◌}
use Rattle.o2_gate.specs.declared.moves.Block.{Block}
use Rattle.o2_gate.specs.MovedLines.{line_number}
use Rattle.o2_stepping.proofs.ReplyLines.{call_lines}
use Rattle.o2_stepping.proofs.replying.line_count.Goals as goal

pub returns-clause-count : goal.returns-clause-count
returns-clause-count c = λ a pid error value.
    ap (λ (n : ℕ). 1 + n) (c.block_count.ensures.count ∙ ap (λ (bs : List Block). line_number bs) c.blocks-all.ensures.blocks) ∙ call_lines a pid error value c.args.moves.now
