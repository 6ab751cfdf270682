use Rattle.std.proofs.Common.{[], ◌∷◌, subst}
use Rattle.o2_outer.specs.Texts.{Gains, GainsSome, IsPrefix}
use Rattle.o2_world.specs.Text.{lines_text}
use Rattle.o2_world.specs.World.{Line}
use Rattle.o2_gate.specs.MovedLines.{all_lines}
use Rattle.o2_gate.specs.Replies.{call_line}
use Rattle.o2_gate.specs.Targets.{name_of}
use Rattle.o2_run.proofs.FailedLines.{fails_first}
use Rattle.o2_gate.proofs.Lines.{line_is, reply_front, reply_more}
use Rattle.o2_gate.proofs.MovedLines.{reply_fails}
use Rattle.o2_gate.proofs.line.put_reply.Goals as goal

pub returns-in-Failed-clause-report : goal.returns-in-Failed-clause-report
returns-in-Failed-clause-report g c =
    let x = c.args.arguments in
    reply_front (call_line x c.args.pid c.args.error c.args.value) (all_lines (name_of x) c.args.moves.now) _ _
    (subst (λ (l : Line). GainsSome (g.R.Sink.taken c.args.report.now) (g.R.Sink.taken c.put_valued.new.report) (λ front. IsPrefix front (lines_text (l ∷ []))))
    (line_is x c.args.pid c.args.error c.args.value c.row_for-row.ensures.name c.row_for-row.ensures.slots) c.in-Failed.ensures.report)

pub returns-in-Done-clause-report : goal.returns-in-Done-clause-report
returns-in-Done-clause-report g c =
    let x = c.args.arguments in
    reply_more (call_line x c.args.pid c.args.error c.args.value) (all_lines (name_of x) c.args.moves.now) _ (g.R.Sink.taken c.put_valued.new.report) _ c.put_blocks.result
    (subst (λ (l : Line). Gains (g.R.Sink.taken c.args.report.now) (g.R.Sink.taken c.put_valued.new.report) (lines_text (l ∷ [])))
    (line_is x c.args.pid c.args.error c.args.value c.row_for-row.ensures.name c.row_for-row.ensures.slots) c.in-Done.ensures.report)
    (rw (c.row_for-row.ensures.name, c.blocks-in-Done.ensures.blocks) at c.put_blocks.ensures.report)

pub returns-in-Failed-clause-line : goal.returns-in-Failed-clause-line
returns-in-Failed-clause-line g c =
    let x = c.args.arguments in
    fails_first (call_line x c.args.pid c.args.error c.args.value) (all_lines (name_of x) c.args.moves.now) _ _ _ _
    (subst (λ (l : Line). GainsSome (g.R.Sink.taken c.args.report.now) (g.R.Sink.taken c.put_valued.new.report) (λ front. IsPrefix front (lines_text (l ∷ []))))
    (line_is x c.args.pid c.args.error c.args.value c.row_for-row.ensures.name c.row_for-row.ensures.slots) c.in-Failed.ensures.report) c.in-Failed.ensures.puts

pub returns-in-Done-clause-line : goal.returns-in-Done-clause-line
returns-in-Done-clause-line g c =
    let x = c.args.arguments in
    reply_fails (call_line x c.args.pid c.args.error c.args.value) (all_lines (name_of x) c.args.moves.now) _ (g.R.Sink.taken c.put_valued.new.report) _ _ (g.R.Sink.puts c.put_valued.new.report) _ c.put_blocks.result
    (subst (λ (l : Line). Gains (g.R.Sink.taken c.args.report.now) (g.R.Sink.taken c.put_valued.new.report) (lines_text (l ∷ [])))
    (line_is x c.args.pid c.args.error c.args.value c.row_for-row.ensures.name c.row_for-row.ensures.slots) c.in-Done.ensures.report) c.in-Done.ensures.puts
    (rw (c.row_for-row.ensures.name, c.blocks-in-Done.ensures.blocks) at c.put_blocks.ensures.line)
