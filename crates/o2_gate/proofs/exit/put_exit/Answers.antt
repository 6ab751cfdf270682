use Rattle.std.proofs.Common.{[], ◌∷◌, append-nil}
use Rattle.o2_outer.proofs.TextLemmas.{puts_front, puts_more}
use Rattle.o2_world.specs.World.{Exits, Ends}
use Rattle.o2_run.proofs.FailedLines.{fails_first}
use Rattle.o2_gate.proofs.Fails.{own_text, second_line}
use Rattle.o2_gate.proofs.exit.put_exit.Goals as goal

pub returns-in-Failed-clause-report : goal.returns-in-Failed-clause-report
returns-in-Failed-clause-report g c = puts_front _ _ _ _ (rw (c.as_slice.ensures, c.set_exits.ensures) at c.in-Failed.ensures.takes)

pub returns-in-Done-clause-report : goal.returns-in-Done-clause-report
returns-in-Done-clause-report g c =
    rw append-nil (puts_more _ _ _ _ _ _ (rw (c.as_slice.ensures, c.set_exits.ensures) at c.in-Done.ensures.takes)
    (rw (c.as_slice-in-Done.ensures, c.set_ends.ensures) at c.put-in-Done.ensures.takes))

pub returns-in-Failed-clause-line : goal.returns-in-Failed-clause-line
returns-in-Failed-clause-line g c =
    fails_first (Exits c.args.pid c.args.action c.args.code) (Ends c.args.pid c.args.code ∷ []) _ _ _ _
    (own_text (Exits c.args.pid c.args.action c.args.code) _ _ (rw (c.as_slice.ensures, c.set_exits.ensures) at c.in-Failed.ensures.takes)) c.in-Failed.ensures.puts

pub returns-in-Done-clause-line : goal.returns-in-Done-clause-line
returns-in-Done-clause-line g c =
    second_line (Exits c.args.pid c.args.action c.args.code) (Ends c.args.pid c.args.code) _ _ _ _ _ _ c.put-in-Done.result
    (rw (c.as_slice.ensures, c.set_exits.ensures) at c.in-Done.ensures.takes) c.in-Done.ensures.puts
    (rw (c.as_slice-in-Done.ensures, c.set_ends.ensures) at c.put-in-Done.ensures.takes) c.put-in-Done.ensures.puts
