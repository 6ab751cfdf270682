use Rattle.std.proofs.Common.{[], ◌∷◌}
use Rattle.o2_world.specs.World.{Starts}
use Rattle.o2_world.specs.Opening.{hold_lines}
use Rattle.o2_machine.proofs.PutLines.{line_failed, line_whole, lines_behind}
use Rattle.o2_machine.proofs.starts.put_start.Goals as goal

pub returns-in-Failed-clause-lines : goal.returns-in-Failed-clause-lines
returns-in-Failed-clause-lines g c = line_failed (Starts c.args.process c.args.name.now) _ _ _ _ _ (rw (c.as_slice.ensures, c.set_starts.ensures) at c.in-Failed.ensures.takes) c.in-Failed.ensures.puts

pub returns-in-Done-clause-lines : goal.returns-in-Done-clause-lines
returns-in-Done-clause-lines g c =
    lines_behind (Starts c.args.process c.args.name.now ∷ []) (hold_lines c.args.process c.args.selectors.now) _ (g.R.Sink.taken c.put.new.self) _ _ (g.R.Sink.puts c.put.new.self) _ _
    (line_whole (Starts c.args.process c.args.name.now) _ _ _ _ (rw (c.as_slice.ensures, c.set_starts.ensures) at c.in-Done.ensures.takes) c.in-Done.ensures.puts) c.put_holds.ensures.lines
