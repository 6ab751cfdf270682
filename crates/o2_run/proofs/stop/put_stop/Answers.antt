use Rattle.std.proofs.Common.{subst}
use Rattle.std.specs.Prelude.{List, ℕ}
use Rattle.o2_outer.specs.Texts.{Gains}
use Rattle.o2_outer.proofs.TextLemmas.{gains_some}
use Rattle.o2_run.proofs.stop.put_stop.Goals as goal

pub returns-in-Done-clause-text : goal.returns-in-Done-clause-text
returns-in-Done-clause-text g c = gains_some _ _ _ (subst (λ (x : List ℕ). Gains (g.R.Sink.taken c.args.report.now) (g.R.Sink.taken c.put.new.self) x) c.line.ensures c.in-Done.ensures.takes)
