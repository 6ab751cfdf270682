use Rattle.std.proofs.Common.{ℕ, Some, [], length, subst}
use Rattle.o2_outer.specs.Sinks.{dropped_bytes, dropped_puts}
use Rattle.o2_outer.specs.Inputs.{left_as}
use Rattle.o2_run.specs.Pieces.{counts}
use Rattle.o2_machine.specs.Lasts.{machine_swaps, put_of}
use Rattle.o2_machine.specs.StandsFor.{StandsFor}
use Rattle.o2_run.specs.Lined.{HasLined, LastPutFailed}
use Rattle.o2_cli.proofs.Unseens.{empty_gains, report_caused}
use Rattle.o2_cli.proofs.unseen.run_unseen.Goals as goal

pub returns-clause-texts : goal.returns-clause-texts
returns-clause-texts g c = λ fresh tells text may s w r stands left none gains.
    let a = c.args in
    let b = c.run.new in (
      record { bytes = dropped_bytes b.console; pieces = dropped_puts b.console },
      subst (λ (n : ℕ). HasLined (StandsFor b.machine (g.S.SwapDevice.blocks b.swap) (g.S.SwapDevice.block b.swap) s) machine_swaps (g.S.SwapDevice.blocks a.swap.now) s w
          (left_as text (g.I.Source.left b.input) (g.I.Source.past b.input)) (Some []) (Some (dropped_bytes b.console)) r (g.R.Sink.taken b.report)
          (LastPutFailed g.R.Sink.puts g.R.Sink.faults a.report.now b.report)
          (counts n (dropped_puts b.console) (g.R.Sink.puts a.report.now) (g.R.Sink.puts b.report) (length w.lines)) (put_of b.machine.last) c.run.result)
          c.new-programs.ensures.puts
          (c.run.ensures.texts fresh tells text may s w (Some []) r stands left (empty_gains _ _ c.new-programs.ensures.empty none) gains),
    )

pub returns-clause-cause : goal.returns-clause-cause
returns-clause-cause g c = λ fresh. report_caused c.run.result _ _ _ _ (c.run.ensures.cause fresh)

pub returns-clause-idle : goal.returns-clause-idle
returns-clause-idle g c = λ fresh tells text may s w stands left none fits. c.run.ensures.idle fresh tells text may s w stands left none fits
