use Rattle.o2_cli.specs.Sides.{input_sides, sink_sides, swap_sides}
use Rattle.o2_words.specs.declared.words.Verb.TheVariants.{Run}
use Rattle.o2_cli.proofs.Runs.{fails_run}
use Rattle.o2_cli.proofs.Sessions.{unbegun}
use Rattle.o2_cli.proofs.top.run_session.Goals as goal

pub returns-in-Err : goal.returns-in-Err
returns-in-Err g c = record {
  runs =
      unbegun Run c.args.session (input_sides c.args.input.now c.args.input.now g.I.Source.left g.I.Source.past g.I.Source.faults)
      (sink_sides c.args.console.now c.args.console.now g.C.Sink.taken g.C.Sink.puts g.C.Sink.faults) (sink_sides c.args.report.now c.begun.new.report g.R.Sink.taken g.R.Sink.puts g.R.Sink.faults)
      (swap_sides c.args.swap.now c.args.swap.now g.S.SwapDevice.blocks g.S.SwapDevice.told g.S.SwapDevice.faults)
      c.in-Err.status c.in-Err.ensures.failed c.in-Err.ensures.refused c.in-Err.ensures.same_report c.in-Err.ensures.sink_fault
      (λ left. fails_run c.args.session _ left _ _ _ _ _ _ _ c.in-Err.status c.in-Err.ensures.failed);
}

pub returns-in-Ok : goal.returns-in-Ok
returns-in-Ok g c = record {
  runs =
      c.run_machine.ensures.runs c.args.session c.args.report.now
      (record { told = c.count.result; is = c.count.ensures; begins = c.in-Ok.ensures.begins; puts = c.in-Ok.ensures.puts; count = c.in-Ok.ensures.count });
}
