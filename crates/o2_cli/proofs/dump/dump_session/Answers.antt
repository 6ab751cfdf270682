use Rattle.std.proofs.Common.{ap, ◌∙◌, min}
use Rattle.o2_cli.specs.Sides.{input_sides, sink_sides, swap_sides}
use Rattle.o2_words.specs.declared.words.Verb.TheVariants.{Dump}
use Rattle.o2_cli.proofs.Dumps.{fails_dump}
use Rattle.o2_cli.proofs.Sessions.{no_memory, unbegun}
use Rattle.o2_cli.proofs.dump.dump_session.Goals as goal

pub returns-in_default : goal.returns-in_default
returns-in_default g c = record {
  runs =
      no_memory Dump c.args.session (input_sides c.args.input.now c.args.input.now g.I.Source.left g.I.Source.past g.I.Source.faults)
      (sink_sides c.args.console.now c.args.console.now g.C.Sink.taken g.C.Sink.puts g.C.Sink.faults) (sink_sides c.args.report.now c.args.report.now g.R.Sink.taken g.R.Sink.puts g.R.Sink.faults)
      (swap_sides c.args.swap.now c.args.swap.now g.S.SwapDevice.blocks g.S.SwapDevice.told g.S.SwapDevice.faults);
}

pub returns-in-Err : goal.returns-in-Err
returns-in-Err g c = record {
  runs =
      unbegun Dump c.args.session (input_sides c.args.input.now c.args.input.now g.I.Source.left g.I.Source.past g.I.Source.faults)
      (sink_sides c.args.console.now c.args.console.now g.C.Sink.taken g.C.Sink.puts g.C.Sink.faults) (sink_sides c.args.report.now c.begun.new.report g.R.Sink.taken g.R.Sink.puts g.R.Sink.faults)
      (swap_sides c.args.swap.now c.args.swap.now g.S.SwapDevice.blocks g.S.SwapDevice.told g.S.SwapDevice.faults)
      c.in-Err.status c.in-Err.ensures.failed c.in-Err.ensures.refused c.in-Err.ensures.same_report c.in-Err.ensures.sink_fault
      (λ left. fails_dump c.args.session _ left _ _ _ _ _ _ _ c.in-Err.status c.in-Err.ensures.failed);
}

pub returns : goal.returns
returns g c = record {
  runs =
      c.dump_machine.ensures.runs c.args.session c.args.report.now
      (record { told = c.count-device.result; is = c.count-device.ensures; begins = c.in-Ok-begun.ensures.begins; puts = c.in-Ok-begun.ensures.puts; count = c.in-Ok-begun.ensures.count })
      (c.min-blocks.ensures ∙ ap (min c.args.session.conf.swap) c.count-device.ensures);
}
