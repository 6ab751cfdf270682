use Rattle.std.proofs.Common.{◌∙◌, refl, subst, sym}
use Rattle.o2_words.specs.Words.{IsCommandFor}
use Rattle.o2_cli.specs.Sides.{file_sides, input_sides, sink_sides, swap_sides}
use Rattle.o2_cli.proofs.Promised.{acted, no_command, no_memory_first, unopened_promise}
use Rattle.o2_cli.proofs.top.os2run.Goals as goal

pub returns-in-Err : goal.returns-in-Err
returns-in-Err g c = record {
  promises =
      unopened_promise c.args.words.now (file_sides c.args.files.now c.open.new.files g.F.Files.may_hold g.F.Files.asked g.F.Files.faults) (input_sides c.args.input.now c.args.input.now g.I.Source.left g.I.Source.past g.I.Source.faults)
      (sink_sides c.args.console.now c.args.console.now g.C.Sink.taken g.C.Sink.puts g.C.Sink.faults) (sink_sides c.args.report.now c.args.report.now g.R.Sink.taken g.R.Sink.puts g.R.Sink.faults)
      (swap_sides c.args.swap.now c.args.swap.now g.S.SwapDevice.blocks g.S.SwapDevice.told g.S.SwapDevice.faults) c.in-Ok.command.verb c.in-Ok-from_slice.name
      (subst (λ name. IsCommandFor c.args.words.now c.in-Ok.command.verb name) (sym (c.in-Ok-from_slice.ensures ∙ c.as_bytes.ensures.value)) c.in-Ok.ensures.exact)
      c.open.ensures.earlier c.open.ensures.unread c.open.ensures.asks c.in-Err.fault c.from.result c.from.ensures
      (λ contents is. c.in-Err.ensures.exact contents is) c.in-Err.ensures.refuses;
}

pub returns : goal.returns
returns g c = record {
  promises =
      acted c.args.words.now _ _ _ _ _ c.in-Ok.command.verb c.in-Ok-from_slice.name
      (subst (λ name. IsCommandFor c.args.words.now c.in-Ok.command.verb name) (sym (c.in-Ok-from_slice.ensures ∙ c.as_bytes.ensures.value)) c.in-Ok.ensures.exact)
      c.open.ensures.earlier c.open.ensures.unread c.open.ensures.asks c.in-Ok-open.session (λ contents is. c.in-Ok-open.ensures.exact contents is) c.in-Ok-open.ensures.within c.in-Ok-open.ensures.linked
      c.in-Ok.command.verb refl c.act.result c.act.ensures.acts;
}

pub returns-then-not-is_command : goal.returns-then-not-is_command
returns-then-not-is_command g c = record {
  promises =
      no_command c.args.words.now (file_sides c.args.files.now c.args.files.now g.F.Files.may_hold g.F.Files.asked g.F.Files.faults) (input_sides c.args.input.now c.args.input.now g.I.Source.left g.I.Source.past g.I.Source.faults)
      (sink_sides c.args.console.now c.args.console.now g.C.Sink.taken g.C.Sink.puts g.C.Sink.faults) (sink_sides c.args.report.now c.args.report.now g.R.Sink.taken g.R.Sink.puts g.R.Sink.faults)
      (swap_sides c.args.swap.now c.args.swap.now g.S.SwapDevice.blocks g.S.SwapDevice.told g.S.SwapDevice.faults)
      (λ command. let yes = c.is_command.ensures.1 command in let no = c.if-not-is_command.true in cc);
}

pub returns-in_default : goal.returns-in_default
returns-in_default g c = record {
  promises =
      no_memory_first c.args.words.now (file_sides c.args.files.now c.args.files.now g.F.Files.may_hold g.F.Files.asked g.F.Files.faults) (input_sides c.args.input.now c.args.input.now g.I.Source.left g.I.Source.past g.I.Source.faults)
      (sink_sides c.args.console.now c.args.console.now g.C.Sink.taken g.C.Sink.puts g.C.Sink.faults) (sink_sides c.args.report.now c.args.report.now g.R.Sink.taken g.R.Sink.puts g.R.Sink.faults)
      (swap_sides c.args.swap.now c.args.swap.now g.S.SwapDevice.blocks g.S.SwapDevice.told g.S.SwapDevice.faults)
      (c.is_command.ensures.0 c.if-not-is_command.false);
}

pub returns-in_default-from_slice : goal.returns-in_default-from_slice
returns-in_default-from_slice g c = record {
  promises =
      no_memory_first c.args.words.now (file_sides c.args.files.now c.args.files.now g.F.Files.may_hold g.F.Files.asked g.F.Files.faults) (input_sides c.args.input.now c.args.input.now g.I.Source.left g.I.Source.past g.I.Source.faults)
      (sink_sides c.args.console.now c.args.console.now g.C.Sink.taken g.C.Sink.puts g.C.Sink.faults) (sink_sides c.args.report.now c.args.report.now g.R.Sink.taken g.R.Sink.puts g.R.Sink.faults)
      (swap_sides c.args.swap.now c.args.swap.now g.S.SwapDevice.blocks g.S.SwapDevice.told g.S.SwapDevice.faults)
      (c.is_command.ensures.0 c.if-not-is_command.false);
}
