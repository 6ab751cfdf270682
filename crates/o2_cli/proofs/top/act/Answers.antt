use Rattle.std.proofs.Common.{refl}
use Rattle.o2_cli.specs.Sides.{input_sides, sink_sides, swap_sides}
use Rattle.o2_cli.proofs.Sessions.{as_bench, as_check, as_dump, as_run}
use Rattle.o2_cli.proofs.top.act.Goals as goal

pub returns-in-Check : goal.returns-in-Check
returns-in-Check g c = record {
  acts =
      as_check c.args.verb c.args.session (input_sides c.args.input.now c.args.input.now g.I.Source.left g.I.Source.past g.I.Source.faults)
      (sink_sides c.args.console.now c.check_session.new.console g.C.Sink.taken g.C.Sink.puts g.C.Sink.faults)
      (sink_sides c.args.report.now c.args.report.now g.R.Sink.taken g.R.Sink.puts g.R.Sink.faults)
      (swap_sides c.args.swap.now c.args.swap.now g.S.SwapDevice.blocks g.S.SwapDevice.told g.S.SwapDevice.faults) c.check_session.result c.in-Check.is
      (record {
        lines = c.check_session.ensures.lines;
        at_once = c.check_session.ensures.at_once;
        unstarted = c.check_session.ensures.unstarted;
        same_console = c.check_session.ensures.same_console;
        sink_fault = c.check_session.ensures.sink_fault;
        unread = refl;
        quietly = refl;
        unswapped = refl;
      });
}

pub returns-in-Dump : goal.returns-in-Dump
returns-in-Dump g c = record {
  acts =
      as_dump c.args.verb c.args.session _ _ _ _ c.dump_session.result c.in-Dump.is c.dump_session.ensures.runs;
}

pub returns-in-Bench : goal.returns-in-Bench
returns-in-Bench g c = record {
  acts =
      as_bench c.args.verb c.in-Bench.count c.args.session _ _ _ _ c.bench_session.result c.in-Bench.is c.bench_session.ensures.runs;
}

pub returns-in-Exe : goal.returns-in-Exe
returns-in-Exe g c = record {
  acts =
      as_run c.args.verb c.args.session _ _ _ _ c.run_session.result c.in-Exe.is c.run_session.ensures.runs;
}
