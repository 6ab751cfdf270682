use Rattle.std.proofs.Common.{ℕ, List, subst, ◌∙◌}
use Rattle.std.specs.Prelude.{Err}
use Rattle.o2_machine.specs.declared.fault.BeginFault.{BeginFault}
use Rattle.o2_machine.specs.Begins.{Begins, BeginPuts}
use Rattle.o2_open.specs.Loads.{Tells, start_refusal}
use Rattle.o2_cli.proofs.Runs.{begin_refused, start_refused}
use Rattle.o2_cli.proofs.begun.begun.Goals as goal

pub returns-in-Err-SinkFault-clause-failed : goal.returns-in-Err-SinkFault-clause-failed
returns-in-Err-SinkFault-clause-failed g c =
    let s = c.args.session in
    let part = subst (λ (f : BeginFault). Begins s.linked s.conf c.args.blocks (g.R.Sink.taken c.args.report.now) (g.R.Sink.taken c.begin.new.report) (Err f)) c.in-Err-SinkFault.field-0-is c.in-Err-SinkFault.ensures.begins in
    let put = subst (λ (f : BeginFault). BeginPuts part.built.lines (g.R.Sink.taken c.args.report.now) (g.R.Sink.taken c.begin.new.report) (g.R.Sink.puts c.args.report.now) (g.R.Sink.puts c.begin.new.report) (Err f)) c.in-Err-SinkFault.field-0-is (c.in-Err-SinkFault.ensures.puts part.built part.starts) in
    (part, put)

pub returns-in-Err-Start-clause-failed : goal.returns-in-Err-Start-clause-failed
returns-in-Err-Start-clause-failed g c =
    let s = c.args.session in
    let why = subst (λ (f : BeginFault). Begins s.linked s.conf c.args.blocks (g.R.Sink.taken c.args.report.now) (g.R.Sink.taken c.begin.new.report) (Err f)) c.in-Err-Start.field-0-is c.in-Err-Start.ensures.begins in
    begin_refused s _ _ _ _ c.in-Err-Start.pid c.in-Err-Start.fault c.refused_start.result _ c.from.ensures why.1
    (subst (λ (places : List ℕ). Tells c.refused_start.result (start_refusal s.conf places c.in-Err-Start.pid c.in-Err-Start.fault)) (c.as_slice.ensures.value ∙ c.in-Ok.ensures) c.refused_start.ensures)

pub returns-in-Err-Start-clause-refused : goal.returns-in-Err-Start-clause-refused
returns-in-Err-Start-clause-refused g c =
    let s = c.args.session in
    let why = subst (λ (f : BeginFault). Begins s.linked s.conf c.args.blocks (g.R.Sink.taken c.args.report.now) (g.R.Sink.taken c.begin.new.report) (Err f)) c.in-Err-Start.field-0-is c.in-Err-Start.ensures.begins in
    start_refused s c.in-Err-Start.pid c.in-Err-Start.fault c.refused_start.result _ c.from.ensures why.0
    (subst (λ (places : List ℕ). Tells c.refused_start.result (start_refusal s.conf places c.in-Err-Start.pid c.in-Err-Start.fault)) (c.as_slice.ensures.value ∙ c.in-Ok.ensures) c.refused_start.ensures)
