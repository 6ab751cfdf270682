use Rattle.std.proofs.Common.{ℕ, List, ◌+◌, ◌∙◌, ap, length, subst}
use Rattle.o2_outer.specs.Answers.{Takes}
use Rattle.o2_cli.proofs.Benches.{line_is}
use Rattle.o2_cli.proofs.bench.put_line.Goals as goal

pub returns-clause-text : goal.returns-clause-text
returns-clause-text g c = λ device block s w st.
    subst (λ (t : List ℕ). Takes (g.C.Sink.taken c.args.console.now) (g.C.Sink.taken c.put.new.self) t c.put.result)
    (c.as_slice.ensures ∙ c.set_line.ensures
    ∙ line_is c.args.count _ _ _ _ _ _ (c.steps.ensures.world device block s w st) (c.console_bytes.ensures.world device block s w st)
    (c.report_lines.ensures.world device block s w st ∙ ap (λ (n : ℕ). length w.lines + n) c.requires))
    c.put.ensures.takes
