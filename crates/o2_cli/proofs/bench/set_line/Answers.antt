use Rattle.std.proofs.Common.{[], ◌∷◌, ◌++◌, append_assoc, codes, decimal, sym}
use Rattle.o2_cli.proofs.bench.set_line.Goals as goal

pub returns : goal.returns
returns c =
    rw (c.push_count-4.ensures.text, c.push_count-3.ensures.text, c.push_count-2.ensures.text, c.push_count.ensures.text, c.push_text.ensures.text, c.clear.ensures)
    (sym (append_assoc
    (codes "bench " ++ decimal c.args.count ++ codes ": " ++ decimal c.args.steps ++ codes " steps, " ++ decimal c.args.bytes ++ codes " console bytes, " ++ decimal c.args.lines)
    (codes " report lines") (10 ∷ [])))
