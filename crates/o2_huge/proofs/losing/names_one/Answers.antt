use Rattle.std.proofs.Common.{sym, ◌∙◌}
use Rattle.o2_huge.proofs.Places.{one_between}
use Rattle.o2_huge.proofs.losing.names_one.Goals as goal

pub returns : goal.returns
returns c = c.is_between.ensures ∙ sym (one_between c.args.selector c.args.from c.args.count)
