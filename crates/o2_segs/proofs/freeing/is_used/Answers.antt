use Rattle.std.proofs.Common.{sym, ◌∙◌}
use Rattle.o2_segs.specs.Members.{members_in}
use Rattle.o2_segs.proofs.Members.{code_used, stack_used}
use Rattle.o2_segs.proofs.freeing.is_used.Goals as goal

pub returns-then-code : goal.returns-then-code
returns-then-code c = code_used c.args.cpu.now (members_in c.args.regions.now c.args.pid c.args.index c.args.held) (sym c.names_one-code.ensures ∙ c.if-code.true)

pub returns : goal.returns
returns c = c.names_one.ensures ∙ stack_used c.args.cpu.now (members_in c.args.regions.now c.args.pid c.args.index c.args.held) (sym c.names_one-code.ensures ∙ c.if-code.false)
