use Rattle.std.proofs.lemmas.List.{take-replicate}
use Rattle.o2_tool.proofs.hex.blanks.Goals as goal

pub returns : goal.returns
returns c = take-replicate c.args.count 32 32 c.requires
