use Rattle.std.proofs.Common.{rules}
use Rattle.o2_regions.proofs.Bitwise.{none_marked}
use Rattle.o2_regions.proofs.bits.Bits.new.Goals as goal

pub returns : goal.returns
returns c = none_marked c.args.words c.in_ok-words.words.items (search rules)
