use Rattle.std.proofs.Common.{◌∙◌}
use Rattle.o2_decode.proofs.Laws.{decoded_law, one_law, need_law, long_law, invalid_law, within_law}
use Rattle.o2_decode.proofs.reading.decode.Goals as goal

pub returns-clause-is : goal.returns-clause-is
returns-clause-is c = c.limited_bytes.ensures ∙ decoded_law _

pub returns-clause-one : goal.returns-clause-one
returns-clause-one c = λ i n. rw c.limited_bytes.ensures (one_law _ _ i n)

pub returns-clause-need : goal.returns-clause-need
returns-clause-need c = rw c.limited_bytes.ensures (need_law _ _)

pub returns-clause-too_long : goal.returns-clause-too_long
returns-clause-too_long c = rw c.limited_bytes.ensures (long_law _ _)

pub returns-clause-within : goal.returns-clause-within
returns-clause-within c = within_law _ _ _ c.limited_bytes.ensures

pub returns-clause-invalid : goal.returns-clause-invalid
returns-clause-invalid c = rw c.limited_bytes.ensures (invalid_law _ _)
