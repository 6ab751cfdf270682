use Rattle.o2_text.proofs.Shapes.{one_text}
use Rattle.o2_text.proofs.laws.texts_tell_instructions.Goals as goal

pub returns : goal.returns
returns c = one_text
