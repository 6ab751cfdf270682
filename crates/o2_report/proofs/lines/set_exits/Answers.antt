use Rattle.std.proofs.Common.{append_assoc}
use Rattle.o2_world.specs.Text.{line_text}
use Rattle.o2_report.proofs.lines.set_exits.Goals as goal

pub returns : goal.returns
unfolding line_text
returns c = rw (c.push_byte-2.ensures.text, c.push_hex4-2.ensures.text, c.push_byte.ensures.text, c.push_hex4.ensures.text, c.push_text.ensures.text, c.push_number.ensures.text, c.clear.ensures) (simp append_assoc)
