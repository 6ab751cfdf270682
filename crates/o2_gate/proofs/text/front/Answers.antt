use Rattle.std.proofs.Common.{sym, ap}
use Rattle.o2_world.specs.SharedNames.{name_by}
use Rattle.o2_gate.proofs.Texts.{none_name, zero_name}
use Rattle.o2_gate.proofs.text.front.Goals as goal

pub returns-in-Some : goal.returns-in-Some
returns-in-Some c = ap name_by (sym (zero_name c.args.bytes.now c.in-Some.end (sym c.in-Some.ensures.value)))

pub returns-in-None : goal.returns-in-None
returns-in-None c = none_name c.args.bytes.now c.requires (sym c.in-None.ensures.value)
