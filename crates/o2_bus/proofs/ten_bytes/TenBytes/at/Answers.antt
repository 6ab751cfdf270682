use Rattle.std.proofs.Common.{arith, length-drop}
use Rattle.std.proofs.lemmas.List.{length-take}
use Rattle.o2_bus.proofs.ten_bytes.TenBytes.at.Goals as goal

pub returns-then-bytes-at-clause-none : goal.returns-then-bytes-at-clause-none
returns-then-bytes-at-clause-none c = simp (length-take, length-drop) (omega arith)
