use Rattle.std.proofs.Common.{length-take, arith, sym}
use Rattle.std.proofs.lemmas.List.{take_all}
use Rattle.o2_world_parts.proofs.naming.front.Goals as goal

pub slice_bounds-result-end : goal.slice_bounds-result-end
slice_bounds-result-end c = omega (arith, length-take 129 c.args.bytes.now)

pub returns-then-bytes-le129 : goal.returns-then-bytes-le129
returns-then-bytes-le129 c = sym (take_all 129 c.args.bytes.now (omega arith))
