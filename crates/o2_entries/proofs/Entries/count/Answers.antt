use Rattle.std.proofs.Common.{arith, length, ap}
use Rattle.std.proofs.lemmas.List.{length-map}
use Rattle.o2_entries.specs.Tables.{entries_of, under}
use Rattle.o2_entries.proofs.Numbers.{listed-le}
use Rattle.o2_entries.proofs.Entries.count.Goals as goal

pub overflow_cast-result : goal.overflow_cast-result
overflow_cast-result c =
    let i = c.self.inside in
    let a = listed-le 0 (entries_of i.slab i.keys.items) in
    let b = length-map i.keys.items (under i.slab) in
    let e = ap length c.self.invariant.0.listed in
    omega (arith, a, b, e, c.self.invariant.2)
