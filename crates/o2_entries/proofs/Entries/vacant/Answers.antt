use Rattle.std.proofs.Common.{length, arith, ap}
use Rattle.std.proofs.lemmas.List.{length-map}
use Rattle.o2_entries.specs.Tables.{entries_of, under}
use Rattle.o2_entries.proofs.Numbers.{rises, listed-le, listed_lives, gap_is_vacant}
use Rattle.o2_entries.proofs.Entries.vacant.Goals as goal

pub first_gap-requires : goal.first_gap-requires
first_gap-requires c = rw (c.deref.ensures.value, c.self.invariant.0.listed) (rises 0 (entries_of c.self.inside.slab c.self.inside.keys.items))

pub overflow_cast-result : goal.overflow_cast-result
overflow_cast-result c =
    let i = c.self.inside in
    let a = listed-le 0 (entries_of i.slab i.keys.items) in
    let b = length-map i.keys.items (under i.slab) in
    let e = ap length c.self.invariant.0.listed in
    let d = ap length c.deref.ensures.value in
    omega (arith, a, b, e, d, c.self.invariant.2, c.first_gap.ensures.within)

pub returns-clause-some : goal.returns-clause-some
returns-clause-some c =
    let i = c.self.inside in
    let h = c.self.invariant.0 in
    let a = listed-le 0 (entries_of i.slab i.keys.items) in
    let b = length-map i.keys.items (under i.slab) in
    let e = ap length h.listed in
    let d = ap length c.deref.ensures.value in
    let f = c.first_gap.ensures in
    let v = gap_is_vacant (entries_of i.slab i.keys.items) c.first_gap.result (rw (c.deref.ensures.value, h.listed) at f.before) (rw (c.deref.ensures.value, h.listed) at f.after) in
    rw (← c.self.view_is) (omega (arith, a, b, e, d, f.within, c.if-len.false, c.len.ensures, c.len-2.ensures), v)

pub returns-clause-lowest : goal.returns-clause-lowest
returns-clause-lowest c =
    let i = c.self.inside in
    let h = c.self.invariant.0 in
    let e = ap length h.listed in
    let d = ap length c.deref.ensures.value in
    let f = c.first_gap.ensures in
    let b = rw (c.deref.ensures.value, h.listed) at f.before in
    rw (← c.self.view_is) (λ k l. listed_lives 0 (entries_of i.slab i.keys.items) k k (omega (arith, l, f.within, d, e)) (let q = b k l in omega (arith, q)))
