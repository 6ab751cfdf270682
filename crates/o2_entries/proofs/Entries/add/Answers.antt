use Rattle.std.proofs.Common.{Some, arith}
use Rattle.std.proofs.lemmas.List.{length-map, length-set}
use Rattle.o2_entries.specs.Tables.{entries_of, under}
use Rattle.o2_entries.proofs.Numbers.{is_rank, rises}
use Rattle.o2_entries.proofs.Tables.{few_live, changed, fresh_key, IsTable-add}
use Rattle.o2_entries.proofs.Entries.add.Goals as goal

pub insert_reserved-key-requires : goal.insert_reserved-key-requires
insert_reserved-key-requires c =
    let i = c.self.inside in
    let h = c.self.invariant.0 in
    let v = rw (← c.self.view_is) at c.requires.vacant in
    let l = rw (← c.self.view_is, length-map i.keys.items (under i.slab)) at c.requires.within in
    let few = few_live i.slab i.keys.items i.live.items c.args.number h l v in
    omega (arith, few, h.count, h.room)

pub place_in-i-requires : goal.place_in-i-requires
place_in-i-requires c = rw (c.deref.ensures.value, c.self.invariant.0.listed) (rises 0 (entries_of c.self.inside.slab c.self.inside.keys.items))

pub insert_at-requires-clause-room : goal.insert_at-requires-clause-room
insert_at-requires-clause-room c =
    let i = c.self.inside in
    let h = c.self.invariant.0 in
    let v = rw (← c.self.view_is) at c.requires.vacant in
    let l = rw (← c.self.view_is, length-map i.keys.items (under i.slab)) at c.requires.within in
    let few = few_live i.slab i.keys.items i.live.items c.args.number h l v in
    omega (arith, few, c.self.invariant.1)

pub invariant_of-self : goal.invariant_of-self
invariant_of-self c =
    let i = c.self.inside in
    let h = c.self.invariant.0 in
    let v = rw (← c.self.view_is) at c.requires.vacant in
    let l = rw (← c.self.view_is, length-map i.keys.items (under i.slab)) at c.requires.within in
    let p = c.place_in-i in
    let rank_is = is_rank (entries_of i.slab i.keys.items) c.args.number p.result (rw (c.deref.ensures.value, h.listed) at p.ensures.within) (rw (c.deref.ensures.value, h.listed) at p.ensures.before) (rw (c.deref.ensures.value, h.listed) at p.ensures.after) in
    let r = c.insert_reserved-key in
    let t = IsTable-add i.slab r.new.self i.keys.items i.live.items c.args.number r.result p.result c.args.entry h r.ensures.was_vacant r.ensures.updates r.ensures.len r.ensures.capacity l v rank_is in
    (rw c.insert_at.ensures.items t, rw (length-set i.keys.items c.args.number (Some r.result)) (omega (arith, c.self.invariant.1, c.insert_at.ensures.capacity)), rw (length-set i.keys.items c.args.number (Some r.result)) c.self.invariant.2)

pub returns : goal.returns
returns c =
    let i = c.self.inside in
    let h = c.self.invariant.0 in
    let l = rw (← c.self.view_is, length-map i.keys.items (under i.slab)) at c.requires.within in
    let r = c.insert_reserved-key in
    rw (← c.self.view_is) (changed i.slab r.new.self i.keys.items c.args.number r.result (Some r.result) (Some c.args.entry) r.ensures.updates l r.ensures.updates.changed (λ m _. fresh_key i.slab i.keys.items i.live.items r.result m h r.ensures.was_vacant))
