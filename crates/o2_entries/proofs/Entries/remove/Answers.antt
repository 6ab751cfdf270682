use Rattle.std.proofs.Common.{◌≡◌, length, Some, None, arith, sym, ap, ◌∙◌}
use Rattle.std.proofs.lemmas.List.{length-set, get_or_read}
use Rattle.o2_entries.specs.Tables.{entries_of, key_at}
use Rattle.o2_entries.proofs.Numbers.{is_rank, rises, at_rank}
use Rattle.o2_entries.proofs.Tables.{slot_within, is_live, changed-remove, IsTable-remove}
use Rattle.o2_entries.proofs.Entries.remove.Goals as goal

pub place_in-i-requires : goal.place_in-i-requires
place_in-i-requires c = rw (c.deref.ensures.value, c.self.invariant.0.listed) (rises 0 (entries_of c.self.inside.slab c.self.inside.keys.items))

pub remove-requires-in-Some : goal.remove-requires-in-Some
remove-requires-in-Some c =
    let i = c.self.inside in
    let h = c.self.invariant.0 in
    let e : key_at i.keys.items c.args.number ≡ Some c.in-Some.key = sym (get_or_read i.keys.items c.args.number c.index.result.now (slot_within i.slab i.keys.items c.args.number (rw (← c.self.view_is) at c.requires)) c.index.ensures None) ∙ c.in-Some.is in
    let p = c.place_in-i in
    let rank_is = is_rank (entries_of i.slab i.keys.items) c.args.number p.result (rw (c.deref.ensures.value, h.listed) at p.ensures.within) (rw (c.deref.ensures.value, h.listed) at p.ensures.before) (rw (c.deref.ensures.value, h.listed) at p.ensures.after) in
    let a = (at_rank 0 (entries_of i.slab i.keys.items) c.args.number (is_live i.slab i.keys.items i.live.items c.args.number c.in-Some.key h e)).0 in
    let q = ap length h.listed in
    omega (arith, rank_is, a, q)

pub invariant_of-self : goal.invariant_of-self
invariant_of-self c =
    let i = c.self.inside in
    let h = c.self.invariant.0 in
    let e : key_at i.keys.items c.args.number ≡ Some c.in-Some.key = sym (get_or_read i.keys.items c.args.number c.index.result.now (slot_within i.slab i.keys.items c.args.number (rw (← c.self.view_is) at c.requires)) c.index.ensures None) ∙ c.in-Some.is in
    let p = c.place_in-i in
    let rank_is = is_rank (entries_of i.slab i.keys.items) c.args.number p.result (rw (c.deref.ensures.value, h.listed) at p.ensures.within) (rw (c.deref.ensures.value, h.listed) at p.ensures.before) (rw (c.deref.ensures.value, h.listed) at p.ensures.after) in
    let r = c.remove in
    let t = IsTable-remove i.slab r.new.self i.keys.items i.live.items c.args.number c.in-Some.key p.result h e r.ensures.updates r.ensures.len r.ensures.capacity rank_is in
    (rw c.remove-in-Some.ensures.items t, rw (length-set i.keys.items c.args.number None) (omega (arith, c.self.invariant.1, c.remove-in-Some.ensures.capacity)), rw (length-set i.keys.items c.args.number None) c.self.invariant.2)

pub returns-in-Some : goal.returns-in-Some
returns-in-Some c =
    let i = c.self.inside in
    let h = c.self.invariant.0 in
    let e : key_at i.keys.items c.args.number ≡ Some c.in-Some.key = sym (get_or_read i.keys.items c.args.number c.index.result.now (slot_within i.slab i.keys.items c.args.number (rw (← c.self.view_is) at c.requires)) c.index.ensures None) ∙ c.in-Some.is in
    rw (← c.self.view_is) (changed-remove i.slab c.remove.new.self i.keys.items i.live.items c.args.number c.in-Some.key h e c.remove.ensures.updates)
