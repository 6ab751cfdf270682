use Rattle.std.proofs.Common.{◌≡◌, Some, None, sym, ◌∙◌}
use Rattle.std.proofs.lemmas.List.{get_or_read}
use Rattle.o2_entries.specs.Tables.{key_at}
use Rattle.o2_entries.proofs.Tables.{slot_within, changed-set, IsTable-set}
use Rattle.o2_entries.proofs.Entries.set.Goals as goal

pub invariant_of-self : goal.invariant_of-self
invariant_of-self c =
    let i = c.self.inside in
    let e : key_at i.keys.items c.args.number ≡ Some c.in-Some.key = sym (get_or_read i.keys.items c.args.number c.index.result.now (slot_within i.slab i.keys.items c.args.number (rw (← c.self.view_is) at c.requires)) c.index.ensures None) ∙ c.in-Some.is in
    (IsTable-set i.slab i.keys.items i.live.items c.args.number c.in-Some.key c.args.entry c.self.invariant.0 e, c.self.invariant.1, c.self.invariant.2)

pub returns-in-Some : goal.returns-in-Some
returns-in-Some c =
    let i = c.self.inside in
    let e : key_at i.keys.items c.args.number ≡ Some c.in-Some.key = sym (get_or_read i.keys.items c.args.number c.index.result.now (slot_within i.slab i.keys.items c.args.number (rw (← c.self.view_is) at c.requires)) c.index.ensures None) ∙ c.in-Some.is in
    rw (← c.self.view_is) (changed-set i.slab i.keys.items i.live.items c.args.number c.in-Some.key c.args.entry c.self.invariant.0 e)
